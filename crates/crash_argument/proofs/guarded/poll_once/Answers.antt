use Rattle.std.proofs.Common.{◌≡◌, ℕ, List, Option, Some, None, Result, Ok, Err}
use Rattle.disk_contract.specs.declared.event.Event.{Event}
use Rattle.disk_contract.specs.declared.disk.DiskFault.{DiskFault}
use Rattle.base_types.specs.Seal.{Blocks}
use Rattle.disk_contract.specs.Disk.{AddsPoll}
use Rattle.crash_argument.specs.JournalLaws.{JournalLaws}
use Rattle.crash_argument.specs.Ledger.{Ledger}
use Rattle.crash_argument.specs.Points.{MountedSession, IsSafe}
use Rattle.crash_argument.proofs.steps.Safe.{safe_notice, moved}
use Rattle.crash_argument.proofs.pipe.PipelineNotices.{holds_poll}
use Rattle.crash_argument.proofs.guarded.poll_once.Goals as goal

polled : JournalLaws → (s : MountedSession) (base base2 : Blocks) (log new : List Event) (l : Ledger) (t floor : ℕ) (r : Result (Option ℕ) DiskFault) → base2 ≡ base → AddsPoll r log new → IsSafe s base log l t floor → IsSafe s base2 new l t floor
polled laws s base base2 log new l t floor (Ok (Some n)) same adds safe = moved s base base2 _ new l t floor same adds.1 (safe_notice laws s base log l t floor safe n)
polled laws s base base2 log new l t floor (Ok None) same adds safe = moved s base base2 log new l t floor same adds safe
polled laws s base base2 log new l t floor (Err e) same adds safe = moved s base base2 log new l t floor same adds safe

pub returns-clause-safe : goal.returns-clause-safe
returns-clause-safe g c = λ tells s l t floor safe. polled c.the_journal_is_lawful.ensures s _ _ _ _ l t floor c.poll.result c.poll.ensures.spends.same.base (c.poll.ensures.log tells) safe

pub returns-clause-knows : goal.returns-clause-knows
returns-clause-knows g c = λ tells l p h. holds_poll _ _ _ _ l p c.poll.result c.poll.ensures.spends.same.base (c.poll.ensures.log tells) h
