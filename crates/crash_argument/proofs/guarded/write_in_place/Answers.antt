use Rattle.std.proofs.Common.{◌≡◌, ⊎_elim, ℕ, List, Result, Ok, Err}
use Rattle.disk_contract.specs.declared.event.Event.{Event}
use Rattle.disk_contract.specs.declared.disk.DiskFault.{DiskFault}
use Rattle.base_types.specs.Seal.{Blocks}
use Rattle.disk_contract.specs.Cell.{cell_of}
use Rattle.disk_contract.specs.Disk.{AddsWrite}
use Rattle.crash_argument.specs.JournalLaws.{JournalLaws}
use Rattle.crash_argument.specs.Ledger.{Ledger}
use Rattle.crash_argument.specs.Steps.{MayWriteInPlace}
use Rattle.crash_argument.specs.Points.{MountedSession, IsSafe}
use Rattle.crash_argument.proofs.steps.Safe.{safe_wrote_in_place, safe_lost_in_place, moved}
use Rattle.crash_argument.proofs.guarded.write_in_place.Goals as goal

written : JournalLaws → (s : MountedSession) (base base2 : Blocks) (log new : List Event) (l : Ledger) (t floor block : ℕ) (x : List ℕ) (r : Result ℕ DiskFault) → base2 ≡ base → MayWriteInPlace (cell_of base log) l block
    → AddsWrite block x r log new → IsSafe s base log l t floor → IsSafe s base2 new l t floor
written laws s base base2 log new l t floor block x (Ok n) same may adds safe = moved s base base2 _ new l t floor same adds.2 (safe_wrote_in_place laws s base log l t floor safe n block x may)
written laws s base base2 log new l t floor block x (Err e) same may adds safe =
    ⊎_elim (λ same_log. moved s base base2 log new l t floor same same_log safe) (λ lost. moved s base base2 _ new l t floor same lost (safe_lost_in_place laws s base log l t floor safe block x may)) adds

pub returns-clause-safe : goal.returns-clause-safe
returns-clause-safe g c = λ tells s l t floor may safe. written c.the_journal_is_lawful.ensures s _ _ _ _ l t floor c.args.block c.args.bytes.now c.write.result c.write.ensures.spends.same.base may (c.write.ensures.log tells) safe
