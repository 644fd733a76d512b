use Rattle.std.proofs.Common.{◌≡◌, ⊎_elim, inl, inr, ℕ, List, [], ◌∷◌, ◌++◌, Result, Ok, Err, ◌∙◌, ap}
use Rattle.disk_contract.specs.declared.event.Event.TheVariants.{Wrote, Lost}
use Rattle.disk_contract.specs.declared.disk.DiskFault.{DiskFault}
use Rattle.base_types.specs.Seal.{Blocks}
use Rattle.disk_contract.specs.Disk.{State, AddsWrite}
use Rattle.layout_geometry.specs.Geometry.{ring_block}
use Rattle.crash_argument.specs.JournalLaws.{JournalLaws}
use Rattle.crash_argument.specs.Ledger.{Ledger, WrittenRecord, block_at}
use Rattle.crash_argument.specs.Steps.{IsReadyToCommit, with_record}
use Rattle.crash_argument.specs.Points.{MountedSession, IsSafe, CommitWritten}
use Rattle.crash_argument.proofs.steps.Safe.{safe_wrote_commit, safe_lost_commit, moved}
use Rattle.crash_argument.proofs.guarded.write_commit.Goals as goal

written : JournalLaws → (s : MountedSession) (old new : State) (l : Ledger) (w : WrittenRecord) (m : Blocks) (t floor block : ℕ) (x : List ℕ) (r : Result ℕ DiskFault) → new.base ≡ old.base → block ≡ ring_block l.geom w.says.place → x ≡ block_at w.ring 0
    → IsReadyToCommit old.base old.log l w m → AddsWrite block x r old.log new.log → IsSafe s old.base old.log l t floor → CommitWritten s l w m t floor r old new
written laws s old new l w m t floor block x (Ok n) same at is ready adds safe =
    moved s old.base new.base _ new.log (with_record l w m) t floor same (adds.2 ∙ ap (λ b. old.log ++ Wrote n b x ∷ []) at ∙ ap (λ y. old.log ++ Wrote n (ring_block l.geom w.says.place) y ∷ []) is) (safe_wrote_commit laws s old.base old.log l t floor safe n w m ready)
written laws s old new l w m t floor block x (Err e) same at is ready adds safe =
    ⊎_elim (λ same_log. inl (same_log, moved s old.base new.base old.log new.log l t floor same same_log safe))
    (λ lost. inr (moved s old.base new.base _ new.log (with_record l w m) t floor same (lost ∙ ap (λ b. old.log ++ Lost b x ∷ []) at ∙ ap (λ y. old.log ++ Lost (ring_block l.geom w.says.place) y ∷ []) is) (safe_lost_commit laws s old.base old.log l t floor safe w m ready))) adds

pub returns-clause-safe : goal.returns-clause-safe
returns-clause-safe g c = λ tells s l w m t floor at is ready safe. written c.the_journal_is_lawful.ensures s (g.D.Disk.state c.args.disk.now) (g.D.Disk.state c.write.new.self) l w m t floor c.args.block c.args.bytes.now c.write.result c.write.ensures.spends.same.base at is ready (c.write.ensures.log tells) safe
