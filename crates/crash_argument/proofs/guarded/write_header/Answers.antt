use Rattle.std.proofs.Common.{◌≡◌, ⊎_elim, inl, inr, ℕ, ◌-◌, List, [], ◌∷◌, ◌++◌, Result, Ok, Err, ◌∙◌, ap}
use Rattle.disk_contract.specs.declared.event.Event.TheVariants.{Wrote, Lost}
use Rattle.disk_contract.specs.declared.disk.DiskFault.{DiskFault}
use Rattle.disk_contract.specs.Cell.{cell_of}
use Rattle.disk_contract.specs.Disk.{State, AddsWrite}
use Rattle.layout_journal.specs.declared.header.Header.{Header}
use Rattle.crash_argument.specs.JournalLaws.{JournalLaws}
use Rattle.crash_argument.specs.Ledger.{Ledger}
use Rattle.crash_argument.specs.Steps.{MayWriteHeader, with_header}
use Rattle.crash_argument.specs.Points.{MountedSession, IsSafe, HeaderWritten}
use Rattle.crash_argument.proofs.steps.Safe.{safe_wrote_header, safe_lost_header, moved}
use Rattle.crash_argument.proofs.guarded.write_header.Goals as goal

written : JournalLaws → (s : MountedSession) (old new : State) (l : Ledger) (h : Header) (t floor slot : ℕ) (x : List ℕ) (r : Result ℕ DiskFault) → new.base ≡ old.base → slot ≡ 1 - l.slot
    → MayWriteHeader (cell_of old.base old.log) l x h → AddsWrite slot x r old.log new.log → IsSafe s old.base old.log l t floor → HeaderWritten s l h t floor r old new
written laws s old new l h t floor slot x (Ok n) same at may adds safe = moved s old.base new.base _ new.log (with_header l h) t floor same (adds.2 ∙ ap (λ b. old.log ++ Wrote n b x ∷ []) at) (safe_wrote_header laws s old.base old.log l t floor safe n x h may)
written laws s old new l h t floor slot x (Err e) same at may adds safe =
    ⊎_elim (λ same_log. inl (same_log, moved s old.base new.base old.log new.log l t floor same same_log safe)) (λ lost. inr (moved s old.base new.base _ new.log (with_header l h) t floor same (lost ∙ ap (λ b. old.log ++ Lost b x ∷ []) at) (safe_lost_header laws s old.base old.log l t floor safe x h may))) adds

pub returns-clause-safe : goal.returns-clause-safe
returns-clause-safe g c = λ tells s l h t floor at may safe. written c.the_journal_is_lawful.ensures s (g.D.Disk.state c.args.disk.now) (g.D.Disk.state c.write.new.self) l h t floor c.args.slot c.args.bytes.now c.write.result c.write.ensures.spends.same.base at may (c.write.ensures.log tells) safe
