-- The next header, named by the data.
use Rattle.std.proofs.Common.{◌≡◌, ℕ, ◌-◌, ◌<◌, List, [], ◌∷◌, ◌++◌, Some, None, sym, ◌∙◌, ap, subst, arith}
use Rattle.base_types.specs.Seal.{Blocks}
use Rattle.disk_contract.specs.declared.event.Event.{Event}
use Rattle.disk_contract.specs.declared.event.Event.TheVariants.{Wrote}
use Rattle.disk_contract.specs.Cell.{cell_of, greatest_ticket, IsNoticed}
use Rattle.layout_journal.specs.Layout.{header_of}
use Rattle.crash_argument.specs.Ledger.{Ledger, IsConsistentWith}
use Rattle.crash_argument.specs.Steps.{MayWriteHeader, with_header}
use Rattle.crash_argument.specs.PipelineData.{PipelineData, DataAgree, next_header, with_pending}
use Rattle.crash_argument.proofs.pipe.PipelineSteps.{next_header_may}
use Rattle.crash_argument.proofs.pipe.PipelineWrites.{knows_header}

-- where no header waits for its notice, the next one may be written
pub next_header_may_be : (base : Blocks) (log : List Event) (l : Ledger) (p : PipelineData) (x : List ℕ) → IsConsistentWith base log l → DataAgree base log l p → l.next ≡ None → header_of l.geom.n x ≡ Some (next_header l p.placed) → MayWriteHeader (cell_of base log) l x (next_header l p.placed)
next_header_may_be base log l p x keeps k alone reads =
    subst (λ n. MayWriteHeader (cell_of base log) l x (next_header l n)) k.placed_is (next_header_may base log l keeps p k x alone (reads ∙ ap (λ n. Some (next_header l n)) (sym k.placed_is)))

-- and once it is written the data agree with the ledger that has it
pub knows_next_header : (base : Blocks) (log : List Event) (l : Ledger) (p : PipelineData) (x : List ℕ) (t : ℕ) → IsConsistentWith base log l → DataAgree base log l p → l.next ≡ None → header_of l.geom.n x ≡ Some (next_header l p.placed) → greatest_ticket log < t → ¬ IsNoticed t log
    → DataAgree base (log ++ Wrote t (1 - l.slot) x ∷ []) (with_header l (next_header l p.placed)) (with_pending p t)
knows_next_header base log l p x t keeps k alone reads high none = knows_header base log l keeps p k t x (next_header l p.placed) high none (next_header_may_be base log l p x keeps k alone reads) (omega (arith, k.placed_is))
