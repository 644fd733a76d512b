-- So far no item was given.
use Rattle.std.proofs.Common.{ℕ, ◌-◌, ◌≤◌, ◌^◌, List, Option}
use Rattle.lang_lines.specs.Lines.{items_of_line, longest}
use Rattle.lang_lines.specs.Reading.{ReaderState, HoldsItems}
use Rattle.lang_lines.proofs.reader.LineReader.next.Given as goal

pub record IsCalling {A : Type 0} (each : List ℕ → List A) (old now : ReaderState) (left left_now : Option (List ℕ)) (faults faults_now : ℕ) : Type 0 where
  pub holds : HoldsItems each old now left left_now
  pub risen : faults ≤ faults_now

abbrev pub invariant-loop-alloc : goal.invariant-loop-alloc
invariant-loop-alloc g l = IsCalling (items_of_line g.P.LineParser.bad g.P.LineParser.says longest) l.fn.self l.self (g.S.Source.remaining l.fn.input) (g.S.Source.remaining l.input) (g.S.Source.faults l.fn.input) (g.S.Source.faults l.input)

abbrev pub decreases-loop-alloc : goal.decreases-loop-alloc
decreases-loop-alloc g l = 2 ^ 30 - l.self.count
