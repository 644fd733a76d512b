-- So many bytes are read, never more than a trace may have, and no call of the source failed.
use Rattle.std.proofs.Common.{◌≡◌, ℕ, ◌≤◌, ◌-◌, ◌^◌, List, Option}
use Rattle.cmd_trace_reader.specs.Progress.{At}
use Rattle.cmd_trace_reader.proofs.input.read_all.Given as goal

pub record IsReading (count before now : ℕ) (begun going : Option (List ℕ) → Type 0) : Type 0 where
  pub within : count ≤ 2 ^ 30
  pub same : now ≡ before
  pub so_far : (first : Option (List ℕ)) → begun first → going first

abbrev pub invariant-loop-count : goal.invariant-loop-count
invariant-loop-count g l =
    IsReading l.count (g.S.Source.faults l.fn.input) (g.S.Source.faults l.input)
    (λ first. At first (g.S.Source.remaining l.fn.input) 0 l.fn.lines)
    (λ first. At first (g.S.Source.remaining l.input) l.count l.lines)

abbrev pub decreases-loop-count : goal.decreases-loop-count
decreases-loop-count g l = 2 ^ 30 - l.count
