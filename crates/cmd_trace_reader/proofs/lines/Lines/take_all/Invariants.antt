-- The bytes so far are taken.
use Rattle.std.proofs.Common.{ℕ, ◌+◌, ◌-◌, ◌≤◌, ◌^◌, List, ◌++◌, length, take}
use Rattle.cmd_trace_reader.specs.Progress.{HasRead}
use Rattle.cmd_trace_reader.specs.declared.lines.Lines.{Lines}
use Rattle.cmd_trace_reader.proofs.lines.Lines.take_all.Given as goal

pub record IsTaking (done : ℕ) (bytes : List ℕ) (old now : Lines) : Type 0 where
  pub within : done ≤ length bytes
  pub taken : (seen : List ℕ) → length seen + length bytes ≤ 2 ^ 30 → HasRead seen old → HasRead (seen ++ take done bytes) now

abbrev pub invariant-loop-done : goal.invariant-loop-done
invariant-loop-done l = IsTaking l.done l.bytes l.fn.self l.self

abbrev pub decreases-loop-done : goal.decreases-loop-done
decreases-loop-done l = length l.bytes - l.done
