use Rattle.std.proofs.Common.{◌≡◌, ◌≤◌, ◌++◌, length, drop}
use Rattle.layout_extent.proofs.Cut.{cut_runs}
use Rattle.layout_extent.proofs.runs.Runs.front.Given as goal

-- what is kept, and what the rest gives, make the whole
abbrev pub invariant-loop-run : goal.invariant-loop-run
invariant-loop-run l = (l.kept ++ cut_runs l.left (drop l.run-index l.run-items) ≡ cut_runs l.count l.run-items) × (length l.kept ≤ l.run-index)
