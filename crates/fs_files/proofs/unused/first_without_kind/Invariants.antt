use Rattle.std.proofs.Common.{◌≢◌, ℕ, ◌<◌, ◌≤◌}
use Rattle.fs_files.specs.Nodes.{kind_in}
use Rattle.fs_files.proofs.unused.first_without_kind.Given as goal

-- the nodes before this one have kind bytes that aren't zero
abbrev pub invariant-loop-number : goal.invariant-loop-number
invariant-loop-number l = (l.number ≤ l.end) × ((k : ℕ) → l.from ≤ k → k < l.number → kind_in l.layout l.table k ≢ 0)
