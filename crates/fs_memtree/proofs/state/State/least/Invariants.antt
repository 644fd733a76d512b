use Rattle.std.proofs.Common.{◌≡◌, ◌≤◌, ◌<◌, ◌+◌, ◌&&◌, not, ℕ, false, is_none}
use Rattle.std.specs.FinMap.{get}
use Rattle.fs_memtree.specs.Snapshots.{has_number}
use Rattle.fs_memtree.proofs.state.State.least.Given as goal

abbrev pub invariant-loop-used : goal.invariant-loop-used
invariant-loop-used l = (k : ℕ) → 1 ≤ k → k < l.used + 1 → (is_none (get l.self.nodes k) && not (has_number l.self.kept k)) ≡ false
