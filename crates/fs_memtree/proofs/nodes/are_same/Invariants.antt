use Rattle.std.proofs.Common.{◌≡◌, ℕ, ◌+◌, ◌<◌}
use Rattle.fs_memtree.specs.Stored.{things, thing_in}
use Rattle.fs_memtree.proofs.nodes.are_same.Given as goal

abbrev pub invariant-loop-index : goal.invariant-loop-index
invariant-loop-index l = (k : ℕ) → k < l.index → thing_in (things l.left) (k + 1) ≡ thing_in (things l.right) (k + 1)
