use Rattle.std.proofs.Common.{◌≡◌, ◌≤◌, ◌-◌, length}
use Rattle.std.specs.Prelude.{replicate, vec_capacity}
use Rattle.disk_memory.proofs.image.Image.zeros.Given as goal

abbrev pub invariant-loop-blocks : goal.invariant-loop-blocks
invariant-loop-blocks l = (l.blocks.items ≡ replicate (length l.blocks.items) (replicate 1024 0)) × (length l.blocks.items ≤ l.n) × (l.n ≤ vec_capacity l.blocks)

abbrev pub decreases-loop-blocks : goal.decreases-loop-blocks
decreases-loop-blocks l = l.n - length l.blocks.items
