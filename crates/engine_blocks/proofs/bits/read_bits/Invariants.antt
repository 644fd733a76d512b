use Rattle.std.proofs.Common.{◌≡◌, ◌+◌, ◌<◌, ℕ}
use Rattle.base_types.specs.Seal.{blocks_of}
use Rattle.layout_geometry.specs.Geometry.{bitmap_start}
use Rattle.engine_blocks.proofs.bits.read_bits.Given as goal

abbrev pub invariant-loop-k : goal.invariant-loop-k
invariant-loop-k l = (k : ℕ) → k < l.k → blocks_of l.into k ≡ blocks_of l.history.now (bitmap_start l.geom + k)
