use Rattle.std.proofs.Common.{◌≡◌, ◌≤◌}
use Rattle.base_types.specs.Seal.{blocks_of}
use Rattle.engine_reuse.specs.Numbers.{set_of}
use Rattle.engine_reuse.proofs.Steps.{is_free_before}
use Rattle.engine_reuse.proofs.reuse.free_numbers.Given as goal

-- the free blocks before this one are members
abbrev pub invariant-loop-block : goal.invariant-loop-block
invariant-loop-block l = (l.free ≡ set_of l.initial.free.limit (is_free_before l.geom (blocks_of l.bitmap) l.block)) × (l.geom.n ≤ l.initial.free.limit)
