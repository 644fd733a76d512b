use Rattle.base_types.specs.Seal.{blocks_of}
use Rattle.std.proofs.Common.{◌-◌, length}
use Rattle.layout_bitmap.proofs.Counts.{AreFound}
use Rattle.layout_bitmap.proofs.free.lowest.Given as goal

-- the free blocks before this place are found
abbrev pub invariant-loop-count : goal.invariant-loop-count
invariant-loop-count l = AreFound l.geom (blocks_of l.map) l.fn.into l.into l.count l.from

-- so many places are left
abbrev pub decreases-loop-count : goal.decreases-loop-count
decreases-loop-count l = length l.into - l.count
