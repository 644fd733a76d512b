use Rattle.std.proofs.Common.{◌≡◌, ℕ, ◌-◌, ◌<◌, ◌≤◌, true}
use Rattle.base_types.specs.Seal.{blocks_of}
use Rattle.layout_bitmap.specs.Bits.{bit_in}
use Rattle.layout_bitmap.proofs.scan.next_clear.Given as goal

-- the bits before this one are set
abbrev pub invariant-loop-at : goal.invariant-loop-at
invariant-loop-at l = (l.from ≤ l.at) × ((b : ℕ) → l.from ≤ b → b < l.at → bit_in (blocks_of l.map) b ≡ true)

-- so many bits are left
abbrev pub decreases-loop-at : goal.decreases-loop-at
decreases-loop-at l = l.end - l.at
