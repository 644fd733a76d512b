use Rattle.std.proofs.Common.{◌≡◌, ℕ, ◌<◌, ◌≤◌, false}
use Rattle.base_types.specs.Seal.{blocks_of}
use Rattle.layout_bitmap.specs.Bits.{bit_in}
use Rattle.layout_bitmap.proofs.scan.next_set.Given as goal

-- the bits before this one are clear
abbrev pub invariant-loop-b : goal.invariant-loop-b
invariant-loop-b l = (l.b ≤ l.end) × ((k : ℕ) → l.from ≤ k → k < l.b → bit_in (blocks_of l.map) k ≡ false)
