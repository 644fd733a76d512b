-- The bits of the blocks that directories and snapshots have, set node by node.
use Rattle.std.specs.Prelude.{◌≡◌, ◌↔◌, ◌⊎◌, ℕ, ◌<◌, true, List}
use Rattle.base_types.specs.Seal.{Blocks}
use Rattle.layout_extent.specs.Renew.{IsAmong}
use Rattle.layout_geometry.specs.Geometry.{Geometry}
use Rattle.layout_bytes.specs.Bitmap.{bit_in}
use Rattle.fs_check.specs.BrokenSnapshots.{IsFirm}

-- the bits are those of just the blocks that directories and snapshots below node k have
abbrev pub AreFirmBelow : Geometry → Blocks → ℕ → Blocks → Type 0
AreFirmBelow g m k firm = (b : ℕ) → b < g.n → (bit_in firm b ≡ true) ↔ ((is : IsFirm g m b) × (is.number < k))

-- the bits of these blocks are set, and all others are as they were
abbrev pub SetsBits : List ℕ → Blocks → Blocks → Type 0
SetsBits places old new = (b : ℕ) → (bit_in new b ≡ true) ↔ ((bit_in old b ≡ true) ⊎ IsAmong places b)
