-- The bits of a whole bitmap: which of them are wrong, which data blocks are free, and what it is to write one. It is described in docs/LAYOUT.md.
use Rattle.std.specs.Prelude.{◌≡◌, ℕ, ◌-◌, ◌*◌, ◌≤◌, ◌<◌, ◌==◌, Bool, false, not, ◌&&◌, ◌||◌, nat_lt, nat_le, if◌then◌else◌, List}
use Rattle.std.specs.List.{filter, range_with_len}
use Rattle.base_types.specs.Seal.{Blocks}
use Rattle.layout_geometry.specs.Geometry.{Geometry, bitmap_blocks, data_start}
pub use Rattle.layout_bytes.specs.Bitmap.{bit_in}

-- the bit of a block before the data is clear, or that of a number from n on is set
abbrev pub is_bad_bit : Geometry → Blocks → ℕ → Bool
is_bad_bit g m b = (nat_lt b (data_start g) && not (bit_in m b)) || (nat_le g.n b && (nat_lt b (8192 * bitmap_blocks g) && bit_in m b))

-- block b is a data block whose bit is clear
pub record IsFree (g : Geometry) (m : Blocks) (b : ℕ) : Type 0 where
  pub from : data_start g ≤ b
  pub below : b < g.n
  pub clear : bit_in m b ≡ false

-- the data blocks whose bits are clear, ascending
abbrev pub free_blocks : Geometry → Blocks → List ℕ
free_blocks g m = filter (λ b. not (bit_in m b)) (range_with_len (data_start g) (g.n - data_start g))

-- bit b was written, and every other bit is as before
abbrev pub BitBecomes : Blocks → Blocks → ℕ → Bool → Type 0
BitBecomes old new b bit = (k : ℕ) → bit_in new k ≡ (if k == b then bit else bit_in old k)
