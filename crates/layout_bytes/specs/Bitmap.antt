-- The bitmap: which blocks are in use. It is described in docs/LAYOUT.md.
use Rattle.std.specs.Prelude.{ℕ, ◌+◌, ◌-◌, ◌*◌, ◌/◌, ◌%◌, ◌^◌, min, ◌==◌, Bool, List, map, slice_index}
use Rattle.std.specs.Int.{bit_at}
use Rattle.std.specs.List.{range_with_len}
use Rattle.base_types.specs.Seal.{Blocks}
use Rattle.layout_geometry.specs.Geometry.{Geometry, bitmap_start}

-- whether a bitmap of these blocks has the bit of block b: in byte b / 8 of the bitmap, bit b % 8 from the lowest
abbrev pub bit_in : Blocks → ℕ → Bool
bit_in m b = bit_at (slice_index (m (b / 8192)) (b % 8192 / 8)) (b % 8) == 1

-- whether the bitmap among the blocks of a disk has the bit of block b
abbrev pub is_set : Geometry → Blocks → ℕ → Bool
is_set g m b = bit_in (λ k. m (bitmap_start g + k)) b

-- byte i of a bitmap in which the first d blocks are set, and no others
abbrev pub first_bits : ℕ → ℕ → ℕ
first_bits d i = 2 ^ min (d - 8 * i) 8 - 1

-- block k of such a bitmap
abbrev pub first_bits_block : ℕ → ℕ → List ℕ
first_bits_block d k = map (first_bits d) (range_with_len (1024 * k) 1024)
