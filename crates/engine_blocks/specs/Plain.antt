-- What is known of a map of blocks in memory, by its parts. It is described in docs/BLOCKS.md.
use Rattle.std.specs.Prelude.{◌≡◌, ℕ, ◌+◌, ◌-◌, ◌<◌, ◌≤◌, Bool, false, nat_lt, not, ◌&&◌, if◌then◌else◌, List, [], length, slice_index_or, None}
use Rattle.base_types.specs.Seal.{Blocks, blocks_of}
use Rattle.layout_geometry.specs.Geometry.{Geometry, bitmap_start}
use Rattle.layout_bytes.specs.Bitmap.{bit_in, is_set}
use Rattle.engine_blocks.specs.declared.role.Role.{Role}
use Rattle.engine_blocks.specs.declared.role.Role.TheVariants.{Untouched}
use Rattle.engine_blocks.specs.Running.{has, has_bit}
use Rattle.engine_blocks.specs.State.{CrashView}

-- the role of each block, from those of a list
abbrev pub role_in : List Role → ℕ → Role
role_in roles b = slice_index_or roles b Untouched

-- the blocks of the bitmap among those of a map
abbrev pub bits_of : Geometry → Blocks → Blocks
bits_of g m k = m (bitmap_start g + k)

-- a block of the disk is marked where its bit is set
abbrev pub marks_of : Geometry → Blocks → ℕ → Bool
marks_of g m b = nat_lt b g.n && is_set g m b

-- a number may be taken where its bit is clear
abbrev pub clear_in : Blocks → ℕ → Bool
clear_in busy b = not (bit_in busy b)

-- the bits of these blocks are new, and nothing else
pub record IsWithBits (g : Geometry) (old new : Blocks) (bs : List ℕ) (bit : Bool) : Type 0 where
  pub bits : (b : ℕ) → is_set g new b ≡ (if has bs b then bit else is_set g old b)
  pub others : (c : ℕ) → has_bit g bs c ≡ false → new c ≡ old c

-- m is what the blocks were at a point
pub record IsKeptPoint (points : List (List (List ℕ))) (p : ℕ) (m : Blocks) : Type 0 where
  pub below : p < length points
  pub is : m ≡ blocks_of (slice_index_or points p [])

-- m is what they were at a point from the floor on
pub record IsKeptFrom (points : List (List (List ℕ))) (floor : ℕ) (m : Blocks) : Type 0 where
  pub point : ℕ
  pub from : floor ≤ point
  pub kept : IsKeptPoint points point m

-- memory has no events, and each point is sure at once: a crash leaves the map itself of any point from the floor on, and all that was issued is the last one
abbrev pub crash_of : List (List (List ℕ)) → ℕ → CrashView
crash_of points floor = record {
  base = λ b. [];
  log = [];
  is_point = λ p m. IsKeptPoint points p m;
  left_since = λ t m. IsKeptFrom points floor m;
  holds = λ img m. img ≡ m;
  issued = λ m. IsKeptPoint points (length points - 1) m;
  awaits = λ p t. ⊥;
  sure = λ log p. Unit {0};
  records = record { told = λ log. None; starts = λ log number. ⊥ };
}
