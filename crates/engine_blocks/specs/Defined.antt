-- On which blocks a map is defined, and what it has there.
use Rattle.std.proofs.Common.{◌≡◌, ℕ, ◌+◌, ◌*◌, ◌/◌, ◌%◌, ◌<◌, ◌≤◌, ◌==◌, nat_lt, true, false, not, ◌&&◌, ◌||◌, [], ap, ap₂, arith}
use Rattle.std.proofs.lemmas.Bool.{cond-true, cond-false, le-leb, lt-ltb}
use Rattle.std.specs.Int.{bit_at}
use Rattle.std.specs.Prelude.{slice_index}
use Rattle.base_types.specs.Seal.{Blocks}
use Rattle.layout_geometry.specs.Geometry.{bitmap_start, bitmap_blocks, data_start}
use Rattle.layout_bytes.specs.Bitmap.{is_set}
use Rattle.engine_blocks.specs.Running.{is_bare}
use Rattle.engine_blocks.specs.State.{Bookkeeping, is_defined, defined_part}

pub defined_at : (k : Bookkeeping) (m : Blocks) (b : ℕ) → is_defined k b ≡ true → defined_part k m b ≡ m b
defined_at k m b e = cond-true (is_defined k b) (m b) [] e

pub undefined_at : (k : Bookkeeping) (m : Blocks) (b : ℕ) → is_defined k b ≡ false → defined_part k m b ≡ []
undefined_at k m b e = cond-false (is_defined k b) (m b) [] e

-- it is defined on the bitmap and the node table
pub table_defined : (k : Bookkeeping) (b : ℕ) → bitmap_start k.geom ≤ b → b < data_start k.geom → is_defined k b ≡ true
table_defined k b from below =
    ap₂ (λ x y. x && (y || (nat_lt b k.geom.n && (k.marked b && not (is_bare (k.running.roles b)))))) (le-leb (bitmap_start k.geom) b from) (lt-ltb b (data_start k.geom) below)

-- so all bits of the bitmap are known
pub bitmap_bit : (k : Bookkeeping) (m : Blocks) (b : ℕ) → b < 8192 * bitmap_blocks k.geom → is_set k.geom (defined_part k m) b ≡ is_set k.geom m b
bitmap_bit k m b low =
    ap (λ x. bit_at (slice_index x (b % 8192 / 8)) (b % 8) == 1)
    (defined_at k m (bitmap_start k.geom + b / 8192) (table_defined k (bitmap_start k.geom + b / 8192) (omega arith) (omega (arith, low))))

pub disk_bit : (k : Bookkeeping) (m : Blocks) (b : ℕ) → b < k.geom.n → is_set k.geom (defined_part k m) b ≡ is_set k.geom m b
disk_bit k m b low = bitmap_bit k m b (omega (arith, low))
