-- The map of blocks by the books, where it is defined, and its bits.
use Rattle.std.proofs.Common.{◌≡◌, ℕ, ◌+◌, ◌*◌, ◌/◌, ◌%◌, ◌<◌, ◌≤◌, ◌==◌, nat_lt, Bool, true, false, not, ◌||◌, ◌&&◌, [], ap, ap₂, ◌∙◌, arith}
use Rattle.std.proofs.lemmas.Bool.{cond-true, cond-false, le-leb, lt-ltb}
use Rattle.std.specs.Int.{bit_at}
use Rattle.std.specs.Prelude.{slice_index}
use Rattle.std.proofs.lemmas.Bool.Decides.{nat_tests}
use Rattle.base_types.specs.Seal.{Blocks}
use Rattle.layout_geometry.specs.Geometry.{Geometry, bitmap_start, bitmap_blocks, data_start}
use Rattle.layout_bytes.specs.Bitmap.{is_set}
use Rattle.layout_journal.specs.Run.{otherwise, or_else}
use Rattle.engine_running.specs.Rows.{put_of}
use Rattle.engine_running.specs.Running.{Changes}
use Rattle.engine_blocks.specs.Running.{is_bare}
use Rattle.engine_blocks.specs.State.{defined_by}
use Rattle.engine_books.specs.Books.{TransactionBooks, bit_now, roles_of, is_marked, bytes_over, map_of}
use Rattle.engine_books.specs.Point.{BeganAt}

-- the map is defined on the bitmap and the node table
pub table_defined : (g : Geometry) (m bare : Bool) (b : ℕ) → bitmap_start g ≤ b → b < data_start g → defined_by g m bare b ≡ true
table_defined g m bare b from below = ap₂ (λ x y. x && (y || (nat_lt b g.n && (m && not bare)))) (le-leb (bitmap_start g) b from) (lt-ltb b (data_start g) below)

-- on a data block it is defined where the block is marked and isn't bare
pub data_undefined : (g : Geometry) (m bare : Bool) (b : ℕ) → data_start g ≤ b → (m && not bare) ≡ false → defined_by g m bare b ≡ false
data_undefined g m bare b from e = grind (arith, nat_tests, from, e)

pub data_defined : (g : Geometry) (m bare : Bool) (b : ℕ) → data_start g ≤ b → b < g.n → m ≡ true → bare ≡ false → defined_by g m bare b ≡ true
data_defined g m bare b from below e f = grind (arith, nat_tests, from, below, e, f)

-- the bytes of a block whose puts are the same
pub same_bytes : (c d : Changes) (last : Blocks) (b : ℕ) → put_of b d.laid ≡ put_of b c.laid → put_of b d.paid ≡ put_of b c.paid → bytes_over d last b ≡ bytes_over c last b
same_bytes c d last b e f = ap₂ (λ x y. otherwise (or_else x y) (last b)) e f

-- the map where it is defined and isn't
pub map_there : (v : TransactionBooks) (last : Blocks) (b : ℕ) → defined_by v.geom (is_marked v b) (is_bare (roles_of v b)) b ≡ true → map_of v last b ≡ bytes_over v.changes last b
map_there v last b e = cond-true (defined_by v.geom (is_marked v b) (is_bare (roles_of v b)) b) (bytes_over v.changes last b) [] e

pub map_nowhere : (v : TransactionBooks) (last : Blocks) (b : ℕ) → defined_by v.geom (is_marked v b) (is_bare (roles_of v b)) b ≡ false → map_of v last b ≡ []
map_nowhere v last b e = cond-false (defined_by v.geom (is_marked v b) (is_bare (roles_of v b)) b) (bytes_over v.changes last b) [] e

-- its bits are those of the bitmap now
pub map_bit : (v : TransactionBooks) (last : Blocks) (b : ℕ) → BeganAt v last → b < 8192 * bitmap_blocks v.geom → is_set v.geom (map_of v last) b ≡ bit_now v b
map_bit v last b began low =
    ap (λ x. bit_at (slice_index x (b % 8192 / 8)) (b % 8) == 1)
    (map_there v last (bitmap_start v.geom + b / 8192) (table_defined v.geom (is_marked v (bitmap_start v.geom + b / 8192)) (is_bare (roles_of v (bitmap_start v.geom + b / 8192))) (bitmap_start v.geom + b / 8192) (omega arith) (omega (arith, low)))
    ∙ began.bitmap (b / 8192) (omega (arith, low)))
