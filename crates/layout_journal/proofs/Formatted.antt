-- The formatted disk by its areas: the header, the bitmap, the root's block, and zeros.
use Rattle.std.proofs.Common.{◌≡◌, ◌≢◌, ℕ, ◌+◌, ◌-◌, ◌*◌, ◌/◌, ◌%◌, ◌<◌, ◌≤◌, ◌==◌, ◌&&◌, nat_lt, nat_le, Bool, true, false, refl, if◌then◌else◌, List, ◌++◌, length, get_or, replicate, ap, ◌∙◌, arith}
use Rattle.std.proofs.lemmas.Bool.{le-leb, lt-ltb, le-ltb, lt-leb, eq-eqb, ne_eqb, and_from}
use Rattle.std.proofs.lemmas.List.{length-append, length-replicate}
use Rattle.std.proofs.lemmas.List.FromFn.{length-map-range_with_len}
use Rattle.std.specs.Int.{bit_at}
use Rattle.sha2.proofs.Facts256.{length-sha256}
use Rattle.base_types.specs.Seal.{sha256}
use Rattle.base_types.specs.declared.layout.Layout.{Layout}
use Rattle.base_types.specs.LayoutLaws.{node_size_is, nodes_fit}
use Rattle.layout_geometry.specs.Geometry.{Geometry, IsGeometry, bitmap_start, bitmap_blocks, table_start, data_start}
use Rattle.layout_bytes.specs.Bitmap.{is_set, first_bits, first_bits_block}
use Rattle.layout_bytes.specs.Node.{node_size, node_spelling}
use Rattle.layout_journal.specs.declared.header.Header.{Header}
use Rattle.layout_journal.specs.Spelling.{header_body, header_block}
use Rattle.layout_journal.specs.Formatted.{formatted, empty_header, empty_root}
use Rattle.layout_journal.proofs.FirstBits.{set_among_first}

-- the formatted block by its three tests
abbrev block_by : Geometry → ℕ → Bool → Bool → Bool → List ℕ
block_by g b header bitmap root =
    if header then header_block (empty_header g 1 1)
    else if bitmap then first_bits_block (data_start g) (b - bitmap_start g)
    else if root then node_spelling g.layout empty_root ++ replicate (1024 - node_size g.layout) 0
    else replicate 1024 0

by_tests : (g : Geometry) (b : ℕ) (header bitmap root : Bool) → (b == 0) ≡ header → (nat_le (bitmap_start g) b && nat_lt b (table_start g)) ≡ bitmap → (b == table_start g) ≡ root
    → formatted g b ≡ block_by g b header bitmap root
by_tests g b header bitmap root h m r =
    ap (λ x. block_by g b x (nat_le (bitmap_start g) b && nat_lt b (table_start g)) (b == table_start g)) h
    ∙ ap (λ x. block_by g b header x (b == table_start g)) m
    ∙ ap (block_by g b header bitmap) r

second_fails : (p q : Bool) → p ≡ true → q ≡ false → (p && q) ≡ false
second_fails p q e f = ap (λ x. x && q) e ∙ f

-- between the header and the bitmap stand zeros
pub zeros_before : (g : Geometry) (b : ℕ) → b ≢ 0 → b < bitmap_start g → formatted g b ≡ replicate 1024 0
zeros_before g b d high = by_tests g b false false false (ne_eqb b 0 d) (ap (λ x. x && nat_lt b (table_start g)) (lt-leb (bitmap_start g) b high)) (ne_eqb b (table_start g) (omega (arith, high)))

pub bitmap_block : (g : Geometry) (b : ℕ) → bitmap_start g ≤ b → b < table_start g → formatted g b ≡ first_bits_block (data_start g) (b - bitmap_start g)
bitmap_block g b low high = by_tests g b false true (b == table_start g) (ne_eqb b 0 (omega (arith, low))) (and_from _ _ (le-leb _ _ low) (lt-ltb _ _ high)) refl

pub root_there : (g : Geometry) (b : ℕ) → b ≡ table_start g → formatted g b ≡ node_spelling g.layout empty_root ++ replicate (1024 - node_size g.layout) 0
root_there g b e = by_tests g b false false true (ne_eqb b 0 (omega (arith, e))) (second_fails _ _ (le-leb (bitmap_start g) b (omega (arith, e))) (le-ltb b (table_start g) (omega (arith, e)))) (eq-eqb _ _ e)

-- behind the root's block stand zeros
pub zeros_behind : (g : Geometry) (b : ℕ) → table_start g < b → formatted g b ≡ replicate 1024 0
zeros_behind g b low = by_tests g b false false false (ne_eqb b 0 (omega (arith, low))) (second_fails _ _ (le-leb (bitmap_start g) b (omega (arith, low))) (le-ltb b (table_start g) (omega (arith, low)))) (ne_eqb b (table_start g) (omega (arith, low)))

-- the bit of block b is set exactly where b is before the data
pub bit_is_first : (g : Geometry) (b : ℕ) → IsGeometry g → b < 8192 * bitmap_blocks g → is_set g (formatted g) b ≡ nat_lt b (data_start g)
bit_is_first g b is within =
    ap (λ x. bit_at (get_or x (b % 8192 / 8) 0) (b % 8) == 1)
    (bitmap_block g (bitmap_start g + b / 8192) (omega arith) (omega (arith, within)) ∙ ap (first_bits_block (data_start g)) {y = b / 8192} (omega arith))
    ∙ set_among_first (data_start g) b

-- Lengths.

header_length : (h : Header) → length (header_block h) ≡ 1024
header_length h = omega (arith, length-append (header_body h) (sha256 (header_body h)), length-replicate {A = ℕ} 932 0, length-sha256 (header_body h))

root_length : (l : Layout) → length (node_spelling l empty_root ++ replicate (1024 - node_size l) 0) ≡ 1024
root_length l =
    omega (arith, node_size_is l, nodes_fit l, length-append (node_spelling l empty_root) (replicate (1024 - node_size l) 0), length-replicate {A = ℕ} (node_size l - 32 - 8 * 0) 0, length-replicate {A = ℕ} (1024 - node_size l) 0)

whole_by : (g : Geometry) (b : ℕ) (header bitmap root : Bool) → length (block_by g b header bitmap root) ≡ 1024
whole_by g b true bitmap root = header_length (empty_header g 1 1)
whole_by g b false true root = length-map-range_with_len (first_bits (data_start g)) (1024 * (b - bitmap_start g)) 1024
whole_by g b false false true = root_length g.layout
whole_by g b false false false = length-replicate {A = ℕ} 1024 0

-- each block has 1,024 bytes
pub block_is_whole : (g : Geometry) (b : ℕ) → length (formatted g b) ≡ 1024
block_is_whole g b = whole_by g b (b == 0) (nat_le (bitmap_start g) b && nat_lt b (table_start g)) (b == table_start g)
