-- What the blocks of a formatted disk have for a map that has them: bits, the root, and no other node.
use Rattle.std.proofs.Common.{◌≡◌, ◌≢◌, ℕ, zero, suc, ◌+◌, ◌-◌, ◌*◌, ◌/◌, ◌%◌, ◌<◌, ◌≤◌, ◌==◌, ◌&&◌, nat_lt, true, List, [], ◌∷◌, ◌++◌, length, take, drop, replicate, get_or, slice_index, Some, None, refl, sym, ap, ap₂, ◌∙◌, ◌⊎◌, inl, inr, arith, take_all}
use Rattle.std.proofs.lemmas.Bool.{cases_eq, le-leb}
use Rattle.std.proofs.lemmas.List.{length-append, length-replicate, drop-replicate, take-replicate, take-append-le}
use Rattle.std.specs.Int.{bit_at}
use Rattle.byteorder.specs.Endian.{little_bytes}
use Rattle.base_types.specs.Seal.{Blocks}
use Rattle.base_types.specs.declared.layout.Layout.{Layout}
use Rattle.base_types.specs.Layouts.{node_block, node_byte}
use Rattle.base_types.specs.LayoutLaws.{node_size_is, some_node, node_within, node_in_table, node_apart, no_nodes_before, block_of_rank, byte_of_rank, first_rank, no_directory}
use Rattle.layout_geometry.specs.Geometry.{Geometry, IsGeometry, bitmap_start, bitmap_blocks, table_start, data_start}
use Rattle.layout_bytes.specs.Bitmap.{is_set}
use Rattle.layout_bytes.specs.Bytes.{when, are_zeros}
use Rattle.layout_bytes.specs.Node.{node_size, most_runs, node_spelling, node_bytes, node_at, node_of, node_with, node_fits, spare_zeros, used_kind}
use Rattle.layout_journal.specs.Formatted.{formatted, empty_root}

-- what layout_journal promises of the blocks of a formatted disk
pub record IsFormatted (g : Geometry) : Type 0 where
  pub bits : (b : ℕ) → b < 8192 * bitmap_blocks g → is_set g (formatted g) b ≡ nat_lt b (data_start g)
  pub journal : (b : ℕ) → 0 < b → b < bitmap_start g → formatted g b ≡ replicate 1024 0
  pub root : formatted g (table_start g) ≡ node_spelling g.layout empty_root ++ replicate (1024 - node_size g.layout) 0
  pub nodes : (b : ℕ) → table_start g < b → formatted g b ≡ replicate 1024 0
  pub whole : (b : ℕ) → length (formatted g b) ≡ 1024

-- a part of some zeros
zeros_part : (a k n : ℕ) → a + k ≤ n → take {A = ℕ} k (drop a (replicate n 0)) ≡ replicate k 0
zeros_part a k n within = ap (λ (xs : List ℕ). take k xs) (drop-replicate {X = ℕ} a n 0) ∙ take-replicate {X = ℕ} k (n - a) 0 (omega (arith, within))

-- a part of what is behind a list
part_behind : (xs ys : List ℕ) (a k : ℕ) → length xs ≤ a → take k (drop a (xs ++ ys)) ≡ take k (drop (a - length xs) ys)
part_behind [] ys a k h = ap (λ n. take k (drop n ys)) {y = a - 0} (omega arith)
part_behind (x ∷ xs) ys zero k h = absurd (omega (arith, h))
part_behind (x ∷ xs) ys (suc a) k h = part_behind xs ys a k (omega (arith, h)) ∙ ap (λ n. take k (drop n ys)) {y = suc a - suc (length xs)} (omega arith)

front : (xs ys : List ℕ) (k : ℕ) → length xs ≡ k → take k (xs ++ ys) ≡ xs
front xs ys k e = take-append-le k xs ys (omega (arith, e)) ∙ take_all k xs (omega (arith, e))

-- The root, and zeros, in a layout.

-- the fields of the root, before its runs
abbrev root_fields : List ℕ
root_fields = 1 ∷ 0 ∷ (little_bytes 2 0 ++ (little_bytes 4 1 ++ (little_bytes 8 0 ++ replicate 16 0)))

root_spelled : (l : Layout) → node_spelling l empty_root ≡ root_fields ++ replicate (node_size l - 32 - 8 * 0) 0
root_spelled l = refl

root_length : (l : Layout) → length (node_spelling l empty_root) ≡ node_size l
root_length l =
    let rest = replicate {A = ℕ} (node_size l - 32 - 8 * 0) 0 in
    let fields : length root_fields ≡ 32 = refl in
    ap length (root_spelled l) ∙ length-append root_fields rest ∙ omega (arith, fields, length-replicate {A = ℕ} (node_size l - 32 - 8 * 0) 0, node_size_is l)

zeros_here : (a n : ℕ) → are_zeros (take a (replicate n 0)) ≡ true
zeros_here zero n = refl
zeros_here (suc a) zero = refl
zeros_here (suc a) (suc n) = zeros_here a n

-- it fits, and carries nothing else
root_spare : (l : Layout) → spare_zeros l (node_spelling l empty_root) ≡ true
root_spare l = zeros_here (node_size l - 32) (node_size l - 32 - 8 * 0)

root_fits : (g : Geometry) → node_fits g empty_root ≡ true
root_fits g = ap₂ (λ few n. few && ((0 == (n + 1023) / 1024) && true)) (le-leb 0 (most_runs g.layout) (omega arith)) (no_directory g.layout)

root_reads : (g : Geometry) → node_of g (node_spelling g.layout empty_root) ≡ Some empty_root
unfolding node_of
root_reads g = ap₂ (λ spare fits. when spare (when fits (Some empty_root))) (root_spare g.layout) (root_fits g)

-- zeros are no node in use: the first of them tells no kind
first_zero : (n : ℕ) → slice_index (replicate n 0) 0 ≡ 0
first_zero zero = refl
first_zero (suc n) = refl

zeros_free : (g : Geometry) → node_of g (replicate (node_size g.layout) 0) ≡ None
unfolding node_of
zeros_free g = ap (λ n. node_with g (replicate (node_size g.layout) 0) (used_kind n)) (first_zero (node_size g.layout))

-- the root is the first node of the table
first_block : (l : Layout) → node_block l 1 ≡ 0
first_block l = ap (λ n. node_block l (n + 0 + 1)) (sym (no_nodes_before l)) ∙ block_of_rank l 0 0 (some_node l)

first_byte : (l : Layout) → node_byte l 1 ≡ 0
first_byte l = ap (λ n. node_byte l (n + 0 + 1)) (sym (no_nodes_before l)) ∙ byte_of_rank l 0 0 (some_node l) ∙ first_rank l

-- another node in its block lies behind it
behind_root : (l : Layout) (k : ℕ) → 2 ≤ k → node_block l k ≡ 0 → node_size l ≤ node_byte l k
behind_root l k low first = by (node_apart l 1 k (omega arith) (omega (arith, low)))
  where
    by : (node_block l 1 < node_block l k) ⊎ ((node_block l 1 ≡ node_block l k) × (node_byte l 1 + node_size l ≤ node_byte l k)) → node_size l ≤ node_byte l k
    by (inl before) = absurd (omega (arith, before, first))
    by (inr same) = omega (arith, same.1)

-- so it is zeros
others_there : (l : Layout) (at n : ℕ) → node_size l ≤ at → at + node_size l ≤ node_size l + n
    → take (node_size l) (drop at (node_spelling l empty_root ++ replicate n 0)) ≡ replicate (node_size l) 0
others_there l at n low high =
    part_behind (node_spelling l empty_root) (replicate n 0) at (node_size l) (omega (arith, low, root_length l))
    ∙ zeros_part (at - length (node_spelling l empty_root)) (node_size l) n (omega (arith, low, high, root_length l))

module _ (g : Geometry) (m : Blocks) (same : (b : ℕ) → bitmap_start g ≤ b → b < data_start g → m b ≡ formatted g b) (is : IsGeometry g) (law : IsFormatted g) where
  table_within : table_start g < data_start g
  table_within = omega (arith, node_in_table g.layout g.i 1 is.whole_blocks (omega arith) (omega (arith, is.least_nodes)))

  -- a bit is set exactly where it stands for a block before the data
  pub bits : (b : ℕ) → b < 8192 * bitmap_blocks g → is_set g m b ≡ nat_lt b (data_start g)
  bits b within =
      ap (λ x. bit_at (get_or x (b % 8192 / 8) 0) (b % 8) == 1) (same (bitmap_start g + b / 8192) (omega arith) (omega (arith, within)))
      ∙ law.bits b within

  pub root_bytes : node_bytes g m 1 ≡ node_spelling g.layout empty_root
  root_bytes =
      let place : ℕ = table_start g + node_block g.layout 1 in
      let is_first : place ≡ table_start g = omega (arith, first_block g.layout) in
      ap₂ (λ (at : ℕ) (xs : List ℕ). take (node_size g.layout) (drop at xs)) (first_byte g.layout)
      (same place (omega arith) (omega (arith, is_first, table_within)) ∙ ap (formatted g) is_first ∙ law.root)
      ∙ front (node_spelling g.layout empty_root) (replicate (1024 - node_size g.layout) 0) (node_size g.layout) (root_length g.layout)

  pub root_node : node_at g m 1 ≡ Some empty_root
  root_node = ap (node_of g) root_bytes ∙ root_reads g

  -- the other nodes are zeros
  pub other_bytes : (k : ℕ) → 2 ≤ k → k ≤ g.i → node_bytes g m k ≡ replicate (node_size g.layout) 0
  other_bytes k low high = by (cases_eq (node_block g.layout k) 0)
    where
      place : ℕ
      place = table_start g + node_block g.layout k

      at : m place ≡ formatted g place
      at = same place (omega arith) (omega (arith, node_in_table g.layout g.i k is.whole_blocks (omega (arith, low)) high))

      by : (node_block g.layout k ≡ 0) ⊎ (node_block g.layout k ≢ 0) → node_bytes g m k ≡ replicate (node_size g.layout) 0
      by (inl e) =
          ap (λ (xs : List ℕ). take (node_size g.layout) (drop (node_byte g.layout k) xs)) (at ∙ ap (formatted g) {x = place} {y = table_start g} (omega (arith, e)) ∙ law.root)
          ∙ others_there g.layout (node_byte g.layout k) (1024 - node_size g.layout) (behind_root g.layout k low e) (omega (arith, node_within g.layout k))
      by (inr d) =
          ap (λ (xs : List ℕ). take (node_size g.layout) (drop (node_byte g.layout k) xs)) (at ∙ law.nodes place (omega (arith, d)))
          ∙ zeros_part (node_byte g.layout k) (node_size g.layout) 1024 (node_within g.layout k)

  pub other_nodes : (k : ℕ) → 2 ≤ k → k ≤ g.i → node_at g m k ≡ None
  other_nodes k low high = ap (node_of g) (other_bytes k low high) ∙ zeros_free g
