-- Bytes written over a part of a list, and the nodes of a node table in which one node was written.
use Rattle.std.proofs.Common.{◌≡◌, ◌≢◌, ◌⊎◌, inl, inr, ℕ, ◌+◌, ◌-◌, ◌%◌, ◌<◌, ◌≤◌, ◌&&◌, Bool, true, List, ◌++◌, length, take, drop, Option, None, nat_le, sym, ap, ◌∙◌, arith}
use Rattle.std.proofs.lemmas.List.{take-append-le, drop-append-le, length-drop, take-take, drop-take, length-take-le, drop-drop}
use Rattle.std.proofs.Math.Seq.{take-append_seam, drop-append_seam, drop-append-add}
use Rattle.std.proofs.lemmas.Bool.{cases_eq, cases_lt, and_from, and_parts, le-leb, leb-true}
use Rattle.std.proofs.lemmas.Bool.Decides.{nat_tests}
use Rattle.std.proofs.lemmas.Grind.{common_steps}
use Rattle.fs_files.proofs.bytes.Overwrites.{length-overwrite}
use Rattle.base_types.specs.Seal.{Blocks}
use Rattle.base_types.specs.Layouts.{node_size, node_block as block_of, node_byte}
use Rattle.base_types.specs.LayoutLaws.{node_apart, node_in_table, node_within}
use Rattle.layout_geometry.specs.Geometry.{Geometry, table_start, data_start}
use Rattle.layout_bytes.specs.declared.node.Node.{Node}
use Rattle.layout_bytes.specs.declared.node.NodeKind.{NodeKind}
use Rattle.layout_bytes.specs.declared.node.NodeKind.TheVariants.{Free}
use Rattle.layout_bytes.specs.Bytes.{when}
use Rattle.layout_bytes.specs.Node.{node_of, node_at, node_bytes, node_spelling}
use Rattle.crash_stands.specs.Files.{used_node}
use Rattle.fs_files.specs.Bytes.{overwrite}
use Rattle.fs_files.specs.Frames.{used_of, used_by, ReadsBack, KeepsTable, HasNewNode}
use Rattle.fs_files.specs.Nodes.{node_block}

-- Bytes.

-- the bytes that were written
pub overwrite_own : (off : ℕ) (ys xs : List ℕ) → off ≤ length xs → take (length ys) (drop off (overwrite off ys xs)) ≡ ys
overwrite_own off ys xs le = grind (arith, common_steps, length-take-le, drop-append_seam, take-append_seam)

-- those before them
pub overwrite_before : (off at n : ℕ) (ys xs : List ℕ) → off ≤ length xs → at + n ≤ off → take n (drop at (overwrite off ys xs)) ≡ take n (drop at xs)
overwrite_before off at n ys xs le before =
    let front : length (take off xs) ≡ off = length-take-le off xs le in
    let rest = length-drop at (take off xs) in
    ap (take n) (drop-append-le at (take off xs) (ys ++ drop (off + length ys) xs) (omega (arith, front, before)))
    ∙ take-append-le n (drop at (take off xs)) (ys ++ drop (off + length ys) xs) (omega (arith, front, before, rest))
    ∙ ap (λ k. take n (drop at (take k xs))) {x = off} {y = at + (off - at)} (omega (arith, before))
    ∙ ap (take n) (drop-take at (off - at) xs)
    ∙ take-take n (off - at) (drop at xs) (omega (arith, before))

-- those behind them
pub overwrite_behind : (off at n : ℕ) (ys xs : List ℕ) → off ≤ length xs → off + length ys ≤ at → take n (drop at (overwrite off ys xs)) ≡ take n (drop at xs)
overwrite_behind off at n ys xs le behind =
    let front : length (take off xs) ≡ off = length-take-le off xs le in
    let all = drop (off + length ys) xs in
    let past = at - (off + length ys) in
    ap (λ k. take n (drop k (overwrite off ys xs))) {x = at} {y = length (take off xs) + (length ys + past)} (omega (arith, front, behind))
    ∙ ap (take n) (drop-append-add (take off xs) (ys ++ drop (off + length ys) xs) (length ys + (at - (off + length ys))))
    ∙ ap (take n) (drop-append-add ys (drop (off + length ys) xs) (at - (off + length ys)))
    ∙ ap (take n) (drop-drop (at - (off + length ys)) (off + length ys) xs)
    ∙ ap (λ k. take n (drop k xs)) {x = off + length ys + (at - (off + length ys))} {y = at} (omega (arith, behind))

-- Nodes of a table.

pub when_true : {A : Type 0} (t : Bool) (x : Option A) → t ≡ true → when t x ≡ x
when_true t x e = grind (arith, nat_tests)

pub when_same : {A : Type 0} (t : Bool) (x y : Option A) → (t ≡ true → x ≡ y) → when t x ≡ when t y
when_same t x y e = grind (arith, nat_tests)

-- a number of a node
pub is_number : (g : Geometry) (k : ℕ) → 1 ≤ k → k ≤ g.i → (nat_le 1 k && nat_le k g.i) ≡ true
is_number g k from upto = and_from (nat_le 1 k) (nat_le k g.i) (le-leb 1 k from) (le-leb k g.i upto)

pub number_is : (g : Geometry) (k : ℕ) → (nat_le 1 k && nat_le k g.i) ≡ true → (1 ≤ k) × (k ≤ g.i)
number_is g k e = let both = and_parts (nat_le 1 k) (nat_le k g.i) e in (leb-true 1 k both.0, leb-true k g.i both.1)

-- nodes of the same bytes are the same
pub same_node : (g : Geometry) (m n : Blocks) (l : ℕ) → (1 ≤ l → l ≤ g.i → node_bytes g n l ≡ node_bytes g m l) → used_node g n l ≡ used_node g m l
same_node g m n l bytes = when_same (nat_le 1 l && nat_le l g.i) (node_at g n l) (node_at g m l) (λ e. let is = number_is g l e in ap (node_of g) (bytes is.0 is.1))

-- the block of a node is in the node table
pub block_from : (g : Geometry) (l : ℕ) → table_start g ≤ node_block g l
block_from g l = omega arith

pub block_below : (g : Geometry) (l : ℕ) → g.i % 4 ≡ 0 → 1 ≤ l → l ≤ g.i → node_block g l < data_start g
block_below g l whole from upto = omega (arith, node_in_table g.layout g.i l whole from upto)

-- what holds of nodes of one block
of_one_block : (a b : ℕ) (X : Type 0) → (a < b) ⊎ ((a ≡ b) × X) → a ≡ b → X
of_one_block a b X (inl less) same = absurd (omega (arith, less, same))
of_one_block a b X (inr both) same = both.1

module _ (g : Geometry) (m n : Blocks) (k : ℕ) (ys : List ℕ) (whole : g.i % 4 ≡ 0) (from : 1 ≤ k) (upto : k ≤ g.i) (size : length ys ≡ node_size g.layout)
    (block : n (node_block g k) ≡ overwrite (node_byte g.layout k) ys (m (node_block g k))) (rest : KeepsTable g m n (node_block g k))
    (table : (b : ℕ) → table_start g ≤ b → b < data_start g → length (m b) ≡ 1024) where
  long : length (m (node_block g k)) ≡ 1024
  long = table (node_block g k) (block_from g k) (block_below g k whole from upto)

  pub stored_own : node_bytes g n k ≡ ys
  stored_own =
      ap (λ b. take (node_size g.layout) (drop (node_byte g.layout k) b)) block
      ∙ ap (λ c. take c (drop (node_byte g.layout k) (overwrite (node_byte g.layout k) ys (m (node_block g k))))) (sym size)
      ∙ overwrite_own (node_byte g.layout k) ys (m (node_block g k)) (omega (arith, long, node_within g.layout k))

  pub stored_other : (l : ℕ) → 1 ≤ l → l ≤ g.i → l ≢ k → node_bytes g n l ≡ node_bytes g m l
  stored_other l low high other = by (cases_eq (node_block g l) (node_block g k))
    where
      fits_there : node_byte g.layout k ≤ length (m (node_block g k))
      fits_there = omega (arith, long, node_within g.layout k)

      part : (l < k) ⊎ (k ≤ l) → block_of g.layout l ≡ block_of g.layout k
          → take (node_size g.layout) (drop (node_byte g.layout l) (overwrite (node_byte g.layout k) ys (m (node_block g k)))) ≡ take (node_size g.layout) (drop (node_byte g.layout l) (m (node_block g k)))
      part (inl before) same = overwrite_before (node_byte g.layout k) (node_byte g.layout l) (node_size g.layout) ys (m (node_block g k)) fits_there
          (of_one_block (block_of g.layout l) (block_of g.layout k) (node_byte g.layout l + node_size g.layout ≤ node_byte g.layout k) (node_apart g.layout l k low before) same)
      part (inr behind) same =
          let apart = of_one_block (block_of g.layout k) (block_of g.layout l) (node_byte g.layout k + node_size g.layout ≤ node_byte g.layout l) (node_apart g.layout k l from (omega (arith, behind, other))) (sym same) in
          overwrite_behind (node_byte g.layout k) (node_byte g.layout l) (node_size g.layout) ys (m (node_block g k)) fits_there (omega (arith, apart, size))

      by : (node_block g l ≡ node_block g k) ⊎ (node_block g l ≡ node_block g k → ⊥) → node_bytes g n l ≡ node_bytes g m l
      by (inl e) =
          let same : block_of g.layout l ≡ block_of g.layout k = omega (arith, e) in
          ap (λ b. take (node_size g.layout) (drop (node_byte g.layout l) (n b))) e
          ∙ ap (λ b. take (node_size g.layout) (drop (node_byte g.layout l) b)) block
          ∙ part (cases_lt l k) same
          ∙ ap (λ b. take (node_size g.layout) (drop (node_byte g.layout l) (m b))) (sym e)
      by (inr away) = ap (λ b. take (node_size g.layout) (drop (node_byte g.layout l) b)) (rest (node_block g l) (block_from g l) (block_below g l whole low high) away)

  stored_long : (b : ℕ) → table_start g ≤ b → b < data_start g → length (n b) ≡ 1024
  stored_long b low high = grind (arith, nat_tests, length-overwrite, long)

used_none : (node : Node) (kind : NodeKind) → used_by node kind ≡ None → kind ≡ Free
used_none node kind e = grind (arith, nat_tests)

-- a node that was written into its block is there now
pub node_stored : (g : Geometry) (m n : Blocks) (k : ℕ) (node : Node) → g.i % 4 ≡ 0 → 1 ≤ k → k ≤ g.i → ReadsBack g node
    → n (node_block g k) ≡ overwrite (node_byte g.layout k) (node_spelling g.layout node) (m (node_block g k)) → KeepsTable g m n (node_block g k)
    → ((b : ℕ) → table_start g ≤ b → b < data_start g → length (m b) ≡ 1024) → HasNewNode g m n k (used_of node)
node_stored g m n k node whole from upto back block rest table =
    let own = stored_own g m n k (node_spelling g.layout node) whole from upto back.size block rest table in
    record {
      own = when_true (nat_le 1 k && nat_le k g.i) (node_at g n k) (is_number g k from upto) ∙ ap (node_of g) own ∙ back.reads;
      free = λ e. own ∙ back.zeros (used_none node node.kind e);
      others = stored_other g m n k (node_spelling g.layout node) whole from upto back.size block rest table;
      table = stored_long g m n k (node_spelling g.layout node) whole from upto back.size block rest table;
    }
