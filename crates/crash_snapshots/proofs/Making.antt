-- Where the blocks of a snapshot are written to places that no file has, the blocks have it.
use Rattle.std.proofs.Common.{◌≡◌, ℕ, zero, suc, ◌+◌, ◌-◌, ◌<◌, ◌≤◌, ◌==◌, Bool, true, false, if◌then◌else◌, List, [], ◌∷◌, ◌++◌, length, take, drop, replicate, get_or, slice_index, Some, eq-eqb, refl, sym, ap, ap₂, ◌∙◌, arith}
use Rattle.std.proofs.Math.Seq.{take-append_seam, drop-append-add}
use Rattle.std.proofs.lemmas.Bool.{ne_eqb}
use Rattle.std.proofs.lemmas.List.{length-append, length-drop, length-take-le, length-replicate}
use Rattle.std.proofs.lemmas.Option.{slice_get-get_or}
use Rattle.std.specs.List.{range_with_len}
use Rattle.base_types.specs.Seal.{Blocks}
use Rattle.base_types.specs.declared.layout.Layout.{Layout}
use Rattle.base_types.specs.Layouts.{nodes_in_block, nodes_before, node_block, node_rank, rank_byte, node_byte}
use Rattle.base_types.specs.LayoutLaws.{node_within, node_in_table, nodes_in_table, node_byte_is, node_is, rank_below, first_rank, next_rank}
use Rattle.layout_geometry.specs.Geometry.{Geometry, IsGeometry, table_start}
use Rattle.layout_bytes.specs.Node.{node_size, node_bytes}
use Rattle.crash_stands.specs.Files.{joined, used_node}
use Rattle.crash_stands.specs.Places.{table_blocks, kept_table, dir_part}
use Rattle.crash_snapshots.specs.Places.{all_dirs}
use Rattle.crash_snapshots.specs.Kept.{AreCopies, kept_bytes, HasSnapshot}
use Rattle.layout_extent.specs.Renew.{AreOnce, IsAmong}
use Rattle.crash_snapshots.specs.Making.{with_blocks, blocks_at, kept_piece, kept_block, kept_blocks, snapshot_of, CanHold}

-- Blocks written.

once_rest : (x : ℕ) (xs : List ℕ) → AreOnce (x ∷ xs) → AreOnce xs
once_rest x xs once i j b at_i at_j = let same : suc i ≡ suc j = once (suc i) (suc j) b at_i at_j in omega (arith, same)

-- a place has the bytes that were written there
written_at : (m : Blocks) (ps : List ℕ) (ys : List (List ℕ)) (i : ℕ) → AreOnce ps → length ps ≡ length ys → i < length ps → with_blocks m ps ys (get_or ps i 0) ≡ get_or ys i []
written_at m [] ys i once long below = absurd (omega (arith, below))
written_at m (p ∷ ps) [] i once long below = absurd (omega (arith, long))
written_at m (p ∷ ps) (y ∷ ys) zero once long below = ap (λ t. if t then y else with_blocks m ps ys p) (eq-eqb p p refl)
written_at m (p ∷ ps) (y ∷ ys) (suc i) once long below =
    ap (λ t. if t then y else with_blocks m ps ys (get_or ps i 0)) (ne_eqb (get_or ps i 0) p other)
    ∙ written_at m ps ys i (once_rest p ps once) (omega (arith, long)) (omega (arith, below))
  where
    other : get_or ps i 0 ≡ p → ⊥
    other same = let twice : suc i ≡ 0 = once (suc i) 0 p (slice_get-get_or ps i 0 (omega (arith, below)) ∙ ap Some same) refl in omega (arith, twice)

-- and any other block is as it was
written_past : (m : Blocks) (ps : List ℕ) (ys : List (List ℕ)) (b : ℕ) → (IsAmong ps b → ⊥) → with_blocks m ps ys b ≡ m b
written_past m [] ys b out = refl
written_past m (p ∷ ps) [] b out = refl
written_past m (p ∷ ps) (y ∷ ys) b out =
    ap (λ t. if t then y else with_blocks m ps ys b) (ne_eqb b p (λ same. out (0, ap Some (sym same))))
    ∙ written_past m ps ys b (λ r. out (suc r.0, r.1))

-- blocks are copies where each is
copies_by : (old new : Blocks) (bs ps : List ℕ) → length bs ≡ length ps → ((i : ℕ) → i < length ps → new (get_or ps i 0) ≡ old (get_or bs i 0)) → AreCopies old new bs ps
copies_by old new [] [] long each = tt
copies_by old new [] (p ∷ ps) long each = absurd (omega (arith, long))
copies_by old new (b ∷ bs) [] long each = absurd (omega (arith, long))
copies_by old new (b ∷ bs) (p ∷ ps) long each = (each 0 (omega arith), copies_by old new bs ps (omega (arith, long)) (λ i below. each (suc i) (omega (arith, below))))

blocks_length : (m : Blocks) (bs : List ℕ) → length (blocks_at m bs) ≡ length bs
blocks_length m [] = refl
blocks_length m (b ∷ bs) = ap suc (blocks_length m bs)

block_in : (m : Blocks) (bs : List ℕ) (i : ℕ) → i < length bs → get_or (blocks_at m bs) i [] ≡ m (get_or bs i 0)
block_in m [] i below = absurd (omega (arith, below))
block_in m (b ∷ bs) zero below = refl
block_in m (b ∷ bs) (suc i) below = block_in m bs i (omega (arith, below))

in_second : (xs ys : List (List ℕ)) (i : ℕ) → get_or (xs ++ ys) (length xs + i) [] ≡ get_or ys i []
in_second [] ys i = ap (λ j. get_or ys j []) {x = 0 + i} {y = i} (omega arith)
in_second (x ∷ xs) ys i = ap (λ j. get_or (x ∷ (xs ++ ys)) j []) {x = suc (length xs) + i} {y = suc (length xs + i)} (omega arith) ∙ in_second xs ys i

in_first : (xs ys : List (List ℕ)) (i : ℕ) → i < length xs → get_or (xs ++ ys) i [] ≡ get_or xs i []
in_first [] ys i below = absurd (omega (arith, below))
in_first (x ∷ xs) ys zero below = refl
in_first (x ∷ xs) ys (suc i) below = in_first xs ys i (omega (arith, below))

in_drop : (c : ℕ) (xs : List ℕ) (i : ℕ) → get_or (drop c xs) i 0 ≡ get_or xs (c + i) 0
in_drop zero xs i = ap (λ j. get_or xs j 0) {x = i} {y = 0 + i} (omega arith)
in_drop (suc c) [] i = refl
in_drop (suc c) (x ∷ xs) i = in_drop c xs i ∙ ap (λ j. get_or (x ∷ xs) j 0) {x = suc (c + i)} {y = suc c + i} (omega arith)

-- The node table.

table_length : (g : Geometry) (m : Blocks) (i n : ℕ) → length (kept_blocks g m i n) ≡ n
table_length g m i zero = refl
table_length g m i (suc n) = ap suc (table_length g m (i + 1) n)

table_block : (g : Geometry) (m : Blocks) (i n j : ℕ) → j < n → get_or (kept_blocks g m i n) j [] ≡ kept_block g m (i + j)
table_block g m i zero j below = absurd (omega (arith, below))
table_block g m i (suc n) zero below = ap (kept_block g m) {x = i} {y = i + 0} (omega arith)
table_block g m i (suc n) (suc j) below = table_block g m (i + 1) n j (omega (arith, below)) ∙ ap (kept_block g m) {x = i + 1 + j} {y = i + suc j} (omega arith)

-- one of some pieces of the same length, where each begins behind the one before
pick : (n : ℕ) (piece : ℕ → List ℕ) (place : ℕ → ℕ) → place 0 ≡ 0 → ((r : ℕ) → place (r + 1) ≡ place r + n) → (from count : ℕ)
    → ((r : ℕ) → r < from + count → length (piece r) ≡ n) → (r : ℕ) → r < count → take n (drop (place r) (joined piece (range_with_len from count))) ≡ piece (from + r)
pick n piece place first next from zero long r below = absurd (omega (arith, below))
pick n piece place first next from (suc count) long zero below =
    let rest = joined piece (range_with_len (from + 1) count) in
    ap (λ at. take n (drop at (piece from ++ rest))) first
    ∙ ap (λ k. take k (piece from ++ rest)) (sym (long from (omega arith)))
    ∙ take-append_seam (piece from) rest
    ∙ ap piece {x = from} {y = from + 0} (omega arith)
pick n piece place first next from (suc count) long (suc r) below =
    let rest = joined piece (range_with_len (from + 1) count) in
    let behind : place (r + 1) ≡ length (piece from) + place r = omega (arith, next r, long from (omega arith)) in
    ap (λ at. take n (drop (place at) (piece from ++ rest))) {x = suc r} {y = r + 1} (omega arith)
    ∙ ap (λ at. take n (drop at (piece from ++ rest))) behind
    ∙ ap (take n) (drop-append-add (piece from) rest (place r))
    ∙ pick n piece place first next (from + 1) count (λ q low. long q (omega (arith, low))) r (omega (arith, below))
    ∙ ap piece {x = from + 1 + r} {y = from + suc r} (omega arith)

kept_length : (l : Layout) (bytes : List ℕ) → length bytes ≡ node_size l → length (kept_bytes l bytes) ≡ node_size l
kept_length l bytes long = by (slice_index bytes 0 == 3)
  where
    by : (t : Bool) → length (if t then replicate (node_size l) 0 else bytes) ≡ node_size l
    by true = length-replicate {A = ℕ} (node_size l) 0
    by false = long

module _ (g : Geometry) (m : Blocks) (name : List ℕ) (places : List ℕ) (fits : IsGeometry g) (can : CanHold g m name places) where
  new : Blocks
  new = with_blocks m places (snapshot_of g m name)

  bytes_length : (k : ℕ) → 1 ≤ k → k ≤ g.i → length (node_bytes g m k) ≡ node_size g.layout
  bytes_length k from upto =
      let block : List ℕ = m (table_start g + node_block g.layout k) in
      let within = node_in_table g.layout g.i k fits.whole_blocks from upto in
      let whole : length block ≡ 1024 = can.table (table_start g + node_block g.layout k) (omega arith) (omega (arith, within)) in
      length-take-le (node_size g.layout) (drop (node_byte g.layout k) block)
      (omega (arith, whole, length-drop (node_byte g.layout k) block, node_within g.layout k))

  has_length : length places ≡ suc (table_blocks g + length (all_dirs (used_node g m) 1 g.i))
  has_length =
      let dirs = all_dirs (used_node g m) 1 g.i in
      omega (arith, can.count, length-append (kept_blocks g m 0 (table_blocks g)) (blocks_at m dirs), table_length g m 0 (table_blocks g), blocks_length m dirs)

  -- block i of the table is where the snapshot looks for it
  table_is : (i : ℕ) → i < table_blocks g → new (get_or places (1 + i) 0) ≡ kept_block g m i
  unfolding new
  table_is i below =
      written_at m places (snapshot_of g m name) (1 + i) can.once can.count (omega (arith, below, has_length))
      ∙ ap (λ j. get_or (snapshot_of g m name) j []) {x = 1 + i} {y = suc i} (omega arith)
      ∙ in_first (kept_blocks g m 0 (table_blocks g)) (blocks_at m (all_dirs (used_node g m) 1 g.i)) i (omega (arith, below, table_length g m 0 (table_blocks g)))
      ∙ table_block g m 0 (table_blocks g) i below
      ∙ ap (kept_block g m) {x = 0 + i} {y = i} (omega arith)

  -- a piece of block i of the table is whole
  piece_length : (i : ℕ) → i < table_blocks g → (q : ℕ) → q < nodes_in_block g.layout → length (kept_piece g m i q) ≡ node_size g.layout
  piece_length i within q below =
      let k : ℕ = nodes_before g.layout i + q + 1 in
      let upto = nodes_in_table g.layout g.i i fits.whole_blocks (omega (arith, within)) in
      kept_length g.layout (node_bytes g m k) (bytes_length k (omega arith) (omega (arith, below, upto)))

  nodes_are : (k : ℕ) → 1 ≤ k → k ≤ g.i → node_bytes g (kept_table new places g) k ≡ kept_bytes g.layout (node_bytes g m k)
  nodes_are k from upto =
      let i : ℕ = node_block g.layout k in
      let r : ℕ = node_rank g.layout k in
      let within : i < table_blocks g = omega (arith, node_in_table g.layout g.i k fits.whole_blocks from upto) in
      ap₂ (λ (at : ℕ) (xs : List ℕ). take (node_size g.layout) (drop at xs)) (node_byte_is g.layout k)
      (ap (λ j. new (get_or places (1 + j) 0)) {x = table_start g + i - table_start g} {y = i} (omega arith) ∙ table_is i within)
      ∙ pick (node_size g.layout) (kept_piece g m i) (rank_byte g.layout) (first_rank g.layout) (next_rank g.layout) 0 (nodes_in_block g.layout)
      (λ q low. piece_length i within q (omega (arith, low))) r (rank_below g.layout k)
      ∙ ap (λ j. kept_bytes g.layout (node_bytes g m j)) {x = nodes_before g.layout i + (0 + r) + 1} {y = k} (omega (arith, node_is g.layout k from))

  dirs_are : AreCopies m new (all_dirs (used_node g m) 1 g.i) (dir_part g places)
  unfolding new
  dirs_are =
      let dirs = all_dirs (used_node g m) 1 g.i in
      let front = kept_blocks g m 0 (table_blocks g) in
      let count = table_length g m 0 (table_blocks g) in
      copies_by m new dirs (dir_part g places) (omega (arith, length-drop (1 + table_blocks g) places, has_length)) (λ i below.
      let within : i < length dirs = omega (arith, below, length-drop (1 + table_blocks g) places, has_length) in
      ap new (in_drop (1 + table_blocks g) places i)
      ∙ written_at m places (snapshot_of g m name) (1 + table_blocks g + i) can.once can.count (omega (arith, within, has_length))
      ∙ ap (λ j. get_or (snapshot_of g m name) j []) {x = 1 + table_blocks g + i} {y = suc (table_blocks g + i)} (omega arith)
      ∙ ap (λ j. get_or (front ++ blocks_at m dirs) j []) {x = table_blocks g + i} {y = length front + i} (omega (arith, count))
      ∙ in_second front (blocks_at m dirs) i
      ∙ block_in m dirs i within)

  pub makes_one : HasSnapshot g m (with_blocks m places (snapshot_of g m name)) places
  unfolding new
  makes_one = record {
    table = nodes_are;
    dirs = dirs_are;
    files = λ k i b node used file at. written_past m places (snapshot_of g m name) b (can.apart k i b node used file at);
  }
