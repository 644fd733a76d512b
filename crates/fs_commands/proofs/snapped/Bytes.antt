-- The bytes that a snapshot keeps, one piece behind the other.
use Rattle.std.proofs.Common.{◌≡◌, ℕ, zero, suc, ◌+◌, ◌-◌, ◌<◌, ◌≤◌, Bool, true, false, IsTrue, List, [], ◌∷◌, ◌++◌, length, take, drop, replicate, get_or, append_assoc, append-nil, refl, sym, ap, ap₂, ◌∙◌, ◌⊎◌, inl, inr, arith}
use Rattle.std.proofs.lemmas.Bool.{cases_Bool}
use Rattle.std.specs.List.{flat_map, range_with_len}
use Rattle.base_types.specs.Layouts.{node_size, nodes_in_block}
use Rattle.base_types.specs.LayoutLaws.{block_of_rank, byte_of_rank}
use Rattle.base_types.specs.Seal.{Blocks}
use Rattle.layout_geometry.specs.Geometry.{Geometry, table_start}
use Rattle.layout_bytes.specs.SnapshotName.{name_block}
use Rattle.crash_stands.specs.Files.{joined}
use Rattle.crash_snapshots.specs.Kept.{kept_bytes}
use Rattle.crash_snapshots.specs.Making.{blocks_at, kept_block, kept_blocks, kept_piece}
use Rattle.engine_blocks.specs.Crashes.{IsTold}
use Rattle.engine_blocks.specs.State.{State, is_defined}
use Rattle.fs_files.specs.Effects.{LooksOnly}
use Rattle.fs_commands.specs.Gathering.{kept_at_rank, kept_table_block}

-- the block with the name
pub name_pieces : (old one two three raw name : List ℕ) → raw ≡ name → one ≡ old ++ (length raw ∷ []) → two ≡ one ++ raw → three ≡ two ++ replicate (1023 - length raw) 0 → three ≡ old ++ name_block name
name_pieces old one two three raw name is first second third =
    third ∙ ap (λ xs. xs ++ replicate (1023 - length raw) 0) (second ∙ ap (λ xs. xs ++ raw) first)
    ∙ append_assoc (old ++ (length raw ∷ [])) raw (replicate (1023 - length raw) 0) ∙ append_assoc old (length raw ∷ []) (raw ++ replicate (1023 - length raw) 0)
    ∙ ap (λ n. old ++ name_block n) is

-- Blocks, one behind the other.

pub joined_append : (xs ys : List (List ℕ)) → flat_map (λ block. block) (xs ++ ys) ≡ flat_map (λ block. block) xs ++ flat_map (λ block. block) ys
joined_append [] ys = refl
joined_append (x ∷ xs) ys = ap (λ zs. x ++ zs) (joined_append xs ys) ∙ sym (append_assoc x (flat_map (λ block. block) xs) (flat_map (λ block. block) ys))

joined_push : (xs : List (List ℕ)) (y : List ℕ) → flat_map (λ block. block) (xs ++ (y ∷ [])) ≡ flat_map (λ block. block) xs ++ y
joined_push xs y = joined_append xs (y ∷ []) ∙ ap (λ zs. flat_map (λ block. block) xs ++ zs) (append-nil y)

-- one more of the directories' blocks
dirs_next : (m : Blocks) (bs : List ℕ) (i : ℕ) → i < length bs → blocks_at m (take (suc i) bs) ≡ blocks_at m (take i bs) ++ (m (get_or bs i 0) ∷ [])
dirs_next m [] i low = absurd (omega (arith, low))
dirs_next m (b ∷ bs) zero low = refl
dirs_next m (b ∷ bs) (suc i) low = ap (λ xs. m b ∷ xs) (dirs_next m bs i (omega (arith, low)))

pub dirs_more : (m : Blocks) (bs old mid new block : List ℕ) (i : ℕ) → i < length bs → mid ≡ old ++ flat_map (λ block. block) (blocks_at m (take i bs)) → new ≡ mid ++ block → block ≡ m (get_or bs i 0)
    → new ≡ old ++ flat_map (λ block. block) (blocks_at m (take (i + 1) bs))
dirs_more m bs old mid new block i low before more is =
    more ∙ ap₂ (λ xs ys. xs ++ ys) before is ∙ append_assoc old (flat_map (λ block. block) (blocks_at m (take i bs))) (m (get_or bs i 0))
    ∙ ap (λ xs. old ++ xs) (sym (joined_push (blocks_at m (take i bs)) (m (get_or bs i 0))) ∙ ap (flat_map (λ block. block)) (sym (dirs_next m bs i low)))
    ∙ ap (λ n. old ++ flat_map (λ block. block) (blocks_at m (take n bs))) {x = suc i} {y = i + 1} (omega arith)

-- a whole block of the map is read as it is there
pub whole_read : (tells : Bool) (s t : State) (b : ℕ) (block : List ℕ) → LooksOnly tells false s t → IsTrue tells → IsTold t → length (s.map b) ≡ 1024 → (is_defined t.books b ≡ true → block ≡ t.map b) → block ≡ s.map b
whole_read tells s t b block looks told is whole read = read (by (cases_Bool (is_defined t.books b))) ∙ ap (λ (m : Blocks). m b) (looks.map told)
  where
    by : (is_defined t.books b ≡ true) ⊎ (is_defined t.books b ≡ false) → is_defined t.books b ≡ true
    by (inl e) = e
    by (inr f) = absurd (omega (arith, ap length (is.nothing b f), ap (λ (m : Blocks). length (m b)) (looks.map told), whole))

-- The node table.

blocks_next : (g : Geometry) (m : Blocks) (i n : ℕ) → kept_blocks g m i (suc n) ≡ kept_blocks g m i n ++ (kept_block g m (i + n) ∷ [])
blocks_next g m i zero = ap (λ k. kept_block g m k ∷ []) {x = i} {y = i + zero} (omega arith)
blocks_next g m i (suc n) = ap (λ xs. kept_block g m i ∷ xs) (blocks_next g m (i + 1) n ∙ ap (λ k. kept_blocks g m (i + 1) n ++ (kept_block g m k ∷ [])) {x = i + 1 + n} {y = i + suc n} (omega arith))

-- pieces that are the same, one behind the other
pieces_same : (p q : Blocks) (from n : ℕ) → ((r : ℕ) → r < from + n → p r ≡ q r) → joined p (range_with_len from n) ≡ joined q (range_with_len from n)
pieces_same p q from zero same = refl
pieces_same p q from (suc n) same = ap₂ (λ xs ys. xs ++ ys) (same from (omega arith)) (pieces_same p q (from + 1) n (λ r low. same r (omega (arith, low))))

-- one piece more
pub pieces_more : (p : Blocks) (from n : ℕ) → joined p (range_with_len from (suc n)) ≡ joined p (range_with_len from n) ++ p (from + n)
pieces_more p from zero = append-nil (p from) ∙ ap p {x = from} {y = from + zero} (omega arith)
pieces_more p from (suc n) =
    ap (λ xs. p from ++ xs) (pieces_more p (from + 1) n ∙ ap (λ k. joined p (range_with_len (from + 1) n) ++ p k) {x = from + 1 + n} {y = from + suc n} (omega arith))
    ∙ sym (append_assoc (p from) (joined p (range_with_len (from + 1) n)) (p (from + suc n)))

pub block_is : (g : Geometry) (m : Blocks) (slot : ℕ) → kept_block g m slot ≡ kept_table_block g.layout (m (table_start g + slot))
block_is g m slot = pieces_same (kept_piece g m slot) (kept_at_rank g.layout (m (table_start g + slot))) 0 (nodes_in_block g.layout) (λ r low.
    let l = g.layout in
    let inside : r < nodes_in_block l = omega (arith, low) in
    ap₂ (λ b n. kept_bytes l (take (node_size l) (drop n (m (table_start g + b))))) (block_of_rank l slot r inside) (byte_of_rank l slot r inside))

pub table_more : (g : Geometry) (m : Blocks) (old mid new table : List ℕ) (slot : ℕ) → mid ≡ old ++ flat_map (λ block. block) (kept_blocks g m 0 slot) → new ≡ mid ++ kept_table_block g.layout table → table ≡ m (table_start g + slot)
    → new ≡ old ++ flat_map (λ block. block) (kept_blocks g m 0 (slot + 1))
table_more g m old mid new table slot before more is =
    more ∙ ap₂ (λ xs ys. xs ++ ys) before (ap (kept_table_block g.layout) is ∙ sym (block_is g m slot) ∙ ap (kept_block g m) {x = slot} {y = 0 + slot} (omega arith))
    ∙ append_assoc old (flat_map (λ block. block) (kept_blocks g m 0 slot)) (kept_block g m (0 + slot))
    ∙ ap (λ xs. old ++ xs) (sym (joined_push (kept_blocks g m 0 slot) (kept_block g m (0 + slot))) ∙ ap (flat_map (λ block. block)) (sym (blocks_next g m 0 slot)))
    ∙ ap (λ n. old ++ flat_map (λ block. block) (kept_blocks g m 0 n)) {x = suc slot} {y = slot + 1} (omega arith)

-- all pieces
pub pieces_join : (first second last name table dirs : List ℕ) → first ≡ [] ++ name → second ≡ first ++ table → last ≡ second ++ dirs → last ≡ name ++ (table ++ dirs)
pieces_join first second last name table dirs a b c = c ∙ ap (λ xs. xs ++ dirs) (b ∙ ap (λ xs. xs ++ table) a) ∙ append_assoc name table dirs
