-- A snapshot's node table is gone through, block by block.
use Rattle.std.proofs.Common.{◌≡◌, ◌≢◌, ℕ, ◌+◌, ◌<◌, ◌≤◌, false, Bool, IsTrue, List, [], ◌∷◌, ◌++◌, length, get_or, slice_get, All, Some, sym, ap, subst, ◌∙◌, arith, ◌⊎◌, inl, inr}
use Rattle.std.proofs.Math.Seq.{get_or-append_seam}
use Rattle.std.proofs.lemmas.List.{get_or_append_left, length_push}
use Rattle.std.proofs.lemmas.Option.{get_or_from_slice_get, slice_get-get_or}
use Rattle.std.proofs.lemmas.Bool.{cases_eq}
use Rattle.base_types.specs.Seal.{Blocks}
use Rattle.base_types.specs.Layouts.{nodes_in_block, nodes_before, table_blocks as blocks_of}
use Rattle.base_types.specs.LayoutLaws.{all_nodes_before, next_nodes_before, nodes_before_rise, nodes_in_table}
use Rattle.layout_geometry.specs.Geometry.{Geometry, IsGeometry}
use Rattle.engine_blocks.specs.State.{State}
use Rattle.crash_stands.specs.Places.{dirs_from, table_blocks}
use Rattle.crash_stands.specs.Kept.{kept_nodes}
use Rattle.fs_files.specs.Effects.{LooksOnly}
use Rattle.fs_files.specs.Places.{looks_more}
use Rattle.fs_snapshots.specs.Kept.{AreDirsBefore, HasItsParts}
use Rattle.fs_snapshots.specs.Tables.{nodes_in}
use Rattle.fs_snapshots.proofs.Counts.{dirs_less}
use Rattle.fs_snapshots.proofs.Places.{dirs_there}

-- so many blocks of the table were read: the counts before each are right, and the directories in them have so many blocks
pub record ReadsTable (tells : Bool) (s t : State) (places : List ℕ) (slot total : ℕ) (before : List ℕ) : Type 0 where
  pub looks : LooksOnly tells false s t
  pub upto : slot ≤ table_blocks s.books.geom
  pub counts : length before ≡ slot
  pub right : IsTrue tells → AreDirsBefore s.books.geom s.map places before
  pub counted : IsTrue tells → total ≡ dirs_from s.books.geom.layout (kept_nodes s.books.geom s.map places) 1 (nodes_before s.books.geom.layout slot)

-- one count more
right_more : (g : Geometry) (m : Blocks) (places before : List ℕ) (slot total : ℕ) → length before ≡ slot → AreDirsBefore g m places before → total ≡ dirs_from g.layout (kept_nodes g m places) 1 (nodes_before g.layout slot)
    → AreDirsBefore g m places (before ++ total ∷ [])
right_more g m places before slot total counts right is i low =
    slice_get-get_or (before ++ total ∷ []) i 0 low ∙ ap Some (by (cases_eq i (length before)))
  where
    by : (i ≡ length before) ⊎ (i ≢ length before) → get_or (before ++ total ∷ []) i 0 ≡ dirs_from g.layout (kept_nodes g m places) 1 (nodes_before g.layout i)
    by (inl last) = ap (λ n. get_or (before ++ total ∷ []) n 0) last ∙ get_or-append_seam before total [] 0 ∙ is ∙ ap (λ n. dirs_from g.layout (kept_nodes g m places) 1 (nodes_before g.layout n)) (sym (last ∙ counts))
    by (inr other) =
        let inside : i < length before = omega (arith, low, length_push before total, other) in
        get_or_append_left before (total ∷ []) 0 i inside ∙ get_or_from_slice_get before i (dirs_from g.layout (kept_nodes g m places) 1 (nodes_before g.layout i)) 0 (right i inside)

-- one block more
pub table_more : (tells : Bool) (s t u : State) (places : List ℕ) (slot total more : ℕ) (before after table : List ℕ) → IsGeometry s.books.geom → ReadsTable tells s t places slot total before
    → slot < table_blocks s.books.geom → 1 + table_blocks s.books.geom ≤ length places → (IsTrue tells → All (λ b. length (s.map b) ≡ 1024) places) → LooksOnly tells false t u
    → (IsTrue tells → (b : ℕ) → slice_get places (1 + slot) ≡ Some b → length (t.map b) ≡ 1024 → table ≡ t.map b)
    → more ≡ dirs_from s.books.geom.layout (nodes_in s.books.geom table) 1 (nodes_in_block s.books.geom.layout) → after ≡ before ++ total ∷ []
    → ReadsTable tells s u places (slot + 1) (total + more) after
table_more tells s t u places slot total more before after table limits reads low room whole looks seen more_is after_is = record {
  looks = looks_more tells false s t u reads.looks looks;
  upto = omega (arith, low);
  counts = ap length after_is ∙ length_push before total ∙ ap (λ n. n + 1) reads.counts;
  right = λ told. subst (AreDirsBefore s.books.geom s.map places) (sym after_is) (right_more s.books.geom s.map places before slot total reads.counts (reads.right told) (reads.counted told));
  counted = λ told.
      let b = get_or places (1 + slot) 0 in
      let at : slice_get places (1 + slot) ≡ Some b = slice_get-get_or places (1 + slot) 0 (omega (arith, low, room)) in
      let map : t.map ≡ s.map = reads.looks.map told in
      let big : length (s.map b) ≡ 1024 = whole told (1 + slot) 0 (omega (arith, low, room)) in
      let bytes : table ≡ s.map b = seen told b at (ap (λ (m : Blocks). length (m b)) map ∙ big) ∙ ap (λ (m : Blocks). m b) map in
      let below : slot < blocks_of s.books.geom.layout s.books.geom.i = omega (arith, low) in
      let there = dirs_there s.books.geom s.map places slot b (nodes_in_block s.books.geom.layout) (omega arith) (nodes_in_table s.books.geom.layout s.books.geom.i slot limits.whole_blocks below) at in
      let here : more ≡ dirs_from s.books.geom.layout (nodes_in s.books.geom (s.map b)) 1 (nodes_in_block s.books.geom.layout) = more_is ∙ ap (λ xs. dirs_from s.books.geom.layout (nodes_in s.books.geom xs) 1 (nodes_in_block s.books.geom.layout)) bytes in
      let next = ap (dirs_from s.books.geom.layout (kept_nodes s.books.geom s.map places) 1) (next_nodes_before s.books.geom.layout slot) in
      omega (arith, reads.counted told, here, there, next);
}

-- a snapshot whose directories in some blocks of its table have too many blocks already hasn't as many as it needs
pub too_many : (tells : Bool) (s t : State) (places : List ℕ) (slot total room : ℕ) (before : List ℕ) → IsGeometry s.books.geom → ReadsTable tells s t places slot total before → room < total
    → room + (1 + table_blocks s.books.geom) ≡ length places → IsTrue tells → HasItsParts s.books.geom s.map places → ⊥
too_many tells s t places slot total room before limits reads more room_is told parts =
    let upto : slot ≤ blocks_of s.books.geom.layout s.books.geom.i = omega (arith, reads.upto) in
    let less = dirs_less s.books.geom.layout (kept_nodes s.books.geom s.map places) 1 (nodes_before s.books.geom.layout slot) s.books.geom.i
    (omega (arith, nodes_before_rise s.books.geom.layout slot (blocks_of s.books.geom.layout s.books.geom.i) upto, all_nodes_before s.books.geom.layout s.books.geom.i limits.whole_blocks)) in
    omega (arith, less, more, room_is, reads.counted told, parts)
