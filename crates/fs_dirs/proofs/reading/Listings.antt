-- Slots appended one by one and block by block, and the order of their names.
use Rattle.std.proofs.Common.{◌≡◌, ℕ, suc, ◌+◌, ◌<◌, ◌≤◌, Bool, false, IsTrue, List, [], ◌∷◌, ◌++◌, length, map, take, get_or, slice_get, Some, sym, ap, ap₂, ◌∙◌, arith, take-suc, append_assoc, take_all}
use Rattle.std.proofs.Math.Seq.{take-add}
use Rattle.std.proofs.lemmas.List.{get_or-map, length-map}
use Rattle.std.proofs.lemmas.Option.{slice_get-get_or}
use Rattle.std.specs.List.Sorted.{IsSorted, IsSortedByKey}
use Rattle.std.specs.Ordering.{nat_cmp, is_lt}
use Rattle.std.specs.Cmp.Lexicographic.{slice_cmp}
use Rattle.base_types.specs.Layouts.{slots_in_block}
use Rattle.layout_bytes.specs.declared.slot.Slot.{Slot}
use Rattle.engine_blocks.specs.State.{State}
use Rattle.fs_files.specs.NodeMaps.{NodeMap}
use Rattle.fs_files.specs.Effects.{LooksOnly}
use Rattle.fs_dirs.specs.Reading.{HasSlots, HasListed, slots_from}
use Rattle.fs_dirs.proofs.reading.BlockSlots.{begins_next}
use Rattle.fs_dirs.proofs.reading.Looks.{looks_more}

-- one slot more
pub one_more : (before old new slots : List Slot) (place : ℕ) → place < length slots → old ≡ before ++ take place slots
    → ((s : Slot) → slice_get slots place ≡ Some s → new ≡ old ++ s ∷ []) → new ≡ before ++ take (place + 1) slots
one_more before old new slots place low is pushed =
    let d : Slot = record { node = 0; name = [] } in
    let s = get_or slots place d in
    pushed s (slice_get-get_or slots place d low)
    ∙ ap (λ l. l ++ s ∷ []) is
    ∙ append_assoc before (take place slots) (s ∷ [])
    ∙ ap (λ l. before ++ l) (sym (take-suc slots place d low) ∙ ap (λ n. take n slots) {x = suc place} {y = place + 1} (omega arith))

-- those of a block more
pub block_more : (tells : Bool) (start now new : State) (v : NodeMap) (node : List ℕ) (count first : ℕ) (before old all : List Slot) → HasListed tells start now v node count first before old → LooksOnly tells false now new
    → (IsTrue tells → (slots : List Slot) → HasSlots start.books.geom.layout v node slots → length slots ≡ count → all ≡ old ++ slots_from start.books.geom.layout first slots) → HasListed tells start new v node count (first + slots_in_block start.books.geom.layout) before all
block_more tells start now new v node count first before old all h looks more = record {
  looks = looks_more tells false start now new h.looks looks;
  begins = begins_next start.books.geom.layout first h.begins;
  listed = λ told slots has many.
      more told slots has many
      ∙ ap (λ l. l ++ slots_from start.books.geom.layout first slots) (h.listed told slots has many)
      ∙ append_assoc before (take first slots) (slots_from start.books.geom.layout first slots)
      ∙ ap (λ l. before ++ l) (sym (take-add first (slots_in_block start.books.geom.layout) slots));
}

-- at the end all slots
pub all_listed : (slots before into : List Slot) (count first : ℕ) → length slots ≡ count → count ≤ first → into ≡ before ++ take first slots → into ≡ before ++ slots
all_listed slots before into count first many all is =
    is ∙ ap (λ l. before ++ l) (take_all first slots (omega (arith, all, many)))

-- slots in the order of their names have their names in order
pub names_sorted : (slots : List Slot) → IsSortedByKey (λ (s : Slot). s.name) (slice_cmp nat_cmp) slots → IsSorted (slice_cmp nat_cmp) (map (λ (s : Slot). s.name) slots)
names_sorted slots up k d low next =
    let e : Slot = record { node = 0; name = d } in
    let many = length-map slots (λ (s : Slot). s.name) in
    ap₂ (λ a b. is_lt (slice_cmp nat_cmp a b)) (get_or-map (λ (s : Slot). s.name) slots (k + 1) e d (omega (arith, next, many))) (get_or-map (λ (s : Slot). s.name) slots k e d (omega (arith, next, many)))
    ∙ up k e low (omega (arith, next, many))
