-- The slots of one block of a directory.
use Rattle.std.proofs.Common.{◌≡◌, ℕ, ◌+◌, ◌-◌, ◌*◌, ◌<◌, ◌≤◌, List, ◌++◌, length, take, drop, get_or, slice_get, slice_index, [], Option, None, Some, refl, sym, ap, ◌∙◌, arith}
use Rattle.std.proofs.lemmas.List.{take-append-drop}
use Rattle.std.proofs.lemmas.Option.{slice_get-get_or}
use Rattle.base_types.specs.declared.layout.Layout.{Layout}
use Rattle.base_types.specs.Layouts.{slot_size, slots_in_block, slot_block, slot_place, slots_before, directory_bytes}
use Rattle.base_types.specs.LayoutLaws.{block_of_slot, byte_of_slot, directory_holds, next_slots_before, no_slots_before, slot_within, slots_of_block, some_slot}
use Rattle.layout_bytes.specs.declared.slot.Slot.{Slot}
use Rattle.layout_bytes.specs.Slot.{slot_of, slot_spelling}
use Rattle.layout_directory.specs.Slots.{IsLawful, IsSlot}
use Rattle.layout_directory.specs.Directory.{ReadAs}
use Rattle.fs_dirs.specs.Reading.{BeginsBlock, slots_from}
use Rattle.fs_dirs.proofs.reading.Parts.{part_within, part_at, cut_out}

-- Places at which blocks begin.

pub begins_first : (l : Layout) → BeginsBlock l 0
begins_first l =
    ap (λ n. slots_before l (slot_block l n)) {x = 0} {y = slots_before l 0 + 0} (omega (arith, no_slots_before l))
    ∙ ap (slots_before l) (block_of_slot l 0 0 (some_slot l)) ∙ no_slots_before l

pub begins_next : (l : Layout) (first : ℕ) → BeginsBlock l first → BeginsBlock l (first + slots_in_block l)
begins_next l first begins =
    let next = next_slots_before l (slot_block l first) in
    ap (λ n. slots_before l (slot_block l n)) {x = first + slots_in_block l} {y = slots_before l (slot_block l first + 1) + 0} (omega (arith, begins, next))
    ∙ ap (slots_before l) (block_of_slot l (slot_block l first + 1) 0 (some_slot l)) ∙ omega (arith, begins, next)

-- the block in which a place is begins with a place
pub begins_block : (l : Layout) (place : ℕ) → BeginsBlock l (slots_before l (slot_block l place))
begins_block l place =
    ap (λ n. slots_before l (slot_block l n)) {x = slots_before l (slot_block l place)} {y = slots_before l (slot_block l place) + 0} (omega arith)
    ∙ ap (slots_before l) (block_of_slot l (slot_block l place) 0 (some_slot l))

-- a slot of one block lies in it
pub lies_within : (l : Layout) (rank : ℕ) → rank < slots_in_block l → slot_place l rank + slot_size l ≤ 1024
lies_within l rank low = omega (arith, byte_of_slot l 0 rank low, slot_within l (slots_before l 0 + rank))

-- the block that begins with a place has the slots from there on
pub block_slots : (l : Layout) (first index : ℕ) (xs block : List ℕ) (slots : List Slot) → index ≡ slot_block l first → BeginsBlock l first → length xs ≡ directory_bytes l (length slots)
    → ((place : ℕ) (s : Slot) → slice_get slots place ≡ Some s → slot_of l (take (slot_size l) (drop (slot_place l place) xs)) ≡ Some s)
    → take (length (take 1024 (drop (1024 * index) xs))) block ≡ take 1024 (drop (1024 * index) xs)
    → ReadAs l block (slots_from l first slots)
block_slots l first index xs block slots at begins size reads block_is = λ i s here.
    let low = part_within (slots_in_block l) first slots i s here in
    let begin : first ≡ slots_before l index = sym begins ∙ ap (slots_before l) (sym at) in
    let place : 1024 * index + slot_place l i ≡ slot_place l (first + i) = sym (slots_of_block l index i) ∙ ap (slot_place l) {x = slots_before l index + i} {y = first + i} (omega (arith, begin)) in
    ap (λ b. slot_of l (take (slot_size l) (drop (slot_place l i) b))) whole
    ∙ ap (slot_of l) (cut_out 1024 (slot_place l i) (slot_size l) (1024 * index) xs (drop n block) (lies_within l i low.0) (omega (arith, place, size, directory_holds l (first + i) (length slots) low.1)))
    ∙ ap (λ n. slot_of l (take (slot_size l) (drop n xs))) place
    ∙ reads (first + i) s (part_at (slots_in_block l) first slots i s here)
  where
    n : ℕ
    n = length (take 1024 (drop (1024 * index) xs))

    whole : block ≡ take 1024 (drop (1024 * index) xs) ++ drop n block
    whole = sym (take-append-drop n block) ∙ ap (λ l. l ++ drop n block) block_is

-- the slot whose spelling the bytes are is the one that they read as
pub reads_spelled : (l : Layout) → ((s : Slot) → IsLawful l s → slot_of l (slot_spelling l s) ≡ Some s) → (b : List ℕ) (s : Slot) → IsSlot l b s → Some s ≡ slot_of l b
reads_spelled l law b s h = sym (law s h.lawful) ∙ ap (slot_of l) (sym h.spelled)

-- bytes that are no slot's spelling read as none
pub reads_nothing : (l : Layout) → ((b : List ℕ) (s : Slot) → length b ≡ slot_size l → ((i : ℕ) → slice_index b i < 256) → slot_of l b ≡ Some s → IsSlot l b s) → (b : List ℕ) → length b ≡ slot_size l
    → ((i : ℕ) → slice_index b i < 256) → ((s : Slot) → IsSlot l b s → ⊥) → None ≡ slot_of l b
reads_nothing l law b size low none = by (slot_of l b) refl
  where
    by : (o : Option Slot) → slot_of l b ≡ o → None ≡ slot_of l b
    by None e = sym e
    by (Some s) e = absurd (none s (law b s size low e))

-- the slot at a place of a list that is read
pub slot_at_place : (l : Layout) (block part : List ℕ) (place : ℕ) (slots : List Slot) → place < length slots → ReadAs l block slots → part ≡ take (slot_size l) (drop (slot_place l place) block) → slot_of l part ≡ slice_get slots place
slot_at_place l block part place slots low reads is =
    let there = slice_get-get_or slots place (record { node = 0; name = [] }) low in
    ap (slot_of l) is ∙ reads place (get_or slots place (record { node = 0; name = [] })) there ∙ sym there

-- the bytes of a place
pub mid_is : (l : Layout) (place at size : ℕ) (block : List ℕ) → at ≡ slot_place l place → size ≡ slot_size l → take (at + size - at) (drop at block) ≡ take (slot_size l) (drop (slot_place l place) block)
mid_is l place at size block here is = ap (λ n. take n (drop at block)) {x = at + size - at} {y = slot_size l} (omega (arith, is)) ∙ ap (λ n. take (slot_size l) (drop n block)) here
