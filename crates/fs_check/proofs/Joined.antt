-- Slots in bytes, read part by part.
use Rattle.std.proofs.Common.{◌≡◌, ◌⊎◌, ℕ, zero, suc, ◌+◌, ◌-◌, ◌*◌, ◌/◌, ◌<◌, ◌≤◌, min, Bool, true, false, List, [], ◌∷◌, ◌++◌, length, take, drop, Option, None, Some, option_map, refl, sym, ap, ap₂, ◌∙◌, arith, zero-add, append_assoc, length-take, length-drop, drop-drop, ⊎_elim}
use Rattle.std.proofs.lemmas.Bool.{cases_lt}
use Rattle.std.proofs.lemmas.List.{drop-take, take-take, take_min}
use Rattle.std.proofs.lemmas.Option.{none-some, same_Some}
use Rattle.base_types.specs.declared.layout.Layout.{Layout}
use Rattle.base_types.specs.Layouts.{directory_bytes, slot_place, slot_size, slots_before, slots_held, slots_in_block}
use Rattle.base_types.specs.LayoutLaws.{byte_of_slot, directory_before, directory_ends, directory_has_room, directory_holds, directory_needs, first_slot, next_slots_before, no_directory, no_slots_before, slot_apart, slot_rises, slot_size_is, slot_within, slots_before_rise, slots_of_block}
use Rattle.layout_bytes.specs.declared.slot.Slot.{Slot}
use Rattle.layout_bytes.specs.Bytes.{are_zeros, has_zeros, when}
use Rattle.layout_bytes.specs.Slot.{slot_of, slots_at, slots_in, then_slot}
use Rattle.fs_files.specs.Nodes.{AreWholeSlots}
use Rattle.fs_check.specs.Slots.{AppendsSlots, slot_with_gap}

-- the slots of both, if both have some
abbrev pub joined_slots : Option (List Slot) → Option (List Slot) → Option (List Slot)
joined_slots None more = None
joined_slots (Some xs) None = None
joined_slots (Some xs) (Some ys) = Some (xs ++ ys)

joined_nil : (o : Option (List Slot)) → joined_slots (Some []) o ≡ o
joined_nil None = refl
joined_nil (Some ys) = refl

joined_none : (o : Option (List Slot)) → joined_slots o None ≡ None
joined_none None = refl
joined_none (Some xs) = refl

then_joined : (t : Bool) (s : Option Slot) (x y : Option (List Slot)) → when t (then_slot s (joined_slots x y)) ≡ joined_slots (when t (then_slot s x)) y
then_joined false s x y = refl
then_joined true None x y = refl
then_joined true (Some s) None y = refl
then_joined true (Some s) (Some xs) None = refl
then_joined true (Some s) (Some xs) (Some ys) = refl

-- a slot with zeros behind it, and those behind that
with_rest : (t : Bool) (s : Option Slot) (rest : Option (List Slot)) → when t (then_slot s rest) ≡ then_slot (when t s) rest
with_rest true s rest = refl
with_rest false s rest = refl

module _ (l : Layout) where
  -- so many slots and more are those of the front and those behind
  slots_at-add : (n m from : ℕ) (b : List ℕ) → slots_at l from (n + m) b ≡ joined_slots (slots_at l from n b) (slots_at l (from + n) m b)
  slots_at-add zero m from b = ap (λ k. slots_at l from k b) (zero-add m) ∙ ap (λ k. slots_at l k m b) {x = from} {y = from + 0} (omega arith) ∙ sym (joined_nil (slots_at l (from + 0) m b))
  slots_at-add (suc n) m from b =
      let one : suc n + m ≡ suc (n + m) = omega arith in
      let at : from + 1 + n ≡ from + suc n = omega arith in
      let gap = has_zeros b (slot_place l from + slot_size l) (slot_place l (from + 1)) in
      let here = slot_of l (take (slot_size l) (drop (slot_place l from) b)) in
      ap (λ k. slots_at l from k b) one
      ∙ ap (λ o. when gap (then_slot here o)) (slots_at-add n m (from + 1) b)
      ∙ then_joined gap here (slots_at l (from + 1) n b) (slots_at l (from + 1 + n) m b)
      ∙ ap (λ k. joined_slots (slots_at l from (suc n) b) (slots_at l k m b)) at

  pub slots_in-add : (n m : ℕ) (b : List ℕ) → slots_in l (n + m) b ≡ joined_slots (slots_in l n b) (slots_at l n m b)
  slots_in-add n m b = slots_at-add n m 0 b ∙ ap (λ k. joined_slots (slots_in l n b) (slots_at l k m b)) (zero-add n)

  -- the slot at a place alone
  one_at : (at : ℕ) (b : List ℕ) (rest : ℕ) → slots_at l at (suc rest) b ≡ then_slot (slot_with_gap l b at) (slots_at l (at + 1) rest b)
  one_at at b rest = with_rest (has_zeros b (slot_place l at + slot_size l) (slot_place l (at + 1))) (slot_of l (take (slot_size l) (drop (slot_place l at) b))) (slots_at l (at + 1) rest b)

  pushed : (o : Option (List Slot)) (old items : List Slot) (s : Slot) → option_map (λ xs. old ++ xs) o ≡ Some items → option_map (λ xs. old ++ xs) (joined_slots o (Some (s ∷ []))) ≡ Some (items ++ s ∷ [])
  pushed None old items s h = absurd (none-some items h)
  pushed (Some xs) old items s h = ap Some (sym (append_assoc old xs (s ∷ [])) ∙ ap (λ ys. ys ++ s ∷ []) (same_Some (old ++ xs) items h))

  -- one slot more
  pub push_more : (bytes : List ℕ) (old items : List Slot) (at : ℕ) (s : Slot) → option_map (λ xs. old ++ xs) (slots_in l at bytes) ≡ Some items → slot_with_gap l bytes at ≡ Some s
      → option_map (λ xs. old ++ xs) (slots_in l (at + 1) bytes) ≡ Some (items ++ s ∷ [])
  push_more bytes old items at s h is =
      let e : slots_in l (at + 1) bytes ≡ joined_slots (slots_in l at bytes) (Some (s ∷ [])) =
      slots_in-add at 1 bytes ∙ ap (joined_slots (slots_in l at bytes)) (one_at at bytes 0 ∙ ap (λ o. then_slot o (Some [])) is) in
      ap (option_map (λ xs. old ++ xs)) e ∙ pushed (slots_in l at bytes) old items s h

  -- and one that is none
  pub push_none : (bytes : List ℕ) (at count : ℕ) → at < count → slot_with_gap l bytes at ≡ None → slots_in l count bytes ≡ None
  push_none bytes at count low is =
      let n : count ≡ at + suc (count - at - 1) = omega arith in
      ap (λ k. slots_in l k bytes) n
      ∙ slots_in-add at (suc (count - at - 1)) bytes
      ∙ ap (joined_slots (slots_in l at bytes)) (one_at at bytes (count - at - 1) ∙ ap (λ o. then_slot o (slots_at l (at + 1) (count - at - 1) bytes)) is)
      ∙ joined_none (slots_in l at bytes)

  -- The slots of a block, in its bytes.

  -- a slot of a block lies in it
  pub rank_within : (rank : ℕ) → rank < slots_in_block l → slot_place l rank + slot_size l ≤ 1024
  rank_within rank low = omega (arith, slot_within l (slots_before l 0 + rank), byte_of_slot l 0 rank low)

  -- and so does what is between it and the next one
  rank_upto : (rank : ℕ) → rank ≤ slots_in_block l → slot_place l rank ≤ 1024
  rank_upto rank low =
      let last : slot_place l (slots_in_block l) ≡ 1024 = ap (slot_place l) {x = slots_in_block l} {y = slots_before l 1 + 0} (omega (arith, next_slots_before l 0, no_slots_before l)) ∙ omega (arith, slots_of_block l 1 0, first_slot l) in
      omega (arith, slot_rises l rank (slots_in_block l) low, last)

  -- zeros up to a place are zeros up to the end of the bytes, where that is before it
  pub gap_within : (bytes : List ℕ) (from to : ℕ) → has_zeros bytes from (min (length bytes) to) ≡ has_zeros bytes from to
  gap_within bytes from to =
      ap (λ n. are_zeros (take n (drop from bytes))) {x = min (length bytes) to - from} {y = min (to - from) (length (drop from bytes))} (omega (arith, length-drop from bytes)) ∙ ap are_zeros (take_min (to - from) (drop from bytes))

  -- bytes of a block are those of all from there on
  window : (bytes got : List ℕ) (block from to : ℕ) → got ≡ take 1024 (drop (1024 * block) bytes) → from ≤ to → to ≤ 1024 → take (to - from) (drop (1024 * block + from) bytes) ≡ take (to - from) (drop from got)
  window bytes got block from to is ordered high =
      let rest = drop (1024 * block) bytes in
      let here : drop from got ≡ take (1024 - from) (drop from rest) =
      ap (drop from) is ∙ ap (λ n. drop from (take n rest)) {x = 1024} {y = from + (1024 - from)} (omega (arith, ordered, high)) ∙ drop-take from (1024 - from) rest in
      ap (take (to - from)) (sym (drop-drop from (1024 * block) bytes))
      ∙ sym (ap (take (to - from)) here ∙ take-take (to - from) (1024 - from) (drop from rest) (omega (arith, high)))

  -- so a slot with its gap reads from a block as from all
  block_slot : (bytes got : List ℕ) (block rank : ℕ) → got ≡ take 1024 (drop (1024 * block) bytes) → rank < slots_in_block l → slot_with_gap l bytes (slots_before l block + rank) ≡ slot_with_gap l got rank
  block_slot bytes got block rank is low =
      let from : slot_place l (slots_before l block + rank) ≡ 1024 * block + slot_place l rank = slots_of_block l block rank in
      let to : slot_place l (slots_before l block + rank + 1) ≡ 1024 * block + slot_place l (rank + 1) = ap (slot_place l) {x = slots_before l block + rank + 1} {y = slots_before l block + (rank + 1)} (omega arith) ∙ slots_of_block l block (rank + 1) in
      let apart = slot_apart l rank (rank + 1) (omega arith) in
      let slot : take (slot_size l) (drop (slot_place l (slots_before l block + rank)) bytes) ≡ take (slot_size l) (drop (slot_place l rank) got) =
      ap (λ n. take (slot_size l) (drop n bytes)) from
      ∙ ap (λ n. take n (drop (1024 * block + slot_place l rank) bytes)) {x = slot_size l} {y = slot_place l rank + slot_size l - slot_place l rank} (omega arith)
      ∙ window bytes got block (slot_place l rank) (slot_place l rank + slot_size l) is (omega arith) (rank_within rank low)
      ∙ ap (λ n. take n (drop (slot_place l rank) got)) {x = slot_place l rank + slot_size l - slot_place l rank} {y = slot_size l} (omega arith) in
      let gap : has_zeros bytes (slot_place l (slots_before l block + rank) + slot_size l) (slot_place l (slots_before l block + rank + 1)) ≡ has_zeros got (slot_place l rank + slot_size l) (slot_place l (rank + 1)) =
      ap₂ (λ m n. has_zeros bytes (m + slot_size l) n) from to
      ∙ ap (λ m. are_zeros (take m (drop (1024 * block + slot_place l rank + slot_size l) bytes))) {x = 1024 * block + slot_place l (rank + 1) - (1024 * block + slot_place l rank + slot_size l)} {y = slot_place l (rank + 1) - (slot_place l rank + slot_size l)} (omega arith)
      ∙ ap (λ n. are_zeros (take (slot_place l (rank + 1) - (slot_place l rank + slot_size l)) (drop n bytes))) {x = 1024 * block + slot_place l rank + slot_size l} {y = 1024 * block + (slot_place l rank + slot_size l)} (omega arith)
      ∙ ap are_zeros (window bytes got block (slot_place l rank + slot_size l) (slot_place l (rank + 1)) is apart (rank_upto (rank + 1) (omega (arith, low)))) in
      ap₂ (λ t (xs : List ℕ). when t (slot_of l xs)) gap slot

  -- and so do the slots of a block from a rank on
  block_slots : (bytes got : List ℕ) (block : ℕ) → got ≡ take 1024 (drop (1024 * block) bytes) → (n rank : ℕ) → rank + n ≤ slots_in_block l → slots_at l (slots_before l block + rank) n bytes ≡ slots_at l rank n got
  block_slots bytes got block is zero rank few = refl
  block_slots bytes got block is (suc n) rank few =
      one_at (slots_before l block + rank) bytes n
      ∙ ap₂ then_slot (block_slot bytes got block rank is (omega (arith, few)))
      (ap (λ k. slots_at l k n bytes) {x = slots_before l block + rank + 1} {y = slots_before l block + (rank + 1)} (omega arith) ∙ block_slots bytes got block is n (rank + 1) (omega (arith, few)))
      ∙ sym (one_at rank got n)

  -- the slots up to one of a block
  up_to : (bytes got : List ℕ) (block n : ℕ) → got ≡ take 1024 (drop (1024 * block) bytes) → n ≤ slots_in_block l → slots_in l (slots_before l block + n) bytes ≡ joined_slots (slots_in l (slots_before l block) bytes) (slots_in l n got)
  up_to bytes got block n is few =
      slots_in-add (slots_before l block) n bytes
      ∙ ap (joined_slots (slots_in l (slots_before l block) bytes)) (ap (λ k. slots_at l k n bytes) {x = slots_before l block} {y = slots_before l block + 0} (omega arith) ∙ block_slots bytes got block is n 0 (omega (arith, few)))

  chunked : (o : Option (List Slot)) (items new : List Slot) → option_map (λ xs. items ++ xs) o ≡ Some new → joined_slots (Some items) o ≡ Some new
  chunked None items new h = absurd (none-some new h)
  chunked (Some xs) items new h = h

  -- A directory of whole slots, block by block.

  module _ (size : ℕ) (whole : AreWholeSlots l size) where
    -- how many of its slots are in a block, where so many are left from that on
    abbrev pub in_block : ℕ → ℕ
    in_block block = min (slots_held l size - slots_before l block) (slots_in_block l)

    -- the blocks before one that isn't past the end are full
    full_before : (block : ℕ) → block < size / 1024 + 1 → slots_before l block ≤ slots_held l size
    full_before block low = ⊎_elim (λ fewer. absurd (omega (
      arith,
      low,
      whole,
      directory_before l (slots_held l size),
      slot_apart l (slots_held l size) (slots_before l block) fewer,
      slots_of_block l block 0,
      first_slot l,
      slot_size_is l,
      ap (slot_place l) {x = slots_before l block} {y = slots_before l block + 0} (omega arith),
    )))
        (λ enough. enough) (cases_lt (slots_held l size) (slots_before l block))

    -- behind the last one none is left
    none_left : slots_held l size ≤ slots_before l (size / 1024 + 1)
    none_left = omega (
      arith,
      directory_has_room l (slots_held l size),
      directory_needs l (slots_held l size),
      whole,
      slots_before_rise l ((directory_bytes l (slots_held l size) + 1023) / 1024) (size / 1024 + 1) (omega (arith, whole)),
      ap (slots_before l) (directory_needs l (slots_held l size)),
    )

    -- the bytes of a block are enough for its slots
    pub enough : (bytes got : List ℕ) (block : ℕ) → length bytes ≡ size → got ≡ take 1024 (drop (1024 * block) bytes) → directory_bytes l (in_block block) ≤ length got
    enough bytes got block long is = by (in_block block) refl
      where
        got_long : length got ≡ min 1024 (size - 1024 * block)
        got_long = ap length is ∙ length-take 1024 (drop (1024 * block) bytes) ∙ ap (min 1024) (length-drop (1024 * block) bytes ∙ ap (λ n. n - 1024 * block) long)

        by : (n : ℕ) → in_block block ≡ n → directory_bytes l n ≤ length got
        by zero e = omega (arith, no_directory l)
        by (suc n) e = omega (
          arith,
          got_long,
          directory_ends l n,
          ap (directory_bytes l) {x = suc n} {y = n + 1} (omega arith),
          rank_within n (omega (arith, e)),
          directory_holds l (slots_before l block + n) (slots_held l size) (omega (arith, e)),
          slots_of_block l block n,
          whole,
        )

    -- how many slots there are up to the end of a block
    up_count : (block : ℕ) → block < size / 1024 + 1 → slots_before l block + in_block block ≡ min (slots_before l (block + 1)) (slots_held l size)
    up_count block low = omega (arith, full_before block low, next_slots_before l block)

    front_count : (block : ℕ) → block < size / 1024 + 1 → min (slots_before l block) (slots_held l size) ≡ slots_before l block
    front_count block low = omega (arith, full_before block low)

    -- one block more
    pub read_more : (bytes got : List ℕ) (block : ℕ) (items new : List Slot) → block < size / 1024 + 1 → got ≡ take 1024 (drop (1024 * block) bytes)
        → slots_in l (min (slots_before l block) (slots_held l size)) bytes ≡ Some items → AppendsSlots true (slots_in l (in_block block) got) items new → slots_in l (min (slots_before l (block + 1)) (slots_held l size)) bytes ≡ Some new
    read_more bytes got block items new low is front more =
        let here : slots_in l (slots_before l block) bytes ≡ Some items = ap (λ k. slots_in l k bytes) (sym (front_count block low)) ∙ front in
        ap (λ k. slots_in l k bytes) (sym (up_count block low))
        ∙ up_to bytes got block (in_block block) is (omega arith)
        ∙ ap (λ o. joined_slots o (slots_in l (in_block block) got)) here
        ∙ chunked (slots_in l (in_block block) got) items new more

    -- a block with bytes that are no slot's
    pub read_none : (bytes got : List ℕ) (block : ℕ) → block < size / 1024 + 1 → got ≡ take 1024 (drop (1024 * block) bytes) → slots_in l (in_block block) got ≡ None → slots_in l (slots_held l size) bytes ≡ None
    read_none bytes got block low is none =
        let n = slots_before l block + in_block block in
        let all : slots_held l size ≡ n + (slots_held l size - n) = omega (arith, up_count block low) in
        ap (λ k. slots_in l k bytes) all
        ∙ slots_in-add n (slots_held l size - n) bytes
        ∙ ap (λ o. joined_slots o (slots_at l n (slots_held l size - n) bytes)) (up_to bytes got block (in_block block) is (omega arith) ∙ ap (joined_slots (slots_in l (slots_before l block) bytes)) none ∙ joined_none (slots_in l (slots_before l block) bytes))

    -- all of them, once the last block was read
    pub all_read : (bytes : List ℕ) (block : ℕ) (items : List Slot) → size / 1024 + 1 ≤ block → slots_in l (min (slots_before l block) (slots_held l size)) bytes ≡ Some items → slots_in l (slots_held l size) bytes ≡ Some items
    all_read bytes block items high front =
        ap (λ k. slots_in l k bytes) {x = slots_held l size} {y = min (slots_before l block) (slots_held l size)} (omega (arith, none_left, slots_before_rise l (size / 1024 + 1) block high)) ∙ front
