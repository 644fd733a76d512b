-- A directory over its blocks, and what changes of it leave. It is described in docs/LAYOUT.md.
use Rattle.std.specs.Prelude.{◌≡◌, ◌<◌, ℕ, ◌+◌, ◌==◌, ◌&&◌, Bool, true, false, List, [], ◌++◌, length, take, drop, slice_index, slice_get, bytes_eq, Option, Some, None}
use Rattle.std.specs.List.{concat, position, swap_remove}
use Rattle.base_types.specs.declared.layout.Layout.{Layout}
use Rattle.base_types.specs.Layouts.{slot_size, slot_place}
use Rattle.layout_bytes.specs.declared.slot.Slot.{Slot}
use Rattle.layout_bytes.specs.Slot.{slot_of, slots_in}

-- the first slots of a directory, if each is one: its bytes are those of its blocks in order
abbrev pub entries_in : Layout → ℕ → List (List ℕ) → Option (List Slot)
entries_in l entries blocks = slots_in l entries (concat blocks)

-- at the place of each of these slots the bytes read as that slot
abbrev pub ReadAs : Layout → List ℕ → List Slot → Type 0
ReadAs l bytes slots = (i : ℕ) (s : Slot) → slice_get slots i ≡ Some s → slot_of l (take (slot_size l) (drop (slot_place l i) bytes)) ≡ Some s

-- the bytes of the slot at a place
abbrev pub slot_at : Layout → ℕ → List (List ℕ) → List ℕ
slot_at l place blocks = take (slot_size l) (drop (slot_place l place) (concat blocks))

-- the bytes of a slot have this name: the byte before the name says its length, and the name comes behind it
abbrev pub has_name : List ℕ → List ℕ → Bool
has_name slot name = (slice_index slot 4 == length name) && bytes_eq (take (length name) (drop 5 slot)) name

-- the first of so many places whose bytes have this name, or none where no place's bytes have it
abbrev pub IsFirstNamed : Layout → ℕ → List (List ℕ) → List ℕ → Option ℕ → Type 0
IsFirstNamed l entries blocks name None = (k : ℕ) → k < entries → has_name (slot_at l k blocks) name ≡ false
IsFirstNamed l entries blocks name (Some p) =
    (p < entries) × (has_name (slot_at l p blocks) name ≡ true) × ((k : ℕ) → k < p → has_name (slot_at l k blocks) name ≡ false)

-- the place of the first of these slots that has the name
abbrev pub place_of : List ℕ → List Slot → Option ℕ
place_of name slots = position (λ s. bytes_eq s.name name) slots

-- these bytes with new ones in place of those from `at` on
abbrev pub overwrite : ℕ → List ℕ → List ℕ → List ℕ
overwrite at new bytes = take at bytes ++ (new ++ drop (at + length new) bytes)

-- these slots without the one at a place: the last one comes into the hole
abbrev pub without_at : ℕ → List Slot → List Slot
without_at place slots = swap_remove slots place (record { node = 0; name = [] })
