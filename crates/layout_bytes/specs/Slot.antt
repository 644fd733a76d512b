-- Directory slots. They are described in docs/LAYOUT.md.
use Rattle.std.specs.Prelude.{ℕ, zero, suc, ◌+◌, ◌-◌, Bool, ◌&&◌, nat_le, List, [], ◌∷◌, ◌++◌, length, take, drop, replicate, slice_index, Option, Some, None}
use Rattle.byteorder.specs.Endian.{little_bytes}
use Rattle.base_types.specs.declared.layout.Layout.{Layout}
pub use Rattle.base_types.specs.Layouts.{slot_size}
use Rattle.base_types.specs.Layouts.{slot_place, longest_name}
use Rattle.base_types.specs.Name.{is_name}
use Rattle.layout_bytes.specs.declared.slot.Slot.{Slot}
use Rattle.layout_bytes.specs.Bytes.{field, has_zeros, when}

-- the bytes of a slot's name: the byte before them says how many
abbrev pub name_in : List ℕ → List ℕ
name_in b = take (slice_index b 4) (drop 5 b)

-- the slot in these bytes, if they are one's
unfoldable pub slot_of : Layout → List ℕ → Option Slot
slot_of l b =
    when (nat_le (slice_index b 4) (longest_name l) && (is_name (name_in b) && has_zeros b (5 + slice_index b 4) (slot_size l)))
    (Some (record { node = field b 0 4; name = name_in b }))

abbrev pub then_slot : Option Slot → Option (List Slot) → Option (List Slot)
then_slot None slots = None
then_slot (Some s) None = None
then_slot (Some s) (Some slots) = Some (s ∷ slots)

-- n slots from place `from` on, if each is one, with zeros between it and the next place
abbrev pub slots_at : Layout → ℕ → ℕ → List ℕ → Option (List Slot)
slots_at l from zero b = Some []
slots_at l from (suc n) b =
    when (has_zeros b (slot_place l from + slot_size l) (slot_place l (from + 1)))
    (then_slot (slot_of l (take (slot_size l) (drop (slot_place l from) b))) (slots_at l (from + 1) n b))

-- the first n slots
abbrev pub slots_in : Layout → ℕ → List ℕ → Option (List Slot)
slots_in l n b = slots_at l 0 n b

-- how a slot is in its bytes
abbrev pub slot_spelling : Layout → Slot → List ℕ
slot_spelling l s = little_bytes 4 s.node ++ (length s.name ∷ (s.name ++ replicate (slot_size l - 5 - length s.name) 0))
