-- Which bytes are a slot's. It is described in docs/LAYOUT.md.
use Rattle.std.specs.Prelude.{◌≡◌, ◌<◌, ◌≤◌, ◌^◌, ℕ, true, List, length}
use Rattle.base_types.specs.declared.layout.Layout.{Layout}
use Rattle.base_types.specs.Layouts.{longest_name}
use Rattle.base_types.specs.Name.{is_name}
pub use Rattle.layout_bytes.specs.declared.slot.Slot.{Slot}
pub use Rattle.layout_bytes.specs.Slot.{slot_of, slots_in, slot_spelling}

-- a slot that has a spelling of its own: its name is one that isn't too long, and four bytes are enough for its number
pub record IsLawful (l : Layout) (s : Slot) : Type 0 where
  pub node : s.node < 2 ^ 32
  pub name : is_name s.name ≡ true
  pub short : length s.name ≤ longest_name l

-- the bytes are the spelling of this lawful slot
pub record IsSlot (l : Layout) (bytes : List ℕ) (s : Slot) : Type 0 where
  pub lawful : IsLawful l s
  pub spelled : bytes ≡ slot_spelling l s
