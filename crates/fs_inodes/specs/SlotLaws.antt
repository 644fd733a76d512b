-- The laws of slots and their bytes that the proofs of this crate rest on, gathered. Each is a clause of a function of layout_directory.
use Rattle.std.specs.Prelude.{◌≡◌, ℕ, ◌<◌, ◌≤◌, ◌+◌, ◌-◌, ◌++◌, List, [], ◌∷◌, length, take, replicate, set, Some}
use Rattle.base_types.specs.declared.layout.Layout.{Layout}
use Rattle.base_types.specs.Layouts.{slot_size, slot_place, directory_bytes}
use Rattle.layout_bytes.specs.declared.slot.Slot.{Slot}
use Rattle.layout_bytes.specs.Slot.{slot_of, slots_in, slot_spelling}
use Rattle.layout_directory.specs.Slots.{IsLawful}
use Rattle.layout_directory.specs.Directory.{ReadAs, overwrite}

-- what the proofs of this crate need to know of slots
pub record SlotLaws : Type 0 where
  pub reads : (l : Layout) (s : Slot) → IsLawful l s → slot_of l (slot_spelling l s) ≡ Some s
  pub spelling : (l : Layout) (s : Slot) → IsLawful l s → length (slot_spelling l s) ≡ slot_size l
  pub count : (l : Layout) (n : ℕ) (b : List ℕ) (slots : List Slot) → slots_in l n b ≡ Some slots → length slots ≡ n
  pub each : (l : Layout) (n : ℕ) (b : List ℕ) (slots : List Slot) → slots_in l n b ≡ Some slots → ReadAs l b slots
  pub front : (l : Layout) (n m : ℕ) (b : List ℕ) (slots : List Slot) → m ≤ n → slots_in l n b ≡ Some slots → slots_in l m b ≡ Some (take m slots)
  pub over : (l : Layout) (n : ℕ) (b new : List ℕ) (at : ℕ) (slots : List Slot) (s : Slot) → length new ≡ slot_size l → directory_bytes l n ≤ length b → at < n
      → slot_of l new ≡ Some s → slots_in l n b ≡ Some slots → slots_in l n (overwrite (slot_place l at) new b) ≡ Some (set slots at s)
  pub behind : (l : Layout) (n : ℕ) (b new : List ℕ) (slots : List Slot) (s : Slot) → length b ≡ directory_bytes l n → length new ≡ slot_size l
      → slot_of l new ≡ Some s → slots_in l n b ≡ Some slots
      → slots_in l (n + 1) (b ++ (replicate (slot_place l n - directory_bytes l n) 0 ++ new)) ≡ Some (slots ++ s ∷ [])
  -- bytes behind the last slot may be cut off
  pub cut : (l : Layout) (n : ℕ) (b : List ℕ) (slots : List Slot) → directory_bytes l n ≤ length b → slots_in l n b ≡ Some slots
      → slots_in l n (take (directory_bytes l n) b) ≡ Some slots
