-- A slot that was read, or wasn't, is what the bytes say.
use Rattle.std.proofs.Common.{◌≡◌, ℕ, ◌+◌, ◌<◌, ◌≤◌, List, get_or, take, drop, Option, None, Some, Result, Ok, Err, IfOk, OnErr, refl, sym, ap, ◌∙◌, arith, ◌⊎◌, inl, inr, length-take, get_or-drop}
use Rattle.std.specs.Result.{result_ok}
use Rattle.std.proofs.lemmas.Bool.{cases_lt}
use Rattle.std.proofs.lemmas.List.{get_or-take, get_or_past}
use Rattle.base_types.specs.declared.layout.Layout.{Layout}
use Rattle.layout_bytes.specs.declared.slot.Slot.{Slot}
use Rattle.layout_bytes.specs.Slot.{slot_of, slot_spelling}
use Rattle.layout_directory.specs.Slots.{IsSlot, IsLawful}
use Rattle.layout_directory.specs.declared.slot.BadSlot.{BadSlot}

small_by : (bytes : List ℕ) (n at i : ℕ) → ((j : ℕ) → get_or bytes j 0 < 256) → (i < n) ⊎ (n ≤ i) → get_or (take n (drop at bytes)) i 0 < 256
small_by bytes n at i small (inl low) = omega (arith, get_or-take n (drop at bytes) i 0 low, get_or-drop at bytes i 0, small (at + i))
small_by bytes n at i small (inr high) = omega (arith, get_or_past (take n (drop at bytes)) i 0 (omega (arith, length-take n (drop at bytes), high)))

-- a part of bytes is bytes
pub small_part : (bytes : List ℕ) (n at : ℕ) → ((j : ℕ) → get_or bytes j 0 < 256) → (i : ℕ) → get_or (take n (drop at bytes)) i 0 < 256
small_part bytes n at small i = small_by bytes n at i small (cases_lt i n)

none_there : (l : Layout) (bytes : List ℕ) (o : Option Slot) → slot_of l bytes ≡ o → ((s : Slot) → slot_of l bytes ≡ Some s → IsSlot l bytes s) → ((s : Slot) → IsSlot l bytes s → ⊥) → None ≡ o
none_there l bytes None e spelled refused = refl
none_there l bytes (Some s) e spelled refused = absurd (refused s (spelled s e))

pub parsed : (l : Layout) (bytes : List ℕ) (r : Result Slot BadSlot) → ((s : Slot) → IsLawful l s → slot_of l (slot_spelling l s) ≡ Some s) → ((s : Slot) → slot_of l bytes ≡ Some s → IsSlot l bytes s)
    → IfOk r (IsSlot l bytes) → OnErr r ((s : Slot) → IsSlot l bytes s → ⊥) → result_ok r ≡ slot_of l bytes
parsed l bytes (Ok s) reads spelled found refused = sym (ap (slot_of l) found.spelled ∙ reads s found.lawful)
parsed l bytes (Err e) reads spelled found refused = none_there l bytes (slot_of l bytes) refl spelled refused
