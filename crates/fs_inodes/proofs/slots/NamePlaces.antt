-- The place of a name among slots, what is under it, and the slots with one that has the name.
use Rattle.std.proofs.Common.{◌≡◌, ℕ, zero, suc, ◌+◌, ◌<◌, ◌≤◌, nat_lt, Bool, true, false, cond, not, List, [], ◌∷◌, ◌++◌, length, take, set, get_or, bytes_eq, slice_get, Option, Some, None, refl, sym, ap, ◌∙◌, arith, length-append, take_all}
use Rattle.std.proofs.lemmas.Bool.{ltb-true, ltb-false, le-ltb}
use Rattle.std.proofs.lemmas.List.{take-append-le, length-set}
use Rattle.std.proofs.lemmas.Slice.Eq.{bytes_eq-Decides}
use Rattle.std.specs.List.{position_or_len}
use Rattle.std.proofs.lemmas.Option.{same_Some, none-some}
use Rattle.layout_bytes.specs.declared.slot.Slot.{Slot}
use Rattle.layout_directory.specs.Directory.{place_of, without_at}
use Rattle.crash_stands.specs.Inodes.{AreDistinct}
use Rattle.crash_stands.specs.Walks.{node_in}
use Rattle.fs_inodes.specs.Changes.{slot_of, put_at, with_slot}
use Rattle.fs_inodes.proofs.slots.Slots.{front_at, set_other, added_distinct, added_here, added_other, set_distinct, set_here_name, set_other_name}

-- the first slot of that name, by its place
record IsFirst (slots : List Slot) (name : List ℕ) (place : ℕ) : Type 0 where
  node : ℕ
  slot : slice_get slots place ≡ Some (slot_of node name)
  under : node_in slots name ≡ Some node

-- one less on both sides
less_one : (i n : ℕ) → 1 + i < suc n → i < n
less_one i n e = omega (arith, e)

-- a place counted from one more
one_up : (n : ℕ) → 1 + n ≡ suc n
one_up n = omega arith

-- the first slot that passes has the name, and its node is under it
first_at : (name : List ℕ) (slots : List Slot) → position_or_len (λ s. bytes_eq s.name name) slots < length slots → IsFirst slots name (position_or_len (λ s. bytes_eq s.name name) slots)
first_at name [] low = absurd (omega (arith, low))
first_at name (s ∷ slots) low = by (bytes_eq s.name name) refl low (first_at name slots)
  where
    by : (b : Bool) → bytes_eq s.name name ≡ b → cond (not b) (1 + position_or_len (λ s. bytes_eq s.name name) slots) 0 < suc (length slots)
        → (position_or_len (λ s. bytes_eq s.name name) slots < length slots → IsFirst slots name (position_or_len (λ s. bytes_eq s.name name) slots))
        → IsFirst (s ∷ slots) name (cond (not b) (1 + position_or_len (λ s. bytes_eq s.name name) slots) 0)
    by true is low go = record {
      node = s.node;
      slot = ap (λ n. Some (slot_of s.node n)) ((bytes_eq-Decides s.name name).0 is);
      under = ap (λ t. cond t (Some s.node) (node_in slots name)) is;
    }
    by false is low go =
        let r = go (less_one _ _ low) in
        record { node = r.node; slot = ap (slice_get (s ∷ slots)) (one_up _) ∙ r.slot; under = ap (λ t. cond t (Some s.node) (node_in slots name)) is ∙ r.under }

-- one less on both sides, where it isn't less
not_less : (i n : ℕ) → suc n ≤ 1 + i → nat_lt i n ≡ false
not_less i n e = le-ltb i n (omega (arith, e))

-- where no slot passes, nothing is under the name
none_at : (name : List ℕ) (slots : List Slot) → nat_lt (position_or_len (λ s. bytes_eq s.name name) slots) (length slots) ≡ false → node_in slots name ≡ None
none_at name [] high = refl
none_at name (s ∷ slots) high = grind (arith, none_at name slots, bytes_eq s.name name, s.name, s.node, ltb-false, not_less)

-- what is at the place of a name
pub place_found : (slots : List Slot) (name : List ℕ) (place : ℕ) → place_of name slots ≡ Some place → (node : ℕ) × (slice_get slots place ≡ Some (slot_of node name)) × (node_in slots name ≡ Some node)
place_found slots name place e = by (nat_lt (position_or_len (λ s. bytes_eq s.name name) slots) (length slots)) refl e
  where
    by : (b : Bool) → nat_lt (position_or_len (λ s. bytes_eq s.name name) slots) (length slots) ≡ b → cond b (Some (position_or_len (λ s. bytes_eq s.name name) slots)) None ≡ Some place
        → (node : ℕ) × (slice_get slots place ≡ Some (slot_of node name)) × (node_in slots name ≡ Some node)
    by true is e =
        let r = first_at name slots (ltb-true _ _ is) in
        (r.node, ap (slice_get slots) (sym (same_Some _ place e)) ∙ r.slot, r.under)
    by false is e = absurd (none-some place e)

-- and that nothing stands where there is none
pub place_missing : (slots : List Slot) (name : List ℕ) → place_of name slots ≡ None → node_in slots name ≡ None
place_missing slots name e = grind (arith, none-some, none_at)

-- The slots with one of that name.

-- what the new slots are: no name twice, the node under its name, under every other name what was there, and each slot of another name in its place
pub record Puts (slots new : List Slot) (s : Slot) : Type 0 where
  pub distinct : AreDistinct new
  pub here : node_in new s.name ≡ Some s.node
  pub others : (name : List ℕ) → (name ≡ s.name → ⊥) → node_in new name ≡ node_in slots name
  pub kept : (i : ℕ) (u : Slot) → slice_get slots i ≡ Some u → (u.name ≡ s.name → ⊥) → slice_get new i ≡ Some u

-- with the slot in the stead of one, or behind the last one
pub puts : (slots : List Slot) (s : Slot) → AreDistinct slots → Puts slots (with_slot slots s) s
puts slots s distinct = by (place_of s.name slots) refl
  where
    by : (o : Option ℕ) → place_of s.name slots ≡ o → Puts slots (put_at o s slots) s
    by None is =
        let free = place_missing slots s.name is in
        record {
          distinct = added_distinct slots s distinct free;
          here = added_here slots s distinct free;
          others = added_other slots s distinct free;
          kept = λ i u at off. front_at slots (s ∷ []) i u at;
        }
    by (Some place) is =
        let r = place_found slots s.name place is in
        record {
          distinct = set_distinct slots place (slot_of r.0 s.name) s distinct r.1 refl;
          here = set_here_name slots place (slot_of r.0 s.name) s distinct r.1 refl;
          others = set_other_name slots place (slot_of r.0 s.name) s distinct r.1 refl;
          kept = λ i u at off. set_other slots place i s (λ e. off (ap (λ r. r.name) (same_Some u (slot_of r.0 s.name) (sym at ∙ ap (slice_get slots) e ∙ r.1)))) ∙ at;
        }

-- A slot that only changes its name.

-- a place that is set in a list with one more at its end
set_before : {A : Type 0} (xs : List A) (v w : A) (i : ℕ) → i < length xs → set (xs ++ v ∷ []) i w ≡ set xs i w ++ v ∷ []
set_before [] v w i low = absurd (omega (arith, low))
set_before (x ∷ xs) v w zero low = refl
set_before (x ∷ xs) v w (suc i) low = ap (λ l. x ∷ l) (set_before xs v w i (omega (arith, low)))

-- the last one of a list with one more at its end
last_of : {A : Type 0} (xs : List A) (v w : A) → get_or (xs ++ v ∷ []) (length xs) w ≡ v
last_of [] v w = refl
last_of (x ∷ xs) v w = last_of xs v w

-- a front of a list with one more at its end
front_of : {A : Type 0} (xs : List A) (v : A) (n : ℕ) → n ≡ length xs → take n (xs ++ v ∷ []) ≡ xs
front_of xs v n e = take-append-le n xs (v ∷ []) (omega (arith, e)) ∙ take_all n xs (omega (arith, e))

-- a slot behind the last one comes into the hole of the one that is taken out: as if that one had changed its name in its place
pub in_its_place : (slots : List Slot) (s : Slot) (place : ℕ) → place_of s.name slots ≡ None → place < length slots → without_at place (with_slot slots s) ≡ set slots place s
in_its_place slots s place none low = grind (arith, last_of, set_before, front_of, length-set, length-append)
