-- What is found under a name: the slot at a place, where no slot before it has the name.
use Rattle.std.proofs.Common.{◌≡◌, ◌≢◌, ℕ, zero, suc, ◌+◌, ◌≤◌, nat_lt, true, false, cond, not, List, [], ◌∷◌, length, bytes_eq, slice_get, None, Some, refl, sym, ap, ◌∙◌, arith}
use Rattle.std.proofs.lemmas.Bool.{false_from_ne_true, lt-ltb, le-ltb}
use Rattle.std.proofs.lemmas.Option.{none-some, slice_get_within, same_Some}
use Rattle.std.proofs.lemmas.Slice.Eq.{bytes_eq-Decides}
use Rattle.std.specs.List.{position_or_len}
use Rattle.layout_bytes.specs.declared.slot.Slot.{Slot}
use Rattle.crash_stands.specs.Walks.{node_in}
use Rattle.fs_inodes.specs.Changes.{slot_of}
use Rattle.fs_dirs.specs.Directories.{Finds}
use Rattle.fs_dirs.specs.Reading.{MissesBefore}

-- a slot that has another name doesn't pass
passes_not : (s : Slot) (name : List ℕ) → s.name ≢ name → bytes_eq s.name name ≡ false
passes_not s name off = false_from_ne_true (bytes_eq s.name name) (λ e. off ((bytes_eq-Decides s.name name).0 e))

-- one that has it does
passes : (s : Slot) (name : List ℕ) → s.name ≡ name → bytes_eq s.name name ≡ true
passes s name e = (bytes_eq-Decides s.name name).1 e

-- the slots behind the first
misses_rest : (s : Slot) (slots : List Slot) (name : List ℕ) (p : ℕ) → MissesBefore (s ∷ slots) name (suc p) → MissesBefore slots name p
misses_rest s slots name p misses k t low at = misses (suc k) t (omega (arith, low)) at

-- the place of the first slot that has the name, and the number that it names
at_place : (slots : List Slot) (name : List ℕ) (p node : ℕ) → slice_get slots p ≡ Some (slot_of node name) → MissesBefore slots name p
    → (position_or_len (λ s. bytes_eq s.name name) slots ≡ p) × (node_in slots name ≡ Some node)
at_place [] name p node at misses = absurd (none-some (slot_of node name) at)
at_place (s ∷ slots) name zero node at misses =
    let same = same_Some s (slot_of node name) at in
    let yes_it = passes s name (ap (λ (t : Slot). t.name) same) in
    (ap (λ b. cond (not b) (1 + position_or_len (λ s. bytes_eq s.name name) slots) 0) yes_it, ap (λ b. cond b (Some s.node) (node_in slots name)) yes_it ∙ ap (λ (t : Slot). Some t.node) same)
at_place (s ∷ slots) name (suc p) node at misses =
    let off = passes_not s name (misses 0 s (omega arith) refl) in
    let rest = at_place slots name p node at (misses_rest s slots name p misses) in
    (ap (λ b. cond (not b) (1 + position_or_len (λ s. bytes_eq s.name name) slots) 0) off ∙ omega (arith, rest.0), ap (λ b. cond b (Some s.node) (node_in slots name)) off ∙ rest.1)

-- no slot has the name
at_none : (slots : List Slot) (name : List ℕ) → MissesBefore slots name (length slots) → (position_or_len (λ s. bytes_eq s.name name) slots ≡ length slots) × (node_in slots name ≡ None)
at_none [] name misses = (refl, refl)
at_none (s ∷ slots) name misses =
    let off = passes_not s name (misses 0 s (omega arith) refl) in
    let rest = at_none slots name (misses_rest s slots name (length slots) misses) in
    (ap (λ b. cond (not b) (1 + position_or_len (λ s. bytes_eq s.name name) slots) 0) off ∙ omega (arith, rest.0), ap (λ b. cond b (Some s.node) (node_in slots name)) off ∙ rest.1)

-- the slot at the place was found
pub finds_slot : (slots : List Slot) (name : List ℕ) (p node : ℕ) → slice_get slots p ≡ Some (slot_of node name) → MissesBefore slots name p → Finds slots name (Some (record { place = p; node = node }))
finds_slot slots name p node at misses =
    let h = at_place slots name p node at misses in
    let test : nat_lt p (length slots) ≡ true = lt-ltb p (length slots) (slice_get_within slots p (slot_of node name) at) in
    record {
      place = sym (ap (λ n. cond (nat_lt n (length slots)) (Some n) None) h.0 ∙ ap (λ b. cond b (Some p) None) test);
      node = sym h.1;
    }

-- nothing was found
pub finds_nothing : (slots : List Slot) (name : List ℕ) (count : ℕ) → length slots ≤ count → MissesBefore slots name count → Finds slots name None
finds_nothing slots name count all misses =
    let h = at_none slots name (λ k s low at. misses k s (omega (arith, low, all)) at) in
    record {
      place = sym (ap (λ n. cond (nat_lt n (length slots)) (Some n) None) h.0 ∙ ap (λ b. cond b (Some (length slots)) None) (le-ltb (length slots) (length slots) (omega arith)));
      node = sym h.1;
    }
