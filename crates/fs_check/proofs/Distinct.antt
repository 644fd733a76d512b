-- Names of slots that are kept in a set, one slot more.
use Rattle.std.proofs.Common.{◌≡◌, ℕ, zero, suc, Bool, true, false, cond, List, [], ◌∷◌, ◌++◌, length, take, Some, slice_get, refl, sym, ap, ◌∙◌, arith, ◌⊎◌, inl, inr, length-take, ⊎_elim}
use Rattle.std.specs.Ordering.{nat_cmp, is_eq}
use Rattle.std.specs.Cmp.{Equal-is}
use Rattle.std.specs.Cmp.Lexicographic.{slice_cmp}
use Rattle.std.proofs.lemmas.Map.Lookups.{exact_bytes}
use Rattle.std.proofs.lemmas.Option.{slice_get_within, same_Some}
use Rattle.std.proofs.lemmas.Bool.{both_ways}
use Rattle.layout_bytes.specs.declared.slot.Slot.{Slot}
use Rattle.fs_check.specs.Slots.{HasName, HasNames, Repeats}

-- what stands in a front of slots stands there in all
pub get_taken : (n : ℕ) (xs : List Slot) (i : ℕ) (s : Slot) → slice_get (take n xs) i ≡ Some s → slice_get xs i ≡ Some s
get_taken zero xs i s h = absurd cc
get_taken (suc n) [] i s h = absurd cc
get_taken (suc n) (x ∷ xs) zero s h = h
get_taken (suc n) (x ∷ xs) (suc i) s h = get_taken n xs i s h

abbrev AtEnd : List Slot → Slot → Slot → ℕ → Type 0
AtEnd xs s t i = (i ≡ length xs) × (t ≡ s)

get_split : (xs : List Slot) (s t : Slot) (i : ℕ) → slice_get (xs ++ s ∷ []) i ≡ Some t → (slice_get xs i ≡ Some t) ⊎ AtEnd xs s t i
get_split [] s t zero h = inr (refl, sym (same_Some s t h))
get_split [] s t (suc i) h = absurd cc
get_split (x ∷ xs) s t zero h = inl h
get_split (x ∷ xs) s t (suc i) h = ⊎_elim (λ e. inl e)
    (λ e. inr (ap suc e.0, e.1))
    (get_split xs s t i h)

get_front : (xs : List Slot) (s t : Slot) (i : ℕ) → slice_get xs i ≡ Some t → slice_get (xs ++ s ∷ []) i ≡ Some t
get_front [] s t i h = absurd cc
get_front (x ∷ xs) s t zero h = h
get_front (x ∷ xs) s t (suc i) h = get_front xs s t i h

get_end : (xs : List Slot) (s : Slot) → slice_get (xs ++ s ∷ []) (length xs) ≡ Some s
get_end [] s = refl
get_end (x ∷ xs) s = get_end xs s

-- a slot with a new name comes behind the others
pub names_more : (xs : List Slot) (s : Slot) (kept new : List ℕ → Bool) → HasNames xs kept → kept s.name ≡ false → new s.name ≡ true → ((q : List ℕ) → kept q ≡ true → new q ≡ true) → ((q : List ℕ) → new q ≡ true → (kept q ≡ true) ⊎ (s.name ≡ q))
    → HasNames (xs ++ s ∷ []) new
names_more xs s kept new h fresh here keeps from = record {
  distinct = λ i j a b at_a at_b e. distinct i j a b e (get_split xs s a i at_a) (get_split xs s b j at_b);
  has = λ name n. has name n (get_split xs s n.slot n.place n.at);
  only = λ name e. only name (from name e);
}
  where
    clash : (i : ℕ) (a b : Slot) → slice_get xs i ≡ Some a → b ≡ s → a.name ≡ b.name → ⊥
    clash i a b at is e =
        let same : a.name ≡ s.name = e ∙ ap (λ (t : Slot). t.name) is in
        both_ways (kept s.name) fresh (ap kept (sym same) ∙ h.has a.name (record { place = i; slot = a; at = at; named = refl }))

    distinct : (i j : ℕ) (a b : Slot) → a.name ≡ b.name → (slice_get xs i ≡ Some a) ⊎ AtEnd xs s a i → (slice_get xs j ≡ Some b) ⊎ AtEnd xs s b j → i ≡ j
    distinct i j a b e (inl p) (inl q) = h.distinct i j a b p q e
    distinct i j a b e (inl p) (inr q) = absurd (clash i a b p q.1 e)
    distinct i j a b e (inr p) (inl q) = absurd (clash j b a q p.1 (sym e))
    distinct i j a b e (inr p) (inr q) = p.0 ∙ sym q.0

    has : (name : List ℕ) → (n : HasName (xs ++ s ∷ []) name) → (slice_get xs n.place ≡ Some n.slot) ⊎ AtEnd xs s n.slot n.place → new name ≡ true
    has name n (inl p) = keeps name (h.has name (record { place = n.place; slot = n.slot; at = p; named = n.named }))
    has name n (inr p) = ap new (sym (ap (λ (t : Slot). t.name) (sym p.1) ∙ n.named)) ∙ here

    only : (name : List ℕ) → (kept name ≡ true) ⊎ (s.name ≡ name) → HasName (xs ++ s ∷ []) name
    only name (inl e) = let n = h.only name e in record { place = n.place; slot = n.slot; at = get_front xs s n.slot n.place n.at; named = n.named }
    only name (inr e) = record { place = length xs; slot = s; at = get_end xs s; named = e }

-- the name of a slot is that of one before it
pub repeats : (slots : List Slot) (place : ℕ) (s : Slot) (kept : List ℕ → Bool) → slice_get slots place ≡ Some s → HasNames (take place slots) kept → kept s.name ≡ true → Repeats slots place
repeats slots place s kept at h e =
    let n = h.only s.name e in
    record {
      slot = s;
      at = at;
      earlier = n.place;
      before = omega (arith, slice_get_within (take place slots) n.place n.slot n.at, length-take place slots);
      other = n.slot;
      at_other = get_taken place slots n.place n.slot n.at;
      same = n.named;
    }

-- The set with one name more.

pub keeps_on : (b x : Bool) → x ≡ true → cond b true x ≡ true
keeps_on true x e = refl
keeps_on false x e = e

came : (b x : Bool) → cond b true x ≡ true → (x ≡ true) ⊎ (b ≡ true)
came true x e = inr refl
came false x e = inl e

pub came_from : (k q : List ℕ) (x : Bool) → cond (is_eq (slice_cmp nat_cmp k q)) true x ≡ true → (x ≡ true) ⊎ (k ≡ q)
came_from k q x e = ⊎_elim (λ h. inl h)
    (λ h. inr (exact_bytes k q ((Equal-is (slice_cmp nat_cmp k q)).0 h)))
    (came (is_eq (slice_cmp nat_cmp k q)) x e)
