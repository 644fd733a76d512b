-- Lists of slots: what is at a place, and what is under a name, after a slot came, changed or went.
use Rattle.std.proofs.Common.{◌≡◌, ℕ, zero, suc, ◌-◌, ◌<◌, Bool, true, false, cond, List, [], ◌∷◌, ◌++◌, length, take, set, get_or, slice_get, bytes_eq, Some, None, sym, refl, ap, ◌∙◌, ◌⊎◌, inl, inr, arith}
use Rattle.std.proofs.lemmas.Bool.{cases_Bool, cases_eq}
use Rattle.std.proofs.lemmas.Option.{slice_get_within, slice_get-get_or, same_Some, none-some}
use Rattle.std.proofs.lemmas.Slice.Eq.{bytes_eq-Decides}
use Rattle.layout_bytes.specs.declared.slot.Slot.{Slot}
use Rattle.layout_directory.specs.Directory.{without_at}
use Rattle.crash_stands.specs.Inodes.{AreDistinct}
use Rattle.crash_stands.specs.Walks.{node_in}
use Rattle.fs_inodes.proofs.basics.Paths.{which}

-- What is at a place.

-- the place that was set has the new one
pub set_here : {A : Type 0} (xs : List A) (i : ℕ) (x v : A) → slice_get xs i ≡ Some x → slice_get (set xs i v) i ≡ Some v
set_here [] i x v e = absurd (none-some x e)
set_here (y ∷ xs) zero x v e = refl
set_here (y ∷ xs) (suc i) x v e = set_here xs i x v e

-- places that differ, counted from the first
one_more : (j i : ℕ) → (suc j ≡ suc i → ⊥) → j ≡ i → ⊥
one_more j i off e = off (ap suc e)

-- another place has what it had
pub set_other : {A : Type 0} (xs : List A) (i j : ℕ) (v : A) → (j ≡ i → ⊥) → slice_get (set xs i v) j ≡ slice_get xs j
set_other [] i j v off = refl
set_other (y ∷ xs) zero zero v off = absurd (off refl)
set_other (y ∷ xs) zero (suc j) v off = refl
set_other (y ∷ xs) (suc i) zero v off = refl
set_other (y ∷ xs) (suc i) (suc j) v off = set_other xs i j v (one_more j i off)

-- a list with more behind it has at each place what it had
pub front_at : {A : Type 0} (xs ys : List A) (i : ℕ) (x : A) → slice_get xs i ≡ Some x → slice_get (xs ++ ys) i ≡ Some x
front_at [] ys i x e = absurd (none-some x e)
front_at (y ∷ xs) ys zero x e = e
front_at (y ∷ xs) ys (suc i) x e = front_at xs ys i x e

-- and the new one behind them
pub last_at : {A : Type 0} (xs : List A) (v : A) → slice_get (xs ++ v ∷ []) (length xs) ≡ Some v
last_at [] v = refl
last_at (y ∷ xs) v = last_at xs v

-- what is in a list with one more at its end stood there, or is that one
pub at_in_longer : {A : Type 0} (xs : List A) (v : A) (i : ℕ) (x : A) → slice_get (xs ++ v ∷ []) i ≡ Some x → (slice_get xs i ≡ Some x) ⊎ ((i ≡ length xs) × (x ≡ v))
at_in_longer [] v zero x e = inr (refl, sym (same_Some v x e))
at_in_longer [] v (suc i) x e = absurd (none-some x e)
at_in_longer (y ∷ xs) v zero x e = inl e
at_in_longer (y ∷ xs) v (suc i) x e = grind (arith, at_in_longer xs v i x e)

-- a front has at each of its places what the list has
pub take_at : {A : Type 0} (n : ℕ) (xs : List A) (i : ℕ) → i < n → slice_get (take n xs) i ≡ slice_get xs i
take_at zero xs i low = absurd (omega (arith, low))
take_at (suc n) [] i low = refl
take_at (suc n) (x ∷ xs) zero low = refl
take_at (suc n) (x ∷ xs) (suc i) low = take_at n xs i (omega (arith, low))

-- and no other places
pub at_in_front : {A : Type 0} (n : ℕ) (xs : List A) (i : ℕ) (x : A) → slice_get (take n xs) i ≡ Some x → i < n
at_in_front zero xs i x e = absurd (none-some x e)
at_in_front (suc n) [] i x e = absurd (none-some x e)
at_in_front (suc n) (y ∷ xs) zero x e = omega arith
at_in_front (suc n) (y ∷ xs) (suc i) x e = let low = at_in_front n xs i x e in omega (arith, low)

-- The names of slots.

-- the slot is in the list
abbrev pub Has : List Slot → Slot → Type 0
Has slots s = (i : ℕ) × (slice_get slots i ≡ Some s)

-- the slots behind the first have names of their own
pub rest_distinct : (x : Slot) (slots : List Slot) → AreDistinct (x ∷ slots) → AreDistinct slots
rest_distinct x slots distinct j k u v at_j at_k same = omega (arith, distinct (suc j) (suc k) u v at_j at_k same)

-- the name of each slot leads to its node
pub finds : (slots : List Slot) (i : ℕ) (s : Slot) → AreDistinct slots → slice_get slots i ≡ Some s → node_in slots s.name ≡ Some s.node
finds [] i s distinct at = absurd (none-some s at)
finds (x ∷ slots) zero s distinct at = grind (arith, same_Some, x.node, s.name, bytes_eq-Decides, x.name)
finds (x ∷ slots) (suc i) s distinct at = by (finds slots i s (rest_distinct x slots distinct) at) (cases_Bool (bytes_eq x.name s.name))
  where
    by : node_in slots s.name ≡ Some s.node → (bytes_eq x.name s.name ≡ true) ⊎ (bytes_eq x.name s.name ≡ false) → node_in (x ∷ slots) s.name ≡ Some s.node
    by rest (inl e) = absurd (omega (arith, distinct 0 (suc i) x s refl at ((bytes_eq-Decides x.name s.name).0 e)))
    by rest (inr e) = ap (λ b. cond b (Some x.node) (node_in slots s.name)) e ∙ rest

-- what is under a name is what a slot of that name names
pub found : (slots : List Slot) (name : List ℕ) (n : ℕ) → node_in slots name ≡ Some n → (s : Slot) × (Has slots s) × (s.name ≡ name) × (s.node ≡ n)
found [] name n e = absurd (none-some n e)
found (x ∷ slots) name n e = by (bytes_eq x.name name) refl e (found slots name n)
  where
    by : (b : Bool) → bytes_eq x.name name ≡ b → cond b (Some x.node) (node_in slots name) ≡ Some n
        → (node_in slots name ≡ Some n → (s : Slot) × (Has slots s) × (s.name ≡ name) × (s.node ≡ n))
        → (s : Slot) × (Has (x ∷ slots) s) × (s.name ≡ name) × (s.node ≡ n)
    by true is e go = (x, (0, refl), (bytes_eq-Decides x.name name).0 is, same_Some x.node n e)
    by false is e go = let r = go e in (r.0, (suc r.1.0, r.1.1), r.2, r.3)

-- a slot has no name under which nothing stands
pub not_named : (slots : List Slot) (name : List ℕ) (i : ℕ) (s : Slot) → AreDistinct slots → node_in slots name ≡ None → slice_get slots i ≡ Some s → s.name ≡ name → ⊥
not_named slots name i s distinct none at same = none-some s.node (sym (ap (node_in slots) same ∙ none) ∙ finds slots i s distinct at)

-- under a name stands the same in two lists where the slots of that name are the same
pub same_under : (old new : List Slot) (name : List ℕ) → AreDistinct old → AreDistinct new
    → ((s : Slot) → Has old s → s.name ≡ name → Has new s) → ((s : Slot) → Has new s → s.name ≡ name → Has old s) → node_in new name ≡ node_in old name
same_under old new name distinct_old distinct_new there back = by (which (node_in old name))
  where
    by_new : node_in old name ≡ None → (node_in new name ≡ None) ⊎ ((n : ℕ) × (node_in new name ≡ Some n)) → node_in new name ≡ node_in old name
    by_new none (inl none_new) = none_new ∙ sym none
    by_new none (inr some) =
        let s = found new name some.0 some.1 in
        let at = back s.0 s.1 s.2 in
        absurd (not_named old name at.0 s.0 distinct_old none at.1 s.2)

    by : (node_in old name ≡ None) ⊎ ((n : ℕ) × (node_in old name ≡ Some n)) → node_in new name ≡ node_in old name
    by (inl none) = by_new none (which (node_in new name))
    by (inr some) =
        let s = found old name some.0 some.1 in
        let at = there s.0 s.1 s.2 in
        ap (node_in new) (sym s.2) ∙ finds new at.0 s.0 distinct_new at.1 ∙ ap Some s.3 ∙ sym some.1

-- A slot behind the last one.

module _ (slots : List Slot) (s : Slot) (distinct : AreDistinct slots) (free : node_in slots s.name ≡ None) where
  -- no two slots have one name then
  pub added_distinct : AreDistinct (slots ++ s ∷ [])
  added_distinct i j u v at_i at_j same = grind (arith, at_in_longer slots s i u at_i, at_in_longer slots s j v at_j, at_in_longer, not_named, s.name)

  -- its node is under its name
  pub added_here : node_in (slots ++ s ∷ []) s.name ≡ Some s.node
  added_here = finds (slots ++ s ∷ []) (length slots) s added_distinct (last_at slots s)

  -- and under every other name what was there
  pub added_other : (name : List ℕ) → (name ≡ s.name → ⊥) → node_in (slots ++ s ∷ []) name ≡ node_in slots name
  added_other name off = grind (arith, same_under, added_distinct, front_at, at_in_longer)

-- Another slot at the place of one.

module _ (slots : List Slot) (place : ℕ) (s v : Slot) (distinct : AreDistinct slots) (at : slice_get slots place ≡ Some s) where
  -- what is at a place is the new slot, or what was there
  at_set : (i : ℕ) (u : Slot) → slice_get (set slots place v) i ≡ Some u → ((i ≡ place) × (u ≡ v)) ⊎ ((i ≡ place → ⊥) × (slice_get slots i ≡ Some u))
  at_set i u e = grind (arith, cases_eq i place, same_Some, set_here, set_other)

  -- its name is that of the one before
  module _ (own : v.name ≡ s.name) where
    -- no other slot has it
    no_other : (i : ℕ) (u : Slot) → (i ≡ place → ⊥) → slice_get slots i ≡ Some u → u.name ≡ v.name → ⊥
    no_other i u off e same = off (distinct i place u s e at (same ∙ own))

    -- no two slots have one name then
    pub set_distinct : AreDistinct (set slots place v)
    set_distinct i j u w at_i at_j same = grind (arith, at_set i u at_i, at_set j w at_j, at_set, no_other)

    -- the new slot's node is under its name
    pub set_here_name : node_in (set slots place v) v.name ≡ Some v.node
    set_here_name = finds (set slots place v) place v set_distinct (set_here slots place s v at)

    -- and under every other name what was there
    pub set_other_name : (name : List ℕ) → (name ≡ v.name → ⊥) → node_in (set slots place v) name ≡ node_in slots name
    set_other_name name off = same_under slots (set slots place v) name distinct set_distinct
        (λ u there same. (there.0, set_other slots place there.0 v (λ e. off (sym same ∙ ap (λ r. r.name) (same_Some u s (sym there.1 ∙ ap (slice_get slots) e ∙ at)) ∙ sym own)) ∙ there.1))
        (λ u there same. by u there same (at_set there.0 u there.1))
      where
        by : (u : Slot) (there : Has (set slots place v) u) → u.name ≡ name → ((there.0 ≡ place) × (u ≡ v)) ⊎ ((there.0 ≡ place → ⊥) × (slice_get slots there.0 ≡ Some u)) → Has slots u
        by u there h1 h2 = grind arith

-- A slot taken out, the last one in its place.

module _ (slots : List Slot) (place : ℕ) (s : Slot) (distinct : AreDistinct slots) (at : slice_get slots place ≡ Some s) where
  -- the place is one of the list
  low : place < length slots
  low = slice_get_within slots place s at

  -- a slot is at the last place
  last_slot : slice_get slots (length slots - 1) ≡ Some (get_or slots (length slots - 1) (record { node = 0; name = [] }))
  last_slot = slice_get-get_or slots (length slots - 1) (record { node = 0; name = [] }) (omega (arith, low))

  -- what is there stood elsewhere, and not at the place
  came_from : (i : ℕ) (u : Slot) → slice_get (without_at place slots) i ≡ Some u
      → ((i ≡ place) × (i < length slots - 1) × (slice_get slots (length slots - 1) ≡ Some u)) ⊎ ((i ≡ place → ⊥) × (i < length slots - 1) × (slice_get slots i ≡ Some u))
  came_from i u e = grind (arith, cases_eq i place, at_in_front, take_at, last_slot, set_here, set_other)

  -- what stood elsewhere is there
  comes_to : (i : ℕ) (u : Slot) → (i ≡ place → ⊥) → slice_get slots i ≡ Some u → Has (without_at place slots) u
  comes_to i u off e = by (cases_eq i (length slots - 1))
    where
      below : i < length slots
      below = slice_get_within slots i u e

      by : (i ≡ length slots - 1) ⊎ (i ≡ length slots - 1 → ⊥) → Has (without_at place slots) u
      by (inl same) = (
        place,
        take_at (length slots - 1) (set slots place _) place (omega (arith, low, below, same, off))
            ∙ set_here slots place s _ at ∙ sym last_slot ∙ ap (slice_get slots) (sym same) ∙ e,
      )
      by (inr apart) = (i, take_at (length slots - 1) (set slots place _) i (omega (arith, below, apart)) ∙ set_other slots place i _ off ∙ e)

  -- no two slots have one name then
  pub taken_distinct : AreDistinct (without_at place slots)
  taken_distinct i j u v at_i at_j same = grind (arith, came_from i u at_i, came_from j v at_j, length slots - 1, came_from)

  -- a slot that is there stood in the list, and has another name than the one that went
  pub was_there : (u : Slot) → Has (without_at place slots) u → (Has slots u) × (u.name ≡ s.name → ⊥)
  was_there u there = grind (arith, came_from there.0 u there.1, came_from, u.name, s.name)

  -- nothing is under the name of the one that went
  pub taken_here : node_in (without_at place slots) s.name ≡ None
  taken_here = by (which (node_in (without_at place slots) s.name))
    where
      by : (node_in (without_at place slots) s.name ≡ None) ⊎ ((n : ℕ) × (node_in (without_at place slots) s.name ≡ Some n)) → node_in (without_at place slots) s.name ≡ None
      by (inl none) = none
      by (inr some) = let u = found (without_at place slots) s.name some.0 some.1 in absurd ((was_there u.0 u.1).1 u.2)

  -- and under every other name what was there
  pub taken_other : (name : List ℕ) → (name ≡ s.name → ⊥) → node_in (without_at place slots) name ≡ node_in slots name
  taken_other name off = same_under slots (without_at place slots) name distinct taken_distinct
      (λ u there same. comes_to there.0 u (λ e. off (sym same ∙ ap (λ r. r.name) (same_Some u s (sym there.1 ∙ ap (slice_get slots) e ∙ at)))) there.1)
      (λ u there same. (was_there u there).0)
