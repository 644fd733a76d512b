-- Shelves by their names: where the shelf of a name is, and what a change at its place or at the end makes of
-- what every name has.
use Rattle.std.proofs.Common.{◌≡◌, ◌≢◌, ◌⊎◌, inl, inr, ⊎_elim, ℕ, suc, ◌+◌, ◌<◌, true, false, Bool, cond, if◌then◌else◌, List, [], ◌∷◌, ◌++◌, length, slice_set, slice_index_or, Option, Some, None, option_map, is_some, refl, sym, ◌∙◌, ap, subst, arith, bytes_eq, IfSome}
use Rattle.std.specs.List.{position_from}
use Rattle.std.proofs.lemmas.Iterator.Adapters.{position_from-zero}
use Rattle.std.proofs.lemmas.Bool.{cases_Bool, both_ways, false≢true, cond-true, cond-false}
use Rattle.std.proofs.lemmas.Slice.Eq.{bytes_eq-Decides}
use Rattle.disk_memory.specs.declared.calls.Fail.{Fail}
use Rattle.disk_memory_bay.specs.Shelves.{ShelfState, HeldState, shelf_of, place_of, has_blocks, held_on, fails_on, held_in, fails_in, IsSoundHeld, AreSound, Holds, Lists}

other_bytes : (xs ys : List ℕ) → xs ≢ ys → bytes_eq xs ys ≡ false
other_bytes xs ys d = ⊎_elim (λ e. absurd (d ((bytes_eq-Decides xs ys).0 e))) (λ e. e) (cases_Bool (bytes_eq xs ys))

bytes_same : (xs ys : List ℕ) → (xs ≡ ys) ⊎ (xs ≢ ys)
bytes_same xs ys = ⊎_elim (λ e. inl ((bytes_eq-Decides xs ys).0 e)) (λ e. inr (λ is. both_ways _ e ((bytes_eq-Decides xs ys).1 is))) (cases_Bool (bytes_eq xs ys))

-- the number in a value, or 0
number : Option ℕ → ℕ
number None = 0
number (Some n) = n

inside : (i j : ℕ) → ◌≡◌ {A = Option ℕ} (Some i) (Some j) → i ≡ j
unfolding number
inside i j e = ap number e

some_is : (i : ℕ) → ◌≡◌ {A = Option ℕ} None (Some i) → ⊥
some_is i e = false≢true (ap (λ (o : Option ℕ). is_some o) e)

-- one more than a place that was found
suc_place : (p : Option ℕ) (i : ℕ) → option_map suc p ≡ Some i → (j : ℕ) × (p ≡ Some j) × (suc j ≡ i)
suc_place None i e = absurd (some_is i e)
suc_place (Some j) i e = (j, refl, inside (suc j) i e)

suc_nowhere : (p : Option ℕ) → option_map suc p ≡ None → p ≡ None
suc_nowhere None e = refl
suc_nowhere (Some j) e = absurd (some_is (suc j) (sym e))

-- the place of the shelf of a name, step by step
abbrev first_place : List ShelfState → List ℕ → Option ℕ
first_place [] name = None
first_place (s ∷ ss) name = if bytes_eq s.name name then Some 0 else option_map suc (first_place ss name)

-- places one further on
shift : (p : ShelfState → Bool) (i : ℕ) (ss : List ShelfState) → position_from p (i + 1) ss ≡ option_map suc (position_from p i ss)
shift p i [] = refl
shift p i (s ∷ ss) = one (p s) _ _ (shift p (i + 1) ss)
  where
    one : (t : Bool) (a b : Option ℕ) → a ≡ option_map suc b → cond t (Some (i + 1)) a ≡ option_map suc (cond t (Some i) b)
    one true a b e = ap Some next
      where
        next : i + 1 ≡ suc i
        next = omega arith
    one false a b e = e

-- what a search gives is the place
pub place_is : (ss : List ShelfState) (name : List ℕ) → place_of ss name ≡ first_place ss name
place_is [] name = refl
place_is (s ∷ ss) name =
    position_from-zero (λ (x : ShelfState). bytes_eq x.name name) (s ∷ ss)
    ∙ ap (λ (o : Option ℕ). if bytes_eq s.name name then Some 0 else o)
    (shift (λ (x : ShelfState). bytes_eq x.name name) 0 ss ∙ ap (option_map suc) (sym (position_from-zero (λ (x : ShelfState). bytes_eq x.name name) ss) ∙ place_is ss name))

-- the shelf at the place that was found
pub place_shelf : (ss : List ShelfState) (name : List ℕ) (i : ℕ) (d : ShelfState) → first_place ss name ≡ Some i → shelf_of ss name ≡ Some (slice_index_or ss i d)
place_shelf [] name i d e = absurd (some_is i e)
place_shelf (s ∷ ss) name i d e = ⊎_elim
    (λ hit. cond-true _ _ _ hit ∙ ap (λ n. Some (slice_index_or (s ∷ ss) n d)) (inside 0 i (sym (cond-true _ _ _ hit) ∙ e)))
    (λ miss. let k = suc_place (first_place ss name) i (sym (cond-false _ _ _ miss) ∙ e) in
    cond-false _ _ _ miss ∙ place_shelf ss name k.0 d k.1 ∙ ap (λ n. Some (slice_index_or (s ∷ ss) n d)) k.2)
    (cases_Bool (bytes_eq s.name name))

-- it has the name
pub place_named : (ss : List ShelfState) (name : List ℕ) (i : ℕ) (d : ShelfState) → first_place ss name ≡ Some i → (slice_index_or ss i d).name ≡ name
place_named [] name i d e = absurd (some_is i e)
place_named (s ∷ ss) name i d e = ⊎_elim
    (λ hit. subst (λ n. (slice_index_or (s ∷ ss) n d).name ≡ name) (inside 0 i (sym (cond-true _ _ _ hit) ∙ e)) ((bytes_eq-Decides s.name name).0 hit))
    (λ miss. let k = suc_place (first_place ss name) i (sym (cond-false _ _ _ miss) ∙ e) in
    subst (λ n. (slice_index_or (s ∷ ss) n d).name ≡ name) k.2 (place_named ss name k.0 d k.1))
    (cases_Bool (bytes_eq s.name name))

-- the place is that of a shelf
pub place_within : (ss : List ShelfState) (name : List ℕ) (i : ℕ) → first_place ss name ≡ Some i → i < length ss
place_within [] name i e = absurd (some_is i e)
place_within (s ∷ ss) name i e = ⊎_elim
    (λ hit. let is = inside 0 i (sym (cond-true _ _ _ hit) ∙ e) in omega (arith, is))
    (λ miss. let k = suc_place (first_place ss name) i (sym (cond-false _ _ _ miss) ∙ e) in
    let low = place_within ss name k.0 k.1 in omega (arith, low, k.2))
    (cases_Bool (bytes_eq s.name name))

-- no place, no shelf
pub place_nowhere : (ss : List ShelfState) (name : List ℕ) → first_place ss name ≡ None → shelf_of ss name ≡ None
place_nowhere [] name e = refl
place_nowhere (s ∷ ss) name e = ⊎_elim
    (λ hit. absurd (some_is 0 (sym e ∙ cond-true _ _ _ hit)))
    (λ miss. cond-false _ _ _ miss ∙ place_nowhere ss name (suc_nowhere (first_place ss name) (sym (cond-false _ _ _ miss) ∙ e)))
    (cases_Bool (bytes_eq s.name name))

-- a name that has this shelf now, and every other name the one that it had
pub record Changes (name : List ℕ) (s : ShelfState) (old new : List ShelfState) : Type 0 where
  pub there : shelf_of new name ≡ Some s
  pub others : (other : List ℕ) → other ≢ name → shelf_of new other ≡ shelf_of old other

module _ (name : List ℕ) (x : ShelfState) (is : x.name ≡ name) where
  set_there : (ss : List ShelfState) (i : ℕ) → first_place ss name ≡ Some i → shelf_of (slice_set ss i x) name ≡ Some x
  set_there [] i e = absurd (some_is i e)
  set_there (s ∷ ss) i e = ⊎_elim
      (λ hit. subst (λ n. shelf_of (slice_set (s ∷ ss) n x) name ≡ Some x) (inside 0 i (sym (cond-true _ _ _ hit) ∙ e)) (cond-true _ _ _ ((bytes_eq-Decides x.name name).1 is)))
      (λ miss. let k = suc_place (first_place ss name) i (sym (cond-false _ _ _ miss) ∙ e) in
      subst (λ n. shelf_of (slice_set (s ∷ ss) n x) name ≡ Some x) k.2 (cond-false _ _ _ miss ∙ set_there ss k.0 k.1))
      (cases_Bool (bytes_eq s.name name))

  set_else : (ss : List ShelfState) (i : ℕ) (other : List ℕ) → first_place ss name ≡ Some i → other ≢ name → shelf_of (slice_set ss i x) other ≡ shelf_of ss other
  set_else [] i other e d = absurd (some_is i e)
  set_else (s ∷ ss) i other e d = ⊎_elim
      (λ hit. let here = (bytes_eq-Decides s.name name).0 hit in
      subst (λ n. shelf_of (slice_set (s ∷ ss) n x) other ≡ shelf_of (s ∷ ss) other) (inside 0 i (sym (cond-true _ _ _ hit) ∙ e))
      (cond-false _ _ _ (other_bytes x.name other (λ same. d (sym same ∙ is))) ∙ sym (cond-false _ _ _ (other_bytes s.name other (λ same. d (sym same ∙ here))))))
      (λ miss. let k = suc_place (first_place ss name) i (sym (cond-false _ _ _ miss) ∙ e) in
      subst (λ n. shelf_of (slice_set (s ∷ ss) n x) other ≡ shelf_of (s ∷ ss) other) k.2
      (ap (λ (q : Option ShelfState). if bytes_eq s.name other then Some s else q) (set_else ss k.0 other k.1 d)))
      (cases_Bool (bytes_eq s.name name))

  -- a shelf in the place of the one that had the name
  pub changes_set : (ss : List ShelfState) (i : ℕ) → first_place ss name ≡ Some i → Changes name x ss (slice_set ss i x)
  changes_set ss i e = record { there = set_there ss i e; others = λ other d. set_else ss i other e d }

  push_there : (ss : List ShelfState) → first_place ss name ≡ None → shelf_of (ss ++ x ∷ []) name ≡ Some x
  push_there [] e = cond-true _ _ _ ((bytes_eq-Decides x.name name).1 is)
  push_there (s ∷ ss) e = ⊎_elim
      (λ hit. absurd (some_is 0 (sym e ∙ cond-true _ _ _ hit)))
      (λ miss. cond-false _ _ _ miss ∙ push_there ss (suc_nowhere (first_place ss name) (sym (cond-false _ _ _ miss) ∙ e)))
      (cases_Bool (bytes_eq s.name name))

  push_else : (ss : List ShelfState) (other : List ℕ) → other ≢ name → shelf_of (ss ++ x ∷ []) other ≡ shelf_of ss other
  push_else [] other d = cond-false _ _ _ (other_bytes x.name other (λ same. d (sym same ∙ is)))
  push_else (s ∷ ss) other d = ap (λ (q : Option ShelfState). if bytes_eq s.name other then Some s else q) (push_else ss other d)

  -- a shelf behind all others, none of which has the name
  pub changes_push : (ss : List ShelfState) → first_place ss name ≡ None → Changes name x ss (ss ++ x ∷ [])
  changes_push ss e = record { there = push_there ss e; others = push_else ss }

module _ (name : List ℕ) (s : ShelfState) (old new : List ShelfState) (changes : Changes name s old new) where
  -- where the shelf has the failing calls that the name had, only what is held changed
  pub holds_by : (held : HeldState) → s.held ≡ Some held → s.fails ≡ fails_in old name → Holds name held old new
  holds_by held is same = record {
    held = ap held_on changes.there ∙ is;
    others = λ other d. ap held_on (changes.others other d);
    fails = λ other. ⊎_elim
        (λ e. subst (λ n. fails_in new n ≡ fails_in old n) (sym e) (ap fails_on changes.there ∙ same))
        (λ d. ap fails_on (changes.others other d))
        (bytes_same other name);
  }

  -- where the shelf holds what the name held, only its failing calls changed
  pub lists_by : (fails : List Fail) → s.fails ≡ fails → s.held ≡ held_in old name → Lists name fails old new
  lists_by fails is same = record {
    fails = ap fails_on changes.there ∙ is;
    others = λ other d. ap fails_on (changes.others other d);
    held = λ other. ⊎_elim
        (λ e. subst (λ n. held_in new n ≡ held_in old n) (sym e) (ap held_on changes.there ∙ same))
        (λ d. ap held_on (changes.others other d))
        (bytes_same other name);
  }

-- shelves stay sound where something sound comes under a name
pub sound_holds : (name : List ℕ) (held : HeldState) (old new : List ShelfState) → Holds name held old new → IsSoundHeld held → AreSound old → AreSound new
sound_holds name held old new holds sound all other = ⊎_elim
    (λ e. subst (λ n. IfSome (held_in new n) IsSoundHeld) (sym e) (subst (λ h. IfSome h IsSoundHeld) (sym holds.held) sound))
    (λ d. subst (λ h. IfSome h IsSoundHeld) (sym (holds.others other d)) (all other))
    (bytes_same other name)

-- where a search finds a name, step by step it is found there too
at_first : (ss : List ShelfState) (name : List ℕ) {o : Option ℕ} → place_of ss name ≡ o → first_place ss name ≡ o
at_first ss name at = sym (place_is ss name) ∙ at

-- a shelf that has other things held at its place
pub set_holds : (ss : List ShelfState) (name : List ℕ) (i : ℕ) (d x : ShelfState) (held : HeldState) → place_of ss name ≡ Some i
    → x.name ≡ (slice_index_or ss i d).name → x.fails ≡ (slice_index_or ss i d).fails → x.held ≡ Some held → Holds name held ss (slice_set ss i x)
set_holds ss name i d x held at named fails is =
    holds_by name x ss (slice_set ss i x) (changes_set name x (named ∙ place_named ss name i d (at_first ss name at)) ss i (at_first ss name at)) held is (fails ∙ sym (ap fails_on (place_shelf ss name i d (at_first ss name at))))

-- a shelf that has other failing calls at its place
pub set_lists : (ss : List ShelfState) (name : List ℕ) (i : ℕ) (d x : ShelfState) (list : List Fail) → place_of ss name ≡ Some i
    → x.name ≡ (slice_index_or ss i d).name → x.held ≡ (slice_index_or ss i d).held → x.fails ≡ list → Lists name list ss (slice_set ss i x)
set_lists ss name i d x list at named held is =
    lists_by name x ss (slice_set ss i x) (changes_set name x (named ∙ place_named ss name i d (at_first ss name at)) ss i (at_first ss name at)) list is (held ∙ sym (ap held_on (place_shelf ss name i d (at_first ss name at))))

-- a new shelf with something held
pub push_holds : (ss : List ShelfState) (name : List ℕ) (held : HeldState) → place_of ss name ≡ None → Holds name held ss (ss ++ record { name = name; fails = []; held = Some held } ∷ [])
push_holds ss name held at =
    let x : ShelfState = record { name = name; fails = []; held = Some held } in
    holds_by name x ss (ss ++ x ∷ []) (changes_push name x refl ss (at_first ss name at)) held refl (sym (ap fails_on (place_nowhere ss name (at_first ss name at))))

-- a new shelf with failing calls
pub push_lists : (ss : List ShelfState) (name : List ℕ) (list : List Fail) → place_of ss name ≡ None → Lists name list ss (ss ++ record { name = name; fails = list; held = None } ∷ [])
push_lists ss name list at =
    let x : ShelfState = record { name = name; fails = list; held = None } in
    lists_by name x ss (ss ++ x ∷ []) (changes_push name x refl ss (at_first ss name at)) list refl (sym (ap held_on (place_nowhere ss name (at_first ss name at))))

-- what is held on the shelf at the place
pub place_held : (ss : List ShelfState) (name : List ℕ) (i : ℕ) (d : ShelfState) → place_of ss name ≡ Some i → held_in ss name ≡ (slice_index_or ss i d).held
place_held ss name i d at = ap held_on (place_shelf ss name i d (at_first ss name at))

-- the place is one of the list
pub place_inside : (ss : List ShelfState) (name : List ℕ) (i : ℕ) → place_of ss name ≡ Some i → i < length ss
place_inside ss name i at = place_within ss name i (at_first ss name at)

-- where there is no shelf, there is no image of any size
pub no_blocks : (ss : List ShelfState) (name : List ℕ) (n : ℕ) → place_of ss name ≡ None → has_blocks n (held_in ss name) ≡ false
no_blocks ss name n at = ap (λ (o : Option ShelfState). has_blocks n (held_on o)) (place_nowhere ss name (at_first ss name at))

-- what is held under a name is what the shelf at its place holds
pub same_blocks : (ss : List ShelfState) (name : List ℕ) (i : ℕ) (d : ShelfState) (n : ℕ) → place_of ss name ≡ Some i → has_blocks n (held_in ss name) ≡ has_blocks n (slice_index_or ss i d).held
same_blocks ss name i d n at = ap (has_blocks n) (place_held ss name i d at)
