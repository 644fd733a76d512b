-- What lies at and below a path is the path itself, and then what lies at and below each name there, in the names' order.
use Rattle.std.proofs.Common.{◌≡◌, ℕ, Bool, false, true≢false, cond, ◌&&◌, ◌||◌, T, List, [], ◌∷◌, ◌++◌, filter, Option, Some, None, is_some, refl, sym, ap, ap₂, subst, ◌∙◌, ◌⊎◌, inl, inr, append_assoc, append-nil, arith}
use Rattle.std.proofs.lemmas.List.{append_cancel_left}
use Rattle.std.specs.List.{flat_map, list_any}
use Rattle.std.specs.Option.{option_or}
use Rattle.std.specs.Ordering.{eq_by_cmp, is_lt, ordering_then}
use Rattle.std.specs.declared.cmp.Ordering.{Ordering}
use Rattle.std.specs.declared.cmp.Ordering.TheVariants.{Less}
use Rattle.std.specs.Cmp.{tied_itself}
use Rattle.std.specs.FinMap.{get, entries, find, is_sorted, entries_sorted, get-entries}
use Rattle.std.specs.FinMap.Entries.{below_all, find-where_key, is_sorted-where_key, same_entries}
use Rattle.lang_tree.specs.Tree.{Names, path_cmp}
use Rattle.lang_tree.specs.Paths.{strip, is_within}
use Rattle.fs_inodes.proofs.basics.Paths.{Path, which, strip_is, within_at, which_side, away}
use Rattle.fs_inodes.proofs.basics.FinMaps.{path_total, path_same, tied, which_key}
use Rattle.fs_inodes.proofs.lookups.Rows.{name_cmp, name_total, name_same, join_of, both_of}
use Rattle.fs_inodes.proofs.lookups.Ordered.{zeros}

-- Order.

-- a path is before what lies below it
before_below : (p : Path) (b : List ℕ) (r : Path) → path_cmp p (p ++ b ∷ r) ≡ Less
before_below [] b r = refl
before_below (x ∷ p) b r = ap (λ o. ordering_then o (path_cmp p (p ++ b ∷ r))) (tied_itself name_total x) ∙ before_below p b r

-- where the first parts differ, they decide
less_first : (o q : Ordering) → o ≡ Less → ordering_then o q ≡ Less
less_first o q e = ap (λ o. ordering_then o q) e

-- what lies below one name is before what lies below a later one
side_by_side : (p : Path) (b c : List ℕ) (r s : Path) → name_cmp b c ≡ Less → path_cmp (p ++ b ∷ r) (p ++ c ∷ s) ≡ Less
side_by_side [] b c r s e = less_first (name_cmp b c) (path_cmp r s) e
side_by_side (x ∷ p) b c r s e = ap (λ o. ordering_then o (path_cmp (p ++ b ∷ r) (p ++ c ∷ s))) (tied_itself name_total x) ∙ side_by_side p b c r s e

-- less as a test
lt_of : (o : Ordering) → o ≡ Less → T (is_lt o)
lt_of o e = subst (λ o. T (is_lt o)) (sym e) tt

-- and back
less_of : (o : Ordering) → T (is_lt o) → o ≡ Less
less_of o h1 = grind arith

-- what is before two lists is before both in a row
below_both : (x : Path) (xs ys : List (Path × ℕ)) → T (below_all path_cmp x xs) → T (below_all path_cmp x ys) → T (below_all path_cmp x (xs ++ ys))
below_both x [] ys h k = k
below_both x (e ∷ xs) ys h k = join_of _ _ (both_of _ _ h).0 (below_both x xs ys (both_of _ _ h).1 k)

-- The paths at and below one.

-- the paths at and below one
abbrev pub under : Names → Path → List (Path × ℕ)
under names p = filter (λ e. is_within p e.0) (entries names)

-- a path is found among those at and below one exactly where it lies there
found_under : (names : Names) (p q : Path) → find path_cmp q (under names p) ≡ cond (is_within p q) (get names q) None
found_under names p q = find-where_key path_cmp (is_within p) q (λ x t. ap (is_within p) (sym (path_same q x t))) (entries names)
    ∙ ap (λ o. cond (is_within p q) o None) (sym (get-entries names q))

-- a path is found in one list or else in the other
found_both : (q : Path) (xs ys : List (Path × ℕ)) → find path_cmp q (xs ++ ys) ≡ option_or (find path_cmp q xs) (find path_cmp q ys)
found_both q [] ys = refl
found_both q (e ∷ xs) ys = grind (arith, found_both q xs ys, eq_by_cmp path_cmp q e.0)

-- what is found in one of two parts is found where it lies in either
either : (a b : Bool) (o : Option ℕ) → option_or (cond a o None) (cond b o None) ≡ cond (a || b) o None
either a b o = grind arith

module _ (names : Names) (p : Path) where
  -- the parts of the list, one for each of some names
  abbrev parts : List (List ℕ) → List (Path × ℕ)
  parts bs = flat_map (λ b. under names (p ++ b ∷ [])) bs

  -- a path is found in the parts where it lies in one of them
  found_parts : (q : Path) (bs : List (List ℕ)) → find path_cmp q (parts bs) ≡ cond (list_any (λ b. is_within (p ++ b ∷ []) q) bs) (get names q) None
  found_parts q [] = refl
  found_parts q (b ∷ bs) = grind (arith, found_parts q bs, found_both, found_under, either)

  -- what is behind x, where x is before all that lies below a name
  behind_part : (x : Path) (b : List ℕ) → ((r : Path) → path_cmp x (p ++ b ∷ r) ≡ Less) → (es : List (Path × ℕ)) → T (below_all path_cmp x (filter (λ e. is_within (p ++ b ∷ []) e.0) es))
  behind_part x b less [] = tt
  behind_part x b less (e ∷ es) = by (which (strip (p ++ b ∷ []) e.0)) (behind_part x b less es)
    where
      by : (strip (p ++ b ∷ []) e.0 ≡ None) ⊎ ((r : Path) × (strip (p ++ b ∷ []) e.0 ≡ Some r)) → T (below_all path_cmp x (filter (λ e. is_within (p ++ b ∷ []) e.0) es))
          → T (below_all path_cmp x (cond (is_within (p ++ b ∷ []) e.0) (e ∷ filter (λ e. is_within (p ++ b ∷ []) e.0) es) (filter (λ e. is_within (p ++ b ∷ []) e.0) es)))
      by (inl none) rest = subst (λ t. T (below_all path_cmp x (cond t (e ∷ filter (λ e. is_within (p ++ b ∷ []) e.0) es) (filter (λ e. is_within (p ++ b ∷ []) e.0) es)))) (sym (ap is_some none)) rest
      by (inr some) rest =
          let at : e.0 ≡ p ++ b ∷ some.0 = strip_is (p ++ b ∷ []) e.0 some.0 some.1 ∙ append_assoc p (b ∷ []) some.0 in
          subst (λ t. T (below_all path_cmp x (cond t (e ∷ filter (λ e. is_within (p ++ b ∷ []) e.0) es) (filter (λ e. is_within (p ++ b ∷ []) e.0) es)))) (sym (ap is_some some.1))
          (join_of _ _ (lt_of (path_cmp x e.0) (ap (path_cmp x) at ∙ less some.0)) rest)

  -- what lies below later names is behind what lies below this one
  behind_later : (b : List ℕ) (r : Path) (bs : List (List ℕ)) → T (below_all name_cmp b (zeros bs)) → T (below_all path_cmp (p ++ b ∷ r) (parts bs))
  behind_later b r [] h = tt
  behind_later b r (c ∷ bs) h = below_both (p ++ b ∷ r) (under names (p ++ c ∷ [])) (parts bs)
      (behind_part (p ++ b ∷ r) c (λ s. side_by_side p b c r s (less_of (name_cmp b c) (both_of _ _ h).0)) (entries names))
      (behind_later b r bs (both_of _ _ h).1)

  -- and all of it is behind the path itself
  behind_self : (bs : List (List ℕ)) → T (below_all path_cmp p (parts bs))
  behind_self [] = tt
  behind_self (c ∷ bs) = below_both p (under names (p ++ c ∷ [])) (parts bs) (behind_part p c (λ s. before_below p c s) (entries names)) (behind_self bs)

  -- one part and all later ones are in order
  sorted_part : (b : List ℕ) (bs : List (List ℕ)) → T (below_all name_cmp b (zeros bs)) → T (is_sorted path_cmp (parts bs)) → (es : List (Path × ℕ)) → T (is_sorted path_cmp (filter (λ e. is_within (p ++ b ∷ []) e.0) es))
      → T (is_sorted path_cmp (filter (λ e. is_within (p ++ b ∷ []) e.0) es ++ parts bs))
  sorted_part b bs low rest [] h = rest
  sorted_part b bs low rest (e ∷ es) h = by (which (strip (p ++ b ∷ []) e.0)) h (sorted_part b bs low rest es)
    where
      by : (strip (p ++ b ∷ []) e.0 ≡ None) ⊎ ((r : Path) × (strip (p ++ b ∷ []) e.0 ≡ Some r))
          → T (is_sorted path_cmp (cond (is_within (p ++ b ∷ []) e.0) (e ∷ filter (λ e. is_within (p ++ b ∷ []) e.0) es) (filter (λ e. is_within (p ++ b ∷ []) e.0) es)))
          → (T (is_sorted path_cmp (filter (λ e. is_within (p ++ b ∷ []) e.0) es)) → T (is_sorted path_cmp (filter (λ e. is_within (p ++ b ∷ []) e.0) es ++ parts bs)))
          → T (is_sorted path_cmp (cond (is_within (p ++ b ∷ []) e.0) (e ∷ filter (λ e. is_within (p ++ b ∷ []) e.0) es) (filter (λ e. is_within (p ++ b ∷ []) e.0) es) ++ parts bs))
      by (inl none) h go =
          subst (λ t. T (is_sorted path_cmp (cond t (e ∷ filter (λ e. is_within (p ++ b ∷ []) e.0) es) (filter (λ e. is_within (p ++ b ∷ []) e.0) es) ++ parts bs))) (sym (ap is_some none))
          (go (subst (λ t. T (is_sorted path_cmp (cond t (e ∷ filter (λ e. is_within (p ++ b ∷ []) e.0) es) (filter (λ e. is_within (p ++ b ∷ []) e.0) es)))) (ap is_some none) h))
      by (inr some) h go =
          let at : e.0 ≡ p ++ b ∷ some.0 = strip_is (p ++ b ∷ []) e.0 some.0 some.1 ∙ append_assoc p (b ∷ []) some.0 in
          let sorted : T (below_all path_cmp e.0 (filter (λ e. is_within (p ++ b ∷ []) e.0) es) && is_sorted path_cmp (filter (λ e. is_within (p ++ b ∷ []) e.0) es))
          = subst (λ t. T (is_sorted path_cmp (cond t (e ∷ filter (λ e. is_within (p ++ b ∷ []) e.0) es) (filter (λ e. is_within (p ++ b ∷ []) e.0) es)))) (ap is_some some.1) h in
          subst (λ t. T (is_sorted path_cmp (cond t (e ∷ filter (λ e. is_within (p ++ b ∷ []) e.0) es) (filter (λ e. is_within (p ++ b ∷ []) e.0) es) ++ parts bs))) (sym (ap is_some some.1))
          (join_of _ _ (below_both e.0 (filter (λ e. is_within (p ++ b ∷ []) e.0) es) (parts bs) (both_of _ _ sorted).0 (subst (λ x. T (below_all path_cmp x (parts bs))) (sym at) (behind_later b some.0 bs low)))
          (go (both_of _ _ sorted).1))

  -- all parts are in order
  sorted_parts : (bs : List (List ℕ)) → T (is_sorted name_cmp (zeros bs)) → T (is_sorted path_cmp (parts bs))
  sorted_parts [] h = tt
  sorted_parts (b ∷ bs) h =
      sorted_part b bs (both_of _ _ h).0 (sorted_parts bs (both_of _ _ h).1) (entries names)
      (is_sorted-where_key path_cmp (is_within (p ++ b ∷ [])) (entries names) (entries_sorted names))

  -- which of the parts has a path
  one_within : (b c : List ℕ) (r : Path) → is_within (p ++ b ∷ []) (p ++ c ∷ r) ≡ eq_by_cmp name_cmp c b
  one_within b c r = by (which_key name_total name_same c b)
    where
      by : (c ≡ b) ⊎ (eq_by_cmp name_cmp c b ≡ false) → is_within (p ++ b ∷ []) (p ++ c ∷ r) ≡ eq_by_cmp name_cmp c b
      by (inl same) = within_at (p ++ b ∷ []) (p ++ c ∷ r) r (ap (λ x. p ++ x ∷ r) same ∙ sym (append_assoc p (b ∷ []) r)) ∙ sym (tied name_total name_same c b same)
      by (inr off) = away (p ++ b ∷ []) (p ++ c ∷ r) (λ s e. true≢false (sym (tied name_total name_same c b (heads (append_cancel_left p (c ∷ r) (b ∷ s) (e ∙ append_assoc p (b ∷ []) s)))) ∙ off)) ∙ sym off
        where
          heads : {x y : List ℕ} {r s : Path} → x ∷ r ≡ y ∷ s → x ≡ y
          heads e = cc

  -- a path below a name lies in the part of that name
  any_within : (c : List ℕ) (r : Path) (bs : List (List ℕ)) → list_any (λ b. is_within (p ++ b ∷ []) (p ++ c ∷ r)) bs ≡ is_some (find name_cmp c (zeros bs))
  any_within c r [] = refl
  any_within c r (b ∷ bs) = grind (arith, any_within c r bs, eq_by_cmp name_cmp c b, one_within, name_cmp, zeros)

  -- what isn't at or below the path lies in no part
  none_within : (q : Path) (bs : List (List ℕ)) → ((r : Path) → q ≡ p ++ r → ⊥) → list_any (λ b. is_within (p ++ b ∷ []) q) bs ≡ false
  none_within q [] off = refl
  none_within q (b ∷ bs) off = ap₂ ◌||◌ (away (p ++ b ∷ []) q (λ r e. off (b ∷ r) (e ∙ append_assoc p (b ∷ []) r))) (none_within q bs off)

  -- the path leads to k, and its names are these
  module _ (k : ℕ) (at : get names p ≡ Some k) (bs : List (List ℕ)) (rise : T (is_sorted name_cmp (zeros bs)))
      (has_name : (c : List ℕ) → is_some (get names (p ++ c ∷ [])) ≡ is_some (find name_cmp c (zeros bs))) (nowhere_below : (here rest : Path) → get names here ≡ None → get names (here ++ rest) ≡ None) where
    -- each path is found at and below p as it is found in p and the parts
    same_below : (q : Path) → find path_cmp q (under names p) ≡ find path_cmp q ((p, k) ∷ parts bs)
    same_below q = found_under names p q ∙ by (which_side p q) (which_key path_total path_same q p) ∙ ap (cond (eq_by_cmp path_cmp q p) (Some k)) (sym (found_parts q bs))
      where
        at_self : q ≡ p → cond (is_within p q) (get names q) None ≡ cond (eq_by_cmp path_cmp q p) (Some k) (cond (list_any (λ b. is_within (p ++ b ∷ []) q) bs) (get names q) None)
        at_self e = ap (λ t. cond t (get names q) None) (within_at p q [] (e ∙ sym (append-nil p))) ∙ ap (get names) e ∙ at
            ∙ ap (λ t. cond t (Some k) (cond (list_any (λ b. is_within (p ++ b ∷ []) q) bs) (get names q) None)) (sym (tied path_total path_same q p e))

        in_part : (c : List ℕ) (r : Path) → q ≡ p ++ c ∷ r → get names q ≡ cond (list_any (λ b. is_within (p ++ b ∷ []) q) bs) (get names q) None
        in_part c r e = sym (ap (λ t. cond t (get names q) None) (ap (λ q. list_any (λ b. is_within (p ++ b ∷ []) q) bs) e ∙ any_within c r bs ∙ sym (has_name c))
            ∙ choose (which (get names (p ++ c ∷ []))))
          where
            choose : (get names (p ++ c ∷ []) ≡ None) ⊎ ((n : ℕ) × (get names (p ++ c ∷ []) ≡ Some n)) → cond (is_some (get names (p ++ c ∷ []))) (get names q) None ≡ get names q
            choose (inl none) = ap (λ o. cond (is_some o) (get names q) None) none
                ∙ sym (ap (get names) (e ∙ sym (append_assoc p (c ∷ []) r)) ∙ nowhere_below (p ++ c ∷ []) r none)
            choose (inr some) = ap (λ o. cond (is_some o) (get names q) None) some.1

        below_self : (r : Path) → q ≡ p ++ r → eq_by_cmp path_cmp q p ≡ false → cond (is_within p q) (get names q) None ≡ cond (eq_by_cmp path_cmp q p) (Some k) (cond (list_any (λ b. is_within (p ++ b ∷ []) q) bs) (get names q) None)
        below_self [] e off = absurd (true≢false (sym (tied path_total path_same q p (e ∙ append-nil p)) ∙ off))
        below_self (c ∷ r) e off = ap (λ t. cond t (get names q) None) (within_at p q (c ∷ r) e) ∙ in_part c r e
            ∙ ap (λ t. cond t (Some k) (cond (list_any (λ b. is_within (p ++ b ∷ []) q) bs) (get names q) None)) (sym off)

        by : ((r : Path) × (q ≡ p ++ r)) ⊎ ((r : Path) → q ≡ p ++ r → ⊥) → (q ≡ p) ⊎ (eq_by_cmp path_cmp q p ≡ false)
            → cond (is_within p q) (get names q) None ≡ cond (eq_by_cmp path_cmp q p) (Some k) (cond (list_any (λ b. is_within (p ++ b ∷ []) q) bs) (get names q) None)
        by h1 h2 = grind (arith, at_self, below_self, away, none_within)

    -- the paths at and below p are p and those of its names, in the names' order
    pub goes_down : under names p ≡ (p, k) ∷ parts bs
    goes_down = same_entries path_cmp path_total path_same (under names p) ((p, k) ∷ parts bs)
        (is_sorted-where_key path_cmp (is_within p) (entries names) (entries_sorted names))
        (join_of _ _ (behind_self bs) (sorted_parts bs rise)) same_below

-- at and below the root are all paths
all_within : (es : List (Path × ℕ)) → filter (λ e. is_within [] e.0) es ≡ es
all_within [] = refl
all_within (e ∷ es) = ap (λ l. e ∷ l) (all_within es)

-- so the whole list is the one at and below the root
pub from_root : (names : Names) → under names [] ≡ entries names
from_root names = all_within (entries names)
