-- At which place of those that are made a path stands: each one but the root at one place.
use Rattle.std.proofs.Common.{◌≡◌, ◌≢◌, ◌⊎◌, inl, inr, ℕ, zero, suc, List, [], ◌∷◌, ◌++◌, slice_get, Option, Some, None, refl, sym, ap, subst}
use Rattle.std.proofs.lemmas.Option.{same_Some, none-some}
use Rattle.std.specs.FinMap.{get}
use Rattle.lang_tree.specs.Tree.{IsSound, Names, Tree}
use Rattle.lang_making.specs.Making.{paths_made}
use Rattle.lang_making.proofs.Lists.{In, in_left, in_middle}
use Rattle.lang_making.proofs.Order.{Ordered, all_made, in_order}

place_in : {A : Type 0} (xs : List A) (x : A) → In xs x → (i : ℕ) × (slice_get xs i ≡ Some x)
place_in [] x e = absurd e
place_in (y ∷ xs) x (inl e) = (0, ap Some (sym e))
place_in (y ∷ xs) x (inr e) = let r = place_in xs x e in (suc r.0, r.1)

-- what is in front doesn't come again
comes_once : (names : Names) (before xs : List (List (List ℕ))) → Ordered names before xs → (p : List (List ℕ)) → In before p → (i : ℕ) → slice_get xs i ≡ Some p → ⊥
comes_once names before [] o p e i at = none-some p at
comes_once names before (x ∷ xs) o p e zero at = o.0.fresh (subst (In before) (sym (same_Some x p at)) e)
comes_once names before (x ∷ xs) o p e (suc i) at = comes_once names (before ++ x ∷ []) xs o.1 p (in_left before (x ∷ []) p e) i at

one_place : (names : Names) (before xs : List (List (List ℕ))) → Ordered names before xs → (p : List (List ℕ)) (i j : ℕ) → slice_get xs i ≡ Some p → slice_get xs j ≡ Some p → i ≡ j
one_place names before [] o p i j a b = absurd (none-some p a)
one_place names before (x ∷ xs) o p zero zero a b = refl
one_place names before (x ∷ xs) o p zero (suc j) a b =
    absurd (comes_once names (before ++ x ∷ []) xs o.1 p (subst (In (before ++ x ∷ [])) (same_Some x p a) (in_middle before [] x)) j b)
one_place names before (x ∷ xs) o p (suc i) zero a b =
    absurd (comes_once names (before ++ x ∷ []) xs o.1 p (subst (In (before ++ x ∷ [])) (same_Some x p b) (in_middle before [] x)) i a)
one_place names before (x ∷ xs) o p (suc i) (suc j) a b = ap suc (one_place names (before ++ x ∷ []) xs o.1 p i j a b)

pub stands_once : (limit : ℕ) (t : Tree) → IsSound limit t → (p : List (List ℕ)) (i j : ℕ) → slice_get (paths_made t.names) i ≡ Some p → slice_get (paths_made t.names) j ≡ Some p → i ≡ j
stands_once limit t ok p i j a b = one_place t.names ([] ∷ []) (paths_made t.names) (in_order limit t ok) p i j a b

pub is_made : (limit : ℕ) (t : Tree) → IsSound limit t → (p : List (List ℕ)) (n : ℕ) → get t.names p ≡ Some n → p ≢ [] → (i : ℕ) × (slice_get (paths_made t.names) i ≡ Some p)
is_made limit t ok p n at apart = by (all_made limit t ok p n at)
  where
    by : (p ≡ []) ⊎ In (paths_made t.names) p → (i : ℕ) × (slice_get (paths_made t.names) i ≡ Some p)
    by (inl root) = absurd (apart root)
    by (inr there) = place_in (paths_made t.names) p there
