-- The entries of finite maps, and what holds of each of them.
use Rattle.std.proofs.Common.{◌≡◌, ap, ◌∙◌, refl, Bool, true, false, cond, List, [], ◌∷◌, Some}
use Rattle.std.specs.Prelude.{T, ◌&&◌, ⊤}
use Rattle.std.specs.Ordering.{is_lt, is_eq, eq_by_cmp, ordering_reverse}
use Rattle.std.specs.declared.cmp.Ordering.{Ordering}
use Rattle.std.specs.declared.cmp.Ordering.TheVariants.{Less}
use Rattle.std.specs.Cmp.{IsTotalOrder, tied_itself}
use Rattle.std.specs.FinMap.{FinMap, get, entries, entries_sorted, get-entries, find, is_sorted}
use Rattle.std.specs.FinMap.Entries.{below_all}

-- something holds of each element
abbrev pub Each : {A : Type 0} → (A → Type 0) → List A → Type 0
Each P [] = ⊤
Each P (x ∷ xs) = P x × Each P xs

pub each_of : {A : Type 0} {P Q : A → Type 0} → ((x : A) → P x → Q x) → (xs : List A) → Each P xs → Each Q xs
each_of more [] h = tt
each_of more (x ∷ xs) h = (more x h.0, each_of more xs h.1)

pub each_of_two : {A : Type 0} {P Q S : A → Type 0} → ((x : A) → P x → Q x → S x) → (xs : List A) → Each P xs → Each Q xs → Each S xs
each_of_two more [] h k = tt
each_of_two more (x ∷ xs) h k = (more x h.0 k.0, each_of_two more xs h.1 k.1)

pub first_of : (a b : Bool) → T (a && b) → T a
first_of true b p = tt
first_of false b p = p

pub second_of : (a b : Bool) → T (a && b) → T b
second_of true b p = p
second_of false b p = absurd p

module _ {K : Type 0} {R : K → K → Ordering} (o : IsTotalOrder R) where
  -- a key above another isn't it
  apart : (k q : K) → T (is_lt (R k q)) → eq_by_cmp R q k ≡ false
  apart k q low = ap is_eq (o.antisymm q k) ∙ by (R k q) low
    where
      by : (r : Ordering) → T (is_lt r) → is_eq (ordering_reverse r) ≡ false
      by Less h = refl
      by other h = absurd h

module _ {K X : Type 0} {R : K → K → Ordering} (o : IsTotalOrder R) where
  pub apart_each : (k : K) (es : List (K × X)) → T (below_all R k es) → Each (λ e. eq_by_cmp R e.0 k ≡ false) es
  apart_each k [] h = tt
  apart_each k (e ∷ es) h = (apart o k e.0 (first_of _ _ h), apart_each k es (second_of _ _ h))

  found_each : (es : List (K × X)) → T (is_sorted R es) → Each (λ e. find R e.0 es ≡ Some e.1) es
  found_each [] h = tt
  found_each (e ∷ es) h = (
    ap (λ r. cond (is_eq r) (Some e.1) (find R e.0 es)) (tied_itself o e.0),
    each_of_two (λ f is off. ap (λ b. cond b (Some e.1) (find R f.0 es)) off ∙ is) es (found_each es (second_of _ _ h)) (apart_each e.0 es (first_of _ _ h)),
  )

  -- each entry of a map is what the map has at its key
  pub entry_each : (m : FinMap R X) → Each (λ e. get m e.0 ≡ Some e.1) (entries m)
  entry_each m = each_of (λ e is. get-entries m e.0 ∙ is) (entries m) (found_each (entries m) (entries_sorted m))
