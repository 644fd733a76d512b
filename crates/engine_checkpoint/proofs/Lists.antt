-- Lists and choices: one more at the end, two behind one another, a front dropped.
use Rattle.std.proofs.Common.{◌≡◌, ◌⊎◌, inl, inr, ⊎_elim, ℕ, zero, suc, ◌+◌, ◌<◌, List, [], ◌∷◌, ◌++◌, length, drop, map, slice_get, Some, refl, ◌∙◌, ap, arith}
use Rattle.std.proofs.lemmas.Bool.Decides.{nat_tests}
use Rattle.std.proofs.lemmas.List.{drop_all}
use Rattle.std.proofs.lemmas.Option.{same_Some, none-some}

pub below_none : (k : ℕ) → k < 0 → ⊥
below_none k lt = omega (arith, lt)

-- a list of no length is empty
pub nothing_in : {A : Type 0} → (xs : List A) → length xs ≡ 0 → xs ≡ []
nothing_in xs none = drop_all 0 xs (omega (arith, none))

pub map_push : {A B : Type 0} (f : A → B) (xs : List A) (y : A) → map f (xs ++ y ∷ []) ≡ map f xs ++ f y ∷ []
map_push f [] y = refl
map_push f (x ∷ xs) y = ap (λ zs. f x ∷ zs) (map_push f xs y)

-- a place in a list that grew by one
pub last_or : {A : Type 0} (xs : List A) (y : A) (k : ℕ) (z : A) → slice_get (xs ++ y ∷ []) k ≡ Some z → (slice_get xs k ≡ Some z) ⊎ ((k ≡ length xs) × (y ≡ z))
last_or [] y zero z is = inr (refl, same_Some _ _ is)
last_or [] y (suc k) z is = absurd (none-some z is)
last_or (v ∷ xs) y zero z is = inl is
last_or (v ∷ xs) y (suc k) z is = ⊎_elim inl (λ e. inr (omega (arith, e.0), e.1)) (last_or xs y k z is)

pub get_old : {A : Type 0} (xs ys : List A) (k : ℕ) (x : A) → slice_get xs k ≡ Some x → slice_get (xs ++ ys) k ≡ Some x
get_old [] ys k x e = cc
get_old (y ∷ xs) ys zero x e = e
get_old (y ∷ xs) ys (suc k) x e = get_old xs ys k x e

-- what is in two lists, one behind the other
pub either : {A : Type 0} (xs ys : List A) (k : ℕ) (z : A) → slice_get (xs ++ ys) k ≡ Some z → (slice_get xs k ≡ Some z) ⊎ ((i : ℕ) × (k ≡ length xs + i) × (slice_get ys i ≡ Some z))
either [] ys k z is = inr (k, omega arith, is)
either (x ∷ xs) ys zero z is = inl is
either (x ∷ xs) ys (suc k) z is = ⊎_elim inl (λ r. inr (r.0, omega (arith, r.1), r.2)) (either xs ys k z is)

pub get_drop : {A : Type 0} (n : ℕ) (xs : List A) (k : ℕ) → slice_get (drop n xs) k ≡ slice_get xs (n + k)
get_drop zero xs k = grind (arith, nat_tests)
get_drop (suc n) [] k = refl
get_drop (suc n) (x ∷ xs) k = get_drop n xs k ∙ ap (slice_get (x ∷ xs)) (s n k)
  where
    s : (n k : ℕ) → suc (n + k) ≡ suc n + k
    s n k = omega arith
