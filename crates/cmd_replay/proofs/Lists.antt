-- What stands where in lists.
use Rattle.std.proofs.Common.{◌≡◌, ℕ, zero, suc, ◌+◌, ◌<◌, List, [], ◌∷◌, ◌++◌, length, take, drop, slice_get, get_or, drop-cons, Some, refl, sym, ◌∙◌, ap, arith}
use Rattle.std.proofs.lemmas.Option.{same_Some}

-- what stands in a list stands in a longer one
pub get_before : {A : Type 0} (xs ys : List A) (i : ℕ) (x : A) → slice_get xs i ≡ Some x → slice_get (xs ++ ys) i ≡ Some x
get_before [] ys i x is = cc
get_before (y ∷ xs) ys zero x is = is
get_before (y ∷ xs) ys (suc i) x is = get_before xs ys i x is

-- and what stands in the longer one before the end of the list stands in that
pub get_front : {A : Type 0} (xs ys : List A) (i : ℕ) (x : A) → i < length xs → slice_get (xs ++ ys) i ≡ Some x → slice_get xs i ≡ Some x
get_front [] ys i x low is = absurd (omega (arith, low))
get_front (y ∷ xs) ys zero x low is = is
get_front (y ∷ xs) ys (suc i) x low is = get_front xs ys i x (omega (arith, low)) is

-- what stands among the first of a list stands in it
pub get_of_take : {A : Type 0} (n : ℕ) (xs : List A) (i : ℕ) (x : A) → slice_get (take n xs) i ≡ Some x → slice_get xs i ≡ Some x
get_of_take (suc n) (y ∷ xs) zero x is = is
get_of_take (suc n) (y ∷ xs) (suc i) x is = get_of_take n xs i x is
get_of_take other xs i x is = cc is

-- lists behind lists of one length
pub same_behind : (xs ys zs ws : List ℕ) → length xs ≡ length ys → xs ++ zs ≡ ys ++ ws → (xs ≡ ys) × (zs ≡ ws)
same_behind [] [] zs ws e is = (refl, is)
same_behind (x ∷ xs) (y ∷ ys) zs ws e is =
    let rest = same_behind xs ys zs ws (omega (arith, e)) (ap (drop 1) is) in
    let first : x ≡ y = same_Some x y (ap (λ (l : List ℕ). slice_get l 0) is) in
    (rw first (ap (λ (l : List ℕ). y ∷ l) rest.0), rest.1)
same_behind other rest zs ws e is = absurd (omega (arith, e))

-- what is left from a place on begins with what stands there
pub left_from : {A : Type 0} (xs : List A) (i : ℕ) (x : A) → i < length xs → x ≡ get_or xs i x → drop i xs ≡ x ∷ drop (i + 1) xs
left_from {A} xs i x low is =
    let next : suc i ≡ i + 1 = omega arith in
    drop-cons xs i x low ∙ ap (λ (j : ℕ). get_or xs i x ∷ drop j xs) next ∙ ap (λ (y : A). y ∷ drop (i + 1) xs) (sym is)

pub number_from : (xs : List ℕ) (i : ℕ) → i < length xs → drop i xs ≡ get_or xs i 0 ∷ drop (i + 1) xs
number_from xs i low =
    let next : suc i ≡ i + 1 = omega arith in
    drop-cons xs i 0 low ∙ ap (λ (j : ℕ). get_or xs i 0 ∷ drop j xs) next

pub some_left : {A : Type 0} (xs : List A) (i : ℕ) → i < length xs → (x : A) × (drop i xs ≡ x ∷ drop (i + 1) xs)
some_left [] i low = absurd (omega (arith, low))
some_left (y ∷ xs) i low =
    let next : suc i ≡ i + 1 = omega arith in
    (get_or (y ∷ xs) i y, drop-cons (y ∷ xs) i y low ∙ ap (λ (j : ℕ). get_or (y ∷ xs) i y ∷ drop j (y ∷ xs)) next)
