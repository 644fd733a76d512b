-- Facts of lists that are gone through by an index.
use Rattle.std.proofs.Common.{◌≡◌, ℕ, zero, suc, ◌+◌, ◌<◌, ◌≤◌, List, [], ◌∷◌, ◌++◌, length, take, drop, map, slice_get, slice_index_or, Some, refl, ◌∙◌, ap, sym, arith}
use Rattle.std.proofs.lemmas.Bool.Decides.{nat_tests}
use Rattle.std.proofs.lemmas.Option.{same_Some}

-- what is at an index within a list
pub get_is : {A : Type 0} (xs : List A) (k : ℕ) (d : A) → k < length xs → slice_get xs k ≡ Some (slice_index_or xs k d)
get_is [] k d lt = absurd (omega arith)
get_is (x ∷ xs) zero d lt = refl
get_is (x ∷ xs) (suc k) d lt = get_is xs k d (omega arith)

-- what is in a list that was mapped
pub get_map : {A B : Type 0} (f : A → B) (xs : List A) (k : ℕ) (y : B) → slice_get (map f xs) k ≡ Some y → (x : A) × (slice_get xs k ≡ Some x) × (f x ≡ y)
get_map f [] k y e = cc
get_map f (x ∷ xs) zero y e = (x, refl, same_Some _ _ e)
get_map f (x ∷ xs) (suc k) y e = get_map f xs k y e

pub index_map : {A : Type 0} (f : A → List ℕ) (xs : List A) (k : ℕ) (x : A) → slice_get xs k ≡ Some x → slice_index_or (map f xs) k [] ≡ f x
index_map f [] k x e = cc
index_map f (y ∷ xs) zero x e = ap f (same_Some _ _ e)
index_map f (y ∷ xs) (suc k) x e = index_map f xs k x e

-- a list behind another
pub index_behind : (xs ys : List (List ℕ)) (k : ℕ) → slice_index_or (xs ++ ys) (length xs + k) [] ≡ slice_index_or ys k []
index_behind [] ys k = grind (arith, nat_tests)
index_behind (x ∷ xs) ys k = ap (λ n. slice_index_or (x ∷ (xs ++ ys)) n []) (s (length xs) k) ∙ index_behind xs ys k
  where
    s : (n k : ℕ) → suc n + k ≡ suc (n + k)
    s n k = omega arith

pub index_front : (xs ys : List (List ℕ)) (k : ℕ) → k < length xs → slice_index_or (xs ++ ys) k [] ≡ slice_index_or xs k []
index_front [] ys k lt = absurd (omega arith)
index_front (x ∷ xs) ys zero lt = refl
index_front (x ∷ xs) ys (suc k) lt = index_front xs ys k (omega arith)

-- one element more
pub push : {A : Type 0} (ys : List A) (n : ℕ) (x : A) → slice_get ys n ≡ Some x → take n ys ++ x ∷ [] ≡ take (n + 1) ys
push [] n x e = cc
push (y ∷ ys) zero x e = ap (λ z. z ∷ []) (sym (same_Some _ _ e))
push {A} (y ∷ ys) (suc n) x e = ap (λ (l : List A). y ∷ l) (push ys n x e) ∙ ap (λ m. take m (y ∷ ys)) (s n)
  where
    s : (n : ℕ) → suc (n + 1) ≡ suc n + 1
    s n = omega arith

-- one element more of a list from an index on
pub take_push : {A : Type 0} (xs : List A) (k n : ℕ) (x : A) → slice_get (drop k xs) n ≡ Some x → take n (drop k xs) ++ x ∷ [] ≡ take (n + 1) (drop k xs)
take_push xs k n x e = push (drop k xs) n x e

-- an element behind a front
pub get_drop : {A : Type 0} (n : ℕ) (xs : List A) (k : ℕ) → slice_get (drop n xs) k ≡ slice_get xs (n + k)
get_drop zero xs k = grind (arith, nat_tests)
get_drop (suc n) [] k = refl
get_drop (suc n) (x ∷ xs) k = get_drop n xs k ∙ ap (slice_get (x ∷ xs)) (s n k)
  where
    s : (n k : ℕ) → suc (n + k) ≡ suc n + k
    s n k = omega arith

-- taking more than there is takes all
pub take_enough : {A : Type 0} (xs : List A) (m n : ℕ) → length xs ≤ m → length xs ≤ n → take m xs ≡ take n xs
take_enough [] zero zero p q = refl
take_enough [] zero (suc n) p q = refl
take_enough [] (suc m) zero p q = refl
take_enough [] (suc m) (suc n) p q = refl
take_enough (x ∷ xs) zero n p q = absurd (omega arith)
take_enough (x ∷ xs) (suc m) zero p q = absurd (omega arith)
take_enough {A} (x ∷ xs) (suc m) (suc n) p q = ap (λ (l : List A). x ∷ l) (take_enough xs m n (omega arith) (omega arith))

-- one element more of a list that was mapped
pub push_map : {A B : Type 0} (f : A → B) (xs : List A) (k : ℕ) (x : A) → slice_get xs k ≡ Some x → map f (take k xs) ++ f x ∷ [] ≡ map f (take (k + 1) xs)
push_map f [] k x e = cc
push_map f (y ∷ xs) zero x e = ap (λ z. f z ∷ []) (sym (same_Some _ _ e))
push_map {A} {B} f (y ∷ xs) (suc k) x e = ap (λ (l : List B). f y ∷ l) (push_map f xs k x e) ∙ ap (λ n. map f (take n (y ∷ xs))) (s k)
  where
    s : (k : ℕ) → suc (k + 1) ≡ suc k + 1
    s k = omega arith
