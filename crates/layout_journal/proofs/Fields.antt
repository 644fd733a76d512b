-- What follows from the definitions of fields, as far as the proofs of this crate need it.
use Rattle.std.proofs.Common.{◌≡◌, ℕ, zero, suc, ◌<◌, Bool, true, false, List, [], ◌∷◌, ◌++◌, take, drop, replicate, slice_index, Option, Some, None, refl, ap, ◌∙◌, arith, append_assoc}
use Rattle.layout_bytes.specs.Bytes.{are_zeros, when}

-- where a test holds, the value is there
pub when_is : {A : Type 0} (t : Bool) (o : Option A) → t ≡ true → when t o ≡ o
when_is true o e = refl
when_is false o e = cc

-- what is there under a test passed the test
pub when_some : {A : Type 0} (t : Bool) (o : Option A) (y : A) → when t o ≡ Some y → t ≡ true
when_some true o y e = refl
when_some false o y e = cc

-- and is the value under it
pub when_inner : {A : Type 0} (t : Bool) (o : Option A) (y : A) → when t o ≡ Some y → o ≡ Some y
when_inner true o y e = e
when_inner false o y e = cc

-- a value under a test that fails isn't there, whatever the test before says
pub none_behind : {A : Type 0} (s : Bool) {t : Bool} (x : Option A) → t ≡ false → when s (when t x) ≡ None
none_behind true x p = ap (λ t. when t x) p
none_behind false x p = refl

-- the first of them are zeros, whatever comes behind
pub zeros_first : (n : ℕ) (rest : List ℕ) → are_zeros (take n (replicate n 0 ++ rest)) ≡ true
zeros_first zero rest = refl
zeros_first (suc n) rest = zeros_first n rest

-- a piece put behind a text, and what comes behind both
pub behind : (t t' p rest : List ℕ) → t' ≡ t ++ p → t' ++ rest ≡ t ++ (p ++ rest)
behind t t' p rest put = ap (λ xs. xs ++ rest) put ∙ append_assoc t p rest

-- each is the value of a byte
abbrev pub AreBytes : List ℕ → Type 0
AreBytes xs = (i : ℕ) → slice_index xs i < 256

pub bytes_drop : (n : ℕ) (xs : List ℕ) → AreBytes xs → AreBytes (drop n xs)
bytes_drop zero xs low = low
bytes_drop (suc n) [] low = low
bytes_drop (suc n) (x ∷ xs) low = bytes_drop n xs (λ i. low (suc i))

pub bytes_take : (n : ℕ) (xs : List ℕ) → AreBytes xs → AreBytes (take n xs)
bytes_take zero xs low = λ i. omega arith
bytes_take (suc n) [] low = low
bytes_take (suc n) (x ∷ xs) low = by (bytes_take n xs (λ k. low (suc k)))
  where
    by : AreBytes (take n xs) → AreBytes (x ∷ take n xs)
    by rest zero = low zero
    by rest (suc i) = rest i
