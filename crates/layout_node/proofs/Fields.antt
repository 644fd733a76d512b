-- What follows from the definitions of fields, as far as the proofs of this crate need it.
use Rattle.std.proofs.Common.{◌≡◌, ℕ, zero, suc, ◌<◌, Bool, true, false, List, [], ◌∷◌, ◌++◌, drop, replicate, slice_index, Option, Some, None, refl, ap, ◌∙◌, append_assoc}
use Rattle.layout_bytes.specs.Bytes.{are_zeros, when}

-- what is there under a test passed the test, and is the value under it
pub when_parts : {A : Type 0} (t : Bool) (o : Option A) (y : A) → when t o ≡ Some y → (t ≡ true) × (o ≡ Some y)
when_parts true o y e = (refl, e)
when_parts false o y e = cc

-- a value under a test that fails isn't there, whatever the test before says
pub none_behind : {A : Type 0} (s : Bool) {t : Bool} (x : Option A) → t ≡ false → when s (when t x) ≡ None
none_behind true x p = ap (λ t. when t x) p
none_behind false x p = refl

-- so many zeros are zeros
pub so_many_zeros : (n : ℕ) → are_zeros (replicate n 0) ≡ true
so_many_zeros zero = refl
so_many_zeros (suc n) = so_many_zeros n

-- each is the value of a byte
abbrev pub AreBytes : List ℕ → Type 0
AreBytes xs = (i : ℕ) → slice_index xs i < 256

pub bytes_drop : (n : ℕ) (xs : List ℕ) → AreBytes xs → AreBytes (drop n xs)
bytes_drop zero xs low = low
bytes_drop (suc n) [] low = low
bytes_drop (suc n) (x ∷ xs) low = bytes_drop n xs (λ i. low (suc i))

-- a piece put behind a text, and what comes behind both
pub behind : (t t' p rest : List ℕ) → t' ≡ t ++ p → t' ++ rest ≡ t ++ (p ++ rest)
behind t t' p rest put = ap (λ xs. xs ++ rest) put ∙ append_assoc t p rest
