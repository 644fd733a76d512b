-- What follows from the definitions of fields, as far as the proofs of this crate need it.
use Rattle.std.proofs.Common.{◌≡◌, ℕ, zero, suc, Bool, true, false, ◌++◌, replicate, Option, Some, refl}
use Rattle.layout_bytes.specs.Bytes.{are_zeros, when}

-- what is there under a test passed the test, and is the value under it
pub when_parts : {A : Type 0} (t : Bool) (o : Option A) (y : A) → when t o ≡ Some y → (t ≡ true) × (o ≡ Some y)
when_parts true o y e = (refl, e)
when_parts false o y e = cc

-- a value under a test that holds
pub when_is : {A : Type 0} (t : Bool) (o : Option A) → t ≡ true → when t o ≡ o
when_is true o e = refl
when_is false o e = cc

-- so many zeros are zeros
pub zeros_are : (n : ℕ) → are_zeros (replicate n 0) ≡ true
zeros_are zero = refl
zeros_are (suc n) = zeros_are n
