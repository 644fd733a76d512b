-- Tests and choices.
use Rattle.std.proofs.Common.{◌≡◌, ℕ, ◌==◌, Bool, true, ◌&&◌, cond, arith}
use Rattle.std.proofs.lemmas.Bool.{and_parts}
use Rattle.std.proofs.lemmas.Bool.Decides.{nat_tests}

pub eqb_sym : (a b : ℕ) → (a == b) ≡ (b == a)
eqb_sym a b = grind (arith, nat_tests)

-- two tests that don't both pass may change places
pub swap_tests : {A : Type 0} (u v : Bool) (x y z : A) → (u ≡ true → v ≡ true → ⊥) → cond u x (cond v y z) ≡ cond v y (cond u x z)
swap_tests u v x y z apart = grind (arith, apart)

-- a test that fails where another one fails decides nothing behind it
pub drop_test : {A : Type 0} (u v : Bool) (x y z : A) → (v ≡ true → u ≡ true) → cond u x z ≡ cond u x (cond v y z)
drop_test u v x y z implied = grind (arith, implied)

pub and_first : (a b : Bool) → (a && b) ≡ true → a ≡ true
and_first a b e = (and_parts a b e).0

pub and_last : (a b : Bool) → (a && b) ≡ true → b ≡ true
and_last a b e = (and_parts a b e).1
