-- Lists of numbers: which are among them.
use Rattle.std.proofs.Common.{◌≡◌, ◌≢◌, ℕ, zero, suc, ◌+◌, ◌<◌, ◌≤◌, ◌==◌, true, false, ◌||◌, List, [], ◌∷◌, ◌++◌, length, get_or, take, All, AllPairs, refl, sym, ap, ap₂, ◌∙◌, arith, inl, inr}
use Rattle.std.proofs.lemmas.Bool.{cases_Bool, eqb-true, eq-eqb, false≢true, or_right}
use Rattle.std.proofs.lemmas.Bool.Decides.{nat_tests}
use Rattle.layout_geometry.specs.Geometry.{Geometry}
use Rattle.crash_argument.specs.HomeTest.{is_one_of}
use Rattle.engine_running.specs.Running.{with_number}
use Rattle.engine_reuse.specs.Numbers.{is_among}
use Rattle.engine_blocks.specs.Running.{has, has_bit, bit_block}
use Rattle.engine_books.proofs.Tests.{eqb_sym}

-- one word for another
pub one_is_any : (b : ℕ) (xs : List ℕ) → is_one_of b xs ≡ is_among b xs
one_is_any b [] = refl
one_is_any b (x ∷ xs) = grind (arith, one_is_any b xs)

pub any_is_has : (b : ℕ) (xs : List ℕ) → is_among b xs ≡ has xs b
any_is_has b [] = refl
any_is_has b (x ∷ xs) = ap₂ (λ u v. u || v) (eqb_sym x b) (any_is_has b xs)

pub has_push : (xs : List ℕ) (b c : ℕ) → has (xs ++ b ∷ []) c ≡ (has xs c || (c == b))
has_push [] b c = grind arith
has_push (x ∷ xs) b c = grind (arith, has_push xs b c)

pub has_bit_push : (g : Geometry) (xs : List ℕ) (b c : ℕ) → has_bit g (xs ++ b ∷ []) c ≡ (has_bit g xs c || (c == bit_block g b))
has_bit_push g [] b c = grind arith
has_bit_push g (x ∷ xs) b c = grind (arith, has_bit_push g xs b c)

-- what holds of all numbers of a list holds of each that it has
pub among : (P : ℕ → Type 0) (bs : List ℕ) → All P bs → (c : ℕ) → has bs c ≡ true → P c
among P [] all c is = grind arith
among P (x ∷ xs) all c is = grind (arith, nat_tests, all 0 0, among P xs (λ i d low. all (suc i) d (omega (arith, low))) c)

-- the block of the bitmap that has a bit has that of some number
pub bit_of_one : (g : Geometry) (bs : List ℕ) (c : ℕ) → has_bit g bs c ≡ true → (x : ℕ) × (has bs x ≡ true) × (c ≡ bit_block g x)
bit_of_one g [] c is = absurd (false≢true is)
bit_of_one g (x ∷ xs) c is = elim (cases_Bool (c == bit_block g x)) [
  | inl e ↦ (x, ap (λ t. t || has xs x) (eq-eqb x x refl), eqb-true c (bit_block g x) e)
  | inr f ↦ (let r = bit_of_one g xs c (sym (ap (λ t. t || has_bit g xs c) f) ∙ is) in (r.0, or_right (r.0 == x) (has xs r.0) r.1, r.2))
]

-- with one number more
pub one_with : (n : ℕ) (ns : List ℕ) (c : ℕ) → is_one_of c (with_number n ns) ≡ ((c == n) || is_one_of c ns)
one_with n [] c = grind (arith, nat_tests)
one_with n (m ∷ ms) c = grind (arith, nat_tests, one_with n ms c)

pub with_one_more : (n : ℕ) (ns : List ℕ) → length (with_number n ns) ≤ length ns + 1
with_one_more n [] = omega arith
with_one_more n (m ∷ ms) = grind (arith, with_one_more n ms)

-- where no two are the same, a number isn't among those before it
pub not_before : (xs : List ℕ) (i d : ℕ) → i < length xs → AllPairs (λ a b. a ≢ b) xs → has (take i xs) (get_or xs i d) ≡ false
not_before [] i d low pairs = absurd (omega (arith, low))
not_before (x ∷ xs) zero d low pairs = refl
not_before (x ∷ xs) (suc i) d low pairs = grind (arith, nat_tests, pairs 0 (suc i) d, low, not_before xs i d (omega (arith, low)) (λ j k e a b. pairs (suc j) (suc k) e (omega (arith, a)) (omega (arith, b))))
