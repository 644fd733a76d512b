-- Names of segments: ten digits are those of one number.
use Rattle.std.proofs.Common.{◌≡◌, ℕ, zero, suc, ◌+◌, ◌-◌, ◌*◌, ◌/◌, ◌%◌, ◌^◌, ◌<◌, ◌≤◌, ◌&&◌, ◌||◌, List, [], ◌∷◌, ◌++◌, length, drop, get_or, drop-cons, refl, sym, ap, ◌∙◌, ◌⊎◌, arith}
use Rattle.std.proofs.Math.Nat.{pow-suc}
use Rattle.lang_log.specs.Names.{digits, segment_name, number_in}

number_of_append : (xs : List ℕ) (x n : ℕ) → number_in n (xs ++ x ∷ []) ≡ 10 * number_in n xs + (x - 48)
number_of_append [] x n = refl
number_of_append (y ∷ xs) x n = number_of_append xs x (10 * n + (y - 48))

reads : (k n : ℕ) → n < 10 ^ k → number_in 0 (digits k n) ≡ n
reads zero n h = omega (arith, h)
reads (suc k) n h = number_of_append (digits k (n / 10)) (48 + n % 10) 0 ∙ ap (λ m. 10 * m + (48 + n % 10 - 48)) (reads k (n / 10) (omega (arith, h, pow-suc 10 k))) ∙ omega arith

-- the number is in its name
pub number_of_name : (n : ℕ) → n < 10000000000 → number_in 0 (segment_name n) ≡ n
number_of_name n h = reads 10 n h

pub same_number : (m n : ℕ) → m < 10000000000 → n < 10000000000 → segment_name m ≡ segment_name n → m ≡ n
same_number m n a b e = sym (number_of_name m a) ∙ ap (number_in 0) e ∙ number_of_name n b

pub names_tell : (n m : ℕ) → n < 2 ^ 32 → m < 2 ^ 32 → segment_name n ≡ segment_name m → n ≡ m
names_tell n m a b e = same_number n m (omega (arith, a)) (omega (arith, b)) e

-- A number never falls as digits come.

grows : (n : ℕ) (xs : List ℕ) → n ≤ number_in n xs
grows n [] = omega arith
grows n (x ∷ xs) = omega (arith, grows (10 * n + (x - 48)) xs)

pub too_great : (bytes : List ℕ) (n i d : ℕ) → i < length bytes → number_in 0 bytes ≡ number_in n (drop i bytes)
    → 4294967296 ≤ 10 * n + (get_or bytes i d - 48) → number_in 0 bytes < 4294967296 → ⊥
too_great bytes n i d within is great low =
    let one = drop-cons bytes i d within in
    omega (arith, low, great, is, ap (number_in n) one, grows (10 * n + (get_or bytes i d - 48)) (drop (suc i) bytes))
