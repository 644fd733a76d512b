-- What a test keeps of a range of numbers.
use Rattle.std.proofs.Common.{◌≡◌, ◌≢◌, ℕ, zero, suc, ◌+◌, ◌<◌, ◌≤◌, ◌==◌, ◌&&◌, Bool, true, false, cond, ◌⊎◌, inl, inr, List, [], ◌∷◌, ◌++◌, length, filter, refl, sym, ap, ap₂, ◌∙◌, arith}
use Rattle.std.proofs.lemmas.Bool.{cases_eq, eqb-true}
use Rattle.std.proofs.lemmas.List.Elements.{filter-append}
use Rattle.std.specs.List.{range_with_len}
use Rattle.std.proofs.lemmas.Map.Views.{any-filter_same}
use Rattle.std.proofs.lemmas.Bool.Decides.{nat_tests}
use Rattle.engine_reuse.specs.Numbers.{is_among}

-- a number passes the filter where it is there and passes the test
pub among-filter : (p : ℕ → Bool) (b : ℕ) (xs : List ℕ) → is_among b (filter p xs) ≡ (p b && is_among b xs)
among-filter p b xs = any-filter_same (λ x. x == b) p (p b) (λ k e. ap p (eqb-true k b e)) xs

-- a number is in a range, or it isn't
pub among_inside : (b a n : ℕ) → a ≤ b → b < a + n → is_among b (range_with_len a n) ≡ true
among_inside b a zero low high = absurd (omega (arith, low, high))
among_inside b a (suc n) low high = grind (arith, nat_tests, low, high, among_inside b (a + 1) n)

pub among_outside : (b a n : ℕ) → (b < a) ⊎ (a + n ≤ b) → is_among b (range_with_len a n) ≡ false
among_outside b a zero out = refl
among_outside b a (suc n) out = grind (arith, nat_tests, out, among_outside b (a + 1) n)

-- two tests that agree on a range keep the same of it
pub same_from : (p q : ℕ → Bool) (a n : ℕ) → ((b : ℕ) → a ≤ b → b < a + n → p b ≡ q b) → filter p (range_with_len a n) ≡ filter q (range_with_len a n)
same_from p q a zero same = refl
same_from p q a (suc n) same =
    ap₂ (λ x rest. cond x (a ∷ rest) rest) (same a (omega arith) (omega arith)) (same_from p q (a + 1) n (λ b from below. same b (omega (arith, from)) (omega (arith, below))))

-- nothing is kept where nothing passes
pub none_from : (p : ℕ → Bool) (a n : ℕ) → ((b : ℕ) → a ≤ b → b < a + n → p b ≡ false) → filter p (range_with_len a n) ≡ []
none_from p a zero fails = refl
none_from p a (suc n) fails = grind (arith, fails a, none_from p (a + 1) n (λ b from below. fails b (omega (arith, from)) (omega (arith, below))))

-- what is kept of a range is what is kept of its two parts
range_split : (a m k : ℕ) → range_with_len a (m + k) ≡ range_with_len a m ++ range_with_len (a + m) k
range_split a zero k = ap₂ range_with_len {x = a} {y = a + 0} {u = 0 + k} {v = k} (omega arith) (omega arith)
range_split a (suc m) k =
    ap (range_with_len a) {x = suc m + k} {y = suc (m + k)} (omega arith)
    ∙ ap (λ rest. a ∷ rest) (range_split (a + 1) m k)
    ∙ ap (λ s. a ∷ (range_with_len (a + 1) m ++ range_with_len s k)) {x = a + 1 + m} {y = a + suc m} (omega arith)

pub kept_split : (p : ℕ → Bool) (a m k : ℕ) → filter p (range_with_len a (m + k)) ≡ filter p (range_with_len a m) ++ filter p (range_with_len (a + m) k)
kept_split p a m k = ap (filter p) (range_split a m k) ∙ filter-append p (range_with_len a m) (range_with_len (a + m) k)

-- the tests differ at one number, which only the first of them keeps: it keeps one more
pub one_more : (p q : ℕ → Bool) (b a n : ℕ) → a ≤ b → b < a + n → p b ≡ true → q b ≡ false → ((k : ℕ) → k ≢ b → q k ≡ p k)
    → length (filter p (range_with_len a n)) ≡ length (filter q (range_with_len a n)) + 1
one_more p q b a zero low high has hasnt same = absurd (omega (arith, low, high))
one_more p q b a (suc n) low high has hasnt same = elim (cases_eq a b) [
  | inl e ↦ grind (arith, e, has, hasnt, same_from p q (a + 1) n (λ k from below. sym (same k (λ is. omega (arith, is, from, e)))))
  | inr d ↦ grind (arith, same a d, one_more p q b (a + 1) n (omega (arith, low, d)) (omega (arith, high)) has hasnt same)
]
