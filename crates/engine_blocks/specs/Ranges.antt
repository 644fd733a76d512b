-- How many numbers of a range pass a test.
use Rattle.std.proofs.Common.{◌≡◌, ℕ, zero, suc, ◌+◌, ◌<◌, ◌≤◌, Bool, true, false, not, cond, ◌∷◌, length, filter, refl, ap, ap₂, ◌∙◌, arith, ◌⊎◌, inl, inr}
use Rattle.std.proofs.lemmas.Bool.{cases_Bool}
use Rattle.std.specs.List.{range_with_len}

-- how many of n numbers from a on pass
abbrev pub counted : (ℕ → Bool) → ℕ → ℕ → ℕ
counted p a n = length (filter p (range_with_len a n))

-- two tests that agree keep the same numbers
pub same_from : (p q : ℕ → Bool) (a n : ℕ) → ((b : ℕ) → a ≤ b → b < a + n → p b ≡ q b) → filter p (range_with_len a n) ≡ filter q (range_with_len a n)
same_from p q a zero same = refl
same_from p q a (suc n) same =
    ap₂ (λ x rest. cond x (a ∷ rest) rest) (same a (omega arith) (omega arith)) (same_from p q (a + 1) n (λ b from below. same b (omega (arith, from)) (omega (arith, below))))

-- the first number passes, or not
pub first_passes : (p : ℕ → Bool) (a n : ℕ) → p a ≡ true → counted p a (suc n) ≡ counted p (a + 1) n + 1
first_passes p a n e = ap (λ x. length (cond x (a ∷ filter p (range_with_len (a + 1) n)) (filter p (range_with_len (a + 1) n)))) e ∙ omega arith

pub first_fails : (p : ℕ → Bool) (a n : ℕ) → p a ≡ false → counted p a (suc n) ≡ counted p (a + 1) n
first_fails p a n e = ap (λ x. length (cond x (a ∷ filter p (range_with_len (a + 1) n)) (filter p (range_with_len (a + 1) n)))) e

-- those that pass and those that don't are all numbers
pub parts_from : (p : ℕ → Bool) (a n : ℕ) → counted p a n + counted (λ b. not (p b)) a n ≡ n
parts_from p a zero = refl
parts_from p a (suc n) = by (cases_Bool (p a)) (parts_from p (a + 1) n)
  where
    by : (p a ≡ true) ⊎ (p a ≡ false) → counted p (a + 1) n + counted (λ b. not (p b)) (a + 1) n ≡ n → counted p a (suc n) + counted (λ b. not (p b)) a (suc n) ≡ suc n
    by (inl e) h = omega (arith, first_passes p a n e, first_fails (λ b. not (p b)) a n (ap not e), h)
    by (inr e) h = omega (arith, first_fails p a n e, first_passes (λ b. not (p b)) a n (ap not e), h)

-- a test that passes no number that the other one doesn't passes no more
pub fewer_from : (p q : ℕ → Bool) (a n : ℕ) → ((k : ℕ) → a ≤ k → q k ≡ true → p k ≡ true) → counted q a n ≤ counted p a n
fewer_from p q a zero less = omega arith
fewer_from p q a (suc n) less = by (cases_Bool (q a)) (cases_Bool (p a)) (fewer_from p q (a + 1) n (λ k from. less k (omega (arith, from))))
  where
    by : (q a ≡ true) ⊎ (q a ≡ false) → (p a ≡ true) ⊎ (p a ≡ false) → counted q (a + 1) n ≤ counted p (a + 1) n → counted q a (suc n) ≤ counted p a (suc n)
    by (inl e) k h = omega (arith, first_passes q a n e, first_passes p a n (less a (omega arith) e), h)
    by (inr e) (inl k) h = omega (arith, first_fails q a n e, first_passes p a n k, h)
    by (inr e) (inr k) h = omega (arith, first_fails q a n e, first_fails p a n k, h)
