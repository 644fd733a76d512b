-- How many numbers of a range pass a test that changes at one number, or that a row or a list decides.
use Rattle.std.proofs.Common.{◌≡◌, ◌≢◌, ℕ, zero, suc, ◌+◌, ◌<◌, ◌≤◌, ◌==◌, Bool, true, false, cond, List, [], ◌∷◌, length, Some, is_some, refl, sym, ap, ◌∙◌, arith, inl, inr}
use Rattle.std.proofs.lemmas.Bool.Decides.{nat_tests}
use Rattle.std.proofs.lemmas.Bool.{cases_eq, cond-true, cond-false, eq-eqb, ne_eqb}
use Rattle.crash_argument.specs.HomeTest.{is_one_of}
use Rattle.engine_running.specs.declared.put.Put.{Put}
use Rattle.engine_running.specs.Rows.{IsRising, put_of}
use Rattle.engine_blocks.specs.Ranges.{counted, first_passes, first_fails, same_from, parts_from}
use Rattle.engine_books.specs.Books.{has_put}
use Rattle.engine_books.proofs.Rows.{none_put, rising_tail, rising_head}

-- of n numbers no more than n pass
pub few_from : (p : ℕ → Bool) (a n : ℕ) → counted p a n ≤ n
few_from p a n = omega (arith, parts_from p a n)

-- tests that agree pass as many
pub as_many : (p q : ℕ → Bool) (a n : ℕ) → ((b : ℕ) → a ≤ b → b < a + n → p b ≡ q b) → counted p a n ≡ counted q a n
as_many p q a n same = ap length (same_from p q a n same)

-- one number passes no more
pub one_less : (p q : ℕ → Bool) (x a n : ℕ) → a ≤ x → x < a + n → p x ≡ true → q x ≡ false → ((k : ℕ) → a ≤ k → k < a + n → k ≢ x → q k ≡ p k) → counted q a n + 1 ≡ counted p a n
one_less p q x a zero low high is not_now others = absurd (omega (arith, low, high))
one_less p q x a (suc n) low high is not_now others = elim (cases_eq a x) [
  | inl e ↦ omega (arith, first_passes p a n (ap p e ∙ is), first_fails q a n (ap q e ∙ not_now), as_many q p (a + 1) n (λ b from below. others b (omega (arith, from)) (omega (arith, below)) (λ h. omega (arith, h, e, from))))
  | inr d ↦ grind (
    arith,
    first_passes p a n,
    first_passes q a n,
    first_fails p a n,
    first_fails q a n,
    others a (omega arith) (omega arith) d,
    one_less p q x (a + 1) n (omega (arith, low, d)) (omega (arith, high)) is not_now (λ k from below. others k (omega (arith, from)) (omega (arith, below))),
  )
]

-- a test that fails passes none
none_pass : (a n : ℕ) → counted (λ b. false) a n ≡ 0
none_pass a zero = refl
none_pass a (suc n) = none_pass (a + 1) n

-- the number of blocks that ascending puts are of
pub row_counted : (row : List Put) (n : ℕ) → IsRising row → ((b : ℕ) → has_put b row ≡ true → b < n) → counted (λ b. has_put b row) 0 n ≡ length row
row_counted [] n rising below = none_pass 0 n
row_counted (q ∷ qs) n rising below =
    omega (
      arith,
      one_less (λ b. has_put b (q ∷ qs)) (λ b. has_put b qs) q.block 0 n (omega arith) (omega (arith, below q.block here)) here
          (ap is_some (none_put q.block qs (λ k p is e. omega (arith, rising_head q qs rising k p is, e))))
          (λ k from upto d. sym (ap is_some (cond-false (q.block == k) (Some q.bytes) (put_of k qs) (ne_eqb q.block k (λ e. d (sym e)))))),
      row_counted qs n (rising_tail q qs rising) (λ b is. below b (grind (arith, is))),
    )
  where
    here : has_put q.block (q ∷ qs) ≡ true
    here = ap is_some (cond-true (q.block == q.block) (Some q.bytes) (put_of q.block qs) (eq-eqb q.block q.block refl))

-- a list has no more numbers than places
pub list_counted : (ns : List ℕ) (a n : ℕ) → counted (λ b. is_one_of b ns) a n ≤ length ns
list_counted [] a n = omega (arith, none_pass a n)
list_counted (m ∷ ms) a n = omega (arith, one_more (λ b. is_one_of b ms) m a n, list_counted ms a n)
  where
    one_more : (p : ℕ → Bool) (m a n : ℕ) → counted (λ b. cond (m == b) true (p b)) a n ≤ counted p a n + 1
    one_more p m a zero = omega arith
    one_more p m a (suc n) = elim (cases_eq m a) [
      | inl e ↦ grind (arith, e, as_many (λ b. cond (m == b) true (p b)) p (a + 1) n (λ b from below. cond-false (m == b) true (p b) (ne_eqb m b (λ h. omega (arith, h, e, from)))))
      | inr d ↦ grind (arith, nat_tests, d, one_more p m (a + 1) n)
    ]
