-- More on how many numbers of a range pass a test.
use Rattle.std.proofs.Common.{◌≡◌, ◌≢◌, ℕ, zero, suc, ◌+◌, ◌<◌, ◌≤◌, Bool, true, false, [], filter, refl, arith, inl, inr}
use Rattle.std.proofs.lemmas.Bool.{cases_eq}
use Rattle.std.specs.List.{range_with_len}
use Rattle.engine_blocks.specs.Ranges.{counted, first_passes, first_fails, fewer_from}

-- none is kept where none passes
pub none_from : (p : ℕ → Bool) (a n : ℕ) → ((b : ℕ) → a ≤ b → b < a + n → p b ≡ false) → filter p (range_with_len a n) ≡ []
none_from p a zero fails = refl
none_from p a (suc n) fails = grind (arith, fails a, none_from p (a + 1) n (λ b from below. fails b (omega (arith, from)) (omega (arith, below))))

-- a test that passes one number more at most
pub one_from : (p q : ℕ → Bool) (b a n : ℕ) → ((k : ℕ) → k ≢ b → q k ≡ true → p k ≡ true) → counted q a n ≤ counted p a n + 1
one_from p q b a zero less = omega arith
one_from p q b a (suc n) less = elim (cases_eq a b) [
  | inl e ↦ grind (arith, less a, first_passes q a n, first_fails q a n, first_passes p a n, first_fails p a n, fewer_from p q (a + 1) n (λ k from. less k (λ h. omega (arith, h, e, from))))
  | inr d ↦ grind (arith, less a d, first_passes q a n, first_fails q a n, first_passes p a n, first_fails p a n, one_from p q b (a + 1) n less)
]
