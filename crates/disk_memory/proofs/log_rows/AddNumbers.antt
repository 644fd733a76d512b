-- The numbers of those that pass a test, with one more behind them, and where one of them doesn't pass any more.
use Rattle.std.proofs.Common.{◌≡◌, ℕ, zero, suc, ◌+◌, ◌<◌, ◌≤◌, ◌==◌, Bool, true, false, not, if◌then◌else◌, List, [], ◌∷◌, ◌++◌, length, Some, refl, sym, ap, ap₂, ◌∙◌, arith}
use Rattle.std.proofs.lemmas.Bool.{eq-eqb, ne_eqb, cond-true, cond-false}
use Rattle.std.proofs.lemmas.Option.{slice_get_within, get_or_from_slice_get}
use Rattle.std.specs.List.{filter, slice_get}
use Rattle.disk_memory.specs.Log.{numbers_of}
use Rattle.disk_memory.proofs.log_rows.RowTickets.{AreAbove, above_at}

-- what stands among ascending numbers is above what they are above
below_at : (low place : ℕ) (ts : List ℕ) {t : ℕ} → AreAbove low ts → slice_get ts place ≡ Some t → low < t
below_at low place ts {t} above at = omega (arith, above_at low place ts above (slice_get_within ts place t at), get_or_from_slice_get ts place t 0 at)

-- one more behind them
pub numbers_of_more : (test : ℕ → Bool) (n : ℕ) (ts : List ℕ) (t : ℕ) → test t ≡ true → numbers_of test n (ts ++ t ∷ []) ≡ numbers_of test n ts ++ (n + length ts) ∷ []
numbers_of_more test n [] t passes = cond-true (test t) _ _ passes ∙ ap (λ m. m ∷ []) (omega arith)
numbers_of_more test n (u ∷ ts) t passes =
    let rest = numbers_of_more test (n + 1) ts t passes ∙ ap (λ m. numbers_of test (n + 1) ts ++ m ∷ []) (omega arith) in
    elim (test u) as (λ v. (if v then n ∷ numbers_of test (n + 1) (ts ++ t ∷ []) else numbers_of test (n + 1) (ts ++ t ∷ [])) ≡ (if v then n ∷ numbers_of test (n + 1) ts else numbers_of test (n + 1) ts) ++ (n + suc (length ts)) ∷ [])
    [ true ↦ ap (λ (ms : List ℕ). n ∷ ms) rest | false ↦ rest ]

-- two tests that say the same of each have the same numbers
pub numbers_of_same : (f g : ℕ → Bool) → ((u : ℕ) → g u ≡ f u) → (n : ℕ) (ts : List ℕ) → numbers_of g n ts ≡ numbers_of f n ts
numbers_of_same f g same n [] = refl
numbers_of_same f g same n (t ∷ ts) = ap₂ (λ (v : Bool) (ms : List ℕ). if v then n ∷ ms else ms) (same t) (numbers_of_same f g same (n + 1) ts)

-- numbers counted from above one have no such number among them
numbers_above : (test : ℕ → Bool) (number n : ℕ) (ts : List ℕ) → number < n → filter (λ m. not (m == number)) (numbers_of test n ts) ≡ numbers_of test n ts
numbers_above test number n [] above = refl
numbers_above test number n (t ∷ ts) above =
    let rest = numbers_above test number (n + 1) ts (omega arith) in
    let apart : (n == number) ≡ false = ne_eqb n number (λ e. omega arith) in
    elim (test t) as (λ v. filter (λ m. not (m == number)) (if v then n ∷ numbers_of test (n + 1) ts else numbers_of test (n + 1) ts) ≡ (if v then n ∷ numbers_of test (n + 1) ts else numbers_of test (n + 1) ts))
    [ true ↦ ap₂ (λ (v : Bool) (ms : List ℕ). if not v then n ∷ ms else ms) apart rest | false ↦ rest ]

-- two tests that differ at one ticket alone, which passes the first and fails the second
module _ (f g : ℕ → Bool) (ticket : ℕ) (same : (u : ℕ) → (u ≡ ticket → ⊥) → g u ≡ f u) (fails : g ticket ≡ false) where
  -- say the same of all tickets above it
  same_above : (low n : ℕ) (ts : List ℕ) → ticket ≤ low → AreAbove low ts → numbers_of g n ts ≡ numbers_of f n ts
  same_above low n [] high above = refl
  same_above low n (t ∷ ts) high above =
      ap₂ (λ (v : Bool) (ms : List ℕ). if v then n ∷ ms else ms) (same t (λ e. omega (arith, above.0))) (same_above t (n + 1) ts (omega (arith, above.0)) above.1)

  -- the number of the ticket is none of those of the second, and any other is where it is of the first
  pub numbers_without : (low n place : ℕ) (ts : List ℕ) → AreAbove low ts → slice_get ts place ≡ Some ticket → numbers_of g n ts ≡ filter (λ m. not (m == n + place)) (numbers_of f n ts)
  numbers_without low n place [] above at = absurd (cc)
  numbers_without low n zero (t ∷ ts) above at =
      let is : t ≡ ticket = cc in
      let rest : numbers_of f (n + 1) ts ≡ filter (λ m. not (m == n + zero)) (numbers_of f (n + 1) ts) = sym (numbers_above f (n + zero) (n + 1) ts (omega arith)) in
      let out : (n == n + zero) ≡ true = eq-eqb n (n + zero) (omega arith) in
      cond-false (g t) _ _ (ap g is ∙ fails) ∙ same_above t (n + 1) ts (omega arith) above.1 ∙ rest
      ∙ elim (f t) as (λ v. filter (λ m. not (m == n + zero)) (numbers_of f (n + 1) ts) ≡ filter (λ m. not (m == n + zero)) (if v then n ∷ numbers_of f (n + 1) ts else numbers_of f (n + 1) ts))
      [ true ↦ ap (λ (v : Bool). if not v then n ∷ filter (λ m. not (m == n + zero)) (numbers_of f (n + 1) ts) else filter (λ m. not (m == n + zero)) (numbers_of f (n + 1) ts)) (sym out) | false ↦ refl ]
  numbers_without low n (suc place) (t ∷ ts) above at =
      let less : t < ticket = below_at t place ts above.1 at in
      let number : (n + 1) + place ≡ n + suc place = omega arith in
      let rest : numbers_of g (n + 1) ts ≡ filter (λ m. not (m == n + suc place)) (numbers_of f (n + 1) ts) = numbers_without t (n + 1) place ts above.1 at ∙ ap (λ k. filter (λ m. not (m == k)) (numbers_of f (n + 1) ts)) number in
      let apart : (n == n + suc place) ≡ false = ne_eqb n (n + suc place) (λ e. omega arith) in
      ap₂ (λ (v : Bool) (ms : List ℕ). if v then n ∷ ms else ms) (same t (λ e. omega arith)) rest
      ∙ elim (f t) as (λ v. (if v then n ∷ filter (λ m. not (m == n + suc place)) (numbers_of f (n + 1) ts) else filter (λ m. not (m == n + suc place)) (numbers_of f (n + 1) ts)) ≡ filter (λ m. not (m == n + suc place)) (if v then n ∷ numbers_of f (n + 1) ts else numbers_of f (n + 1) ts))
      [ true ↦ ap (λ (v : Bool). if not v then n ∷ filter (λ m. not (m == n + suc place)) (numbers_of f (n + 1) ts) else filter (λ m. not (m == n + suc place)) (numbers_of f (n + 1) ts)) (sym apart) | false ↦ refl ]

  -- so they are one less
  pub one_less : (low n place : ℕ) (ts : List ℕ) → f ticket ≡ true → AreAbove low ts → slice_get ts place ≡ Some ticket → length (numbers_of g n ts) + 1 ≡ length (numbers_of f n ts)
  one_less low n place [] passes above at = absurd (cc)
  one_less low n zero (t ∷ ts) passes above at =
      let is : t ≡ ticket = cc in
      let rest : length (numbers_of g (n + 1) ts) ≡ length (numbers_of f (n + 1) ts) = ap length (same_above t (n + 1) ts (omega arith) above.1) in
      omega (arith, rest, ap length (cond-false (g t) (n ∷ numbers_of g (n + 1) ts) (numbers_of g (n + 1) ts) (ap g is ∙ fails)), ap length (cond-true (f t) (n ∷ numbers_of f (n + 1) ts) (numbers_of f (n + 1) ts) (ap f is ∙ passes)))
  one_less low n (suc place) (t ∷ ts) passes above at =
      let less : t < ticket = below_at t place ts above.1 at in
      let rest = one_less t (n + 1) place ts passes above.1 at in
      ap (λ v. length (if v then n ∷ numbers_of g (n + 1) ts else numbers_of g (n + 1) ts) + 1) (same t (λ e. omega arith))
      ∙ elim (f t) as (λ v. length (if v then n ∷ numbers_of g (n + 1) ts else numbers_of g (n + 1) ts) + 1 ≡ length (if v then n ∷ numbers_of f (n + 1) ts else numbers_of f (n + 1) ts))
      [ true ↦ omega (arith, rest) | false ↦ rest ]
