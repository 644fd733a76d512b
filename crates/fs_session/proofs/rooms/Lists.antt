-- The numbers of a range that pass a test: where two tests keep the same ones, and what is left without the first of them.
use Rattle.std.proofs.Common.{⊎_elim, [], ◌≡◌, ◌⊎◌, inl, inr, ℕ, zero, suc, ◌+◌, ◌<◌, ◌≤◌, Bool, true, false, not, ◌&&◌, ◌||◌, cond, List, ◌∷◌, length, take, drop, filter, refl, sym, ap, ap₂, subst, ◌∙◌, arith}
use Rattle.std.proofs.Math.Bool.{and-false}
use Rattle.std.proofs.lemmas.Bool.{cases_Bool, eq-eqb, ne_eqb, true≢false}
use Rattle.std.specs.List.{range_with_len}
use Rattle.engine_blocks.specs.Ranges.{counted, same_from, first_passes, first_fails}
use Rattle.engine_blocks.specs.Running.{has}
use Rattle.fs_snapshots.specs.Among.{is_among, kept_is}

-- a test keeps fewer than one that passes what it passes, or the same
fewer_or_same : (p q : ℕ → Bool) (a n : ℕ) → ((b : ℕ) → a ≤ b → b < a + n → p b ≡ true → q b ≡ true) → (counted p a n < counted q a n) ⊎ (filter p (range_with_len a n) ≡ filter q (range_with_len a n))
fewer_or_same p q a zero more = inr refl
fewer_or_same p q a (suc n) more = by (cases_Bool (p a)) (cases_Bool (q a)) (fewer_or_same p q (a + 1) n (λ b from below. more b (omega (arith, from)) (omega (arith, below))))
  where
    rest : (ℕ → Bool) → List ℕ
    rest t = filter t (range_with_len (a + 1) n)

    both : p a ≡ q a → rest p ≡ rest q → filter p (range_with_len a (suc n)) ≡ filter q (range_with_len a (suc n))
    both first same = ap₂ (λ t l. cond t (a ∷ l) l) first same

    by : (p a ≡ true) ⊎ (p a ≡ false) → (q a ≡ true) ⊎ (q a ≡ false) → (counted p (a + 1) n < counted q (a + 1) n) ⊎ (rest p ≡ rest q)
        → (counted p a (suc n) < counted q a (suc n)) ⊎ (filter p (range_with_len a (suc n)) ≡ filter q (range_with_len a (suc n)))
    by (inl x) (inl y) (inl few) = inl (omega (arith, first_passes p a n x, first_passes q a n y, few))
    by (inl x) (inl y) (inr same) = inr (both (x ∙ sym y) same)
    by (inl x) (inr y) further = absurd (true≢false (sym (more a (omega arith) (omega arith) x) ∙ y))
    by (inr x) (inl y) (inl few) = inl (omega (arith, first_fails p a n x, first_passes q a n y, few))
    by (inr x) (inl y) (inr same) = inl (omega (arith, first_fails p a n x, first_passes q a n y, ap (λ (xs : List ℕ). length xs) same))
    by (inr x) (inr y) (inl few) = inl (omega (arith, first_fails p a n x, first_fails q a n y, few))
    by (inr x) (inr y) (inr same) = inr (both (x ∙ sym y) same)

-- so the same where as many pass
pub kept_same : (p q : ℕ → Bool) (a n : ℕ) → ((b : ℕ) → a ≤ b → b < a + n → p b ≡ true → q b ≡ true) → counted p a n ≡ counted q a n → filter p (range_with_len a n) ≡ filter q (range_with_len a n)
kept_same p q a n more long = ⊎_elim
    (λ few. absurd (omega (arith, few, long)))
    (λ same. same) (fewer_or_same p q a n more)

-- and one that passes no fewer keeps as many or more
pub as_many_kept : (p q : ℕ → Bool) (a n : ℕ) → ((b : ℕ) → a ≤ b → b < a + n → p b ≡ true → q b ≡ true) → counted p a n ≤ counted q a n
as_many_kept p q a n more = ⊎_elim
    (λ few. omega (arith, few))
    (λ same. omega (arith, ap (λ (xs : List ℕ). length xs) same)) (fewer_or_same p q a n more)

-- a test that all pass keeps all
pub all_kept : (a n : ℕ) → filter (λ b. true) (range_with_len a n) ≡ range_with_len a n
all_kept a zero = refl
all_kept a (suc n) = ap (λ (xs : List ℕ). a ∷ xs) (all_kept (a + 1) n)

-- and one that none passes keeps none
pub none_kept : (a n : ℕ) → filter (λ b. false) (range_with_len a n) ≡ []
none_kept a zero = refl
none_kept a (suc n) = none_kept (a + 1) n

-- a number of the range is among those that pass where it passes
pub kept_where : (p : ℕ → Bool) (a n b : ℕ) → a ≤ b → b < a + n → has (filter p (range_with_len a n)) b ≡ p b
kept_where p a n b from below = by (cases_Bool (p b)) (cases_Bool (has (filter p (range_with_len a n)) b))
  where
    by : (p b ≡ true) ⊎ (p b ≡ false) → (has (filter p (range_with_len a n)) b ≡ true) ⊎ (has (filter p (range_with_len a n)) b ≡ false) → has (filter p (range_with_len a n)) b ≡ p b
    by (inl passes) k = is_among p a n b from below passes ∙ sym passes
    by (inr fails) (inl there) = absurd (true≢false (sym (kept_is p a n b there).2 ∙ fails))
    by (inr fails) (inr gone) = gone ∙ sym fails

-- so those that pass are the numbers of the range that are among them
pub kept_themselves : (p : ℕ → Bool) (a n : ℕ) → filter p (range_with_len a n) ≡ filter (has (filter p (range_with_len a n))) (range_with_len a n)
kept_themselves p a n = same_from p (has (filter p (range_with_len a n))) a n (λ b from below. sym (kept_where p a n b from below))

-- without the first m of those that pass, the ones behind them are left
pub kept_behind : (p : ℕ → Bool) (a n m : ℕ) → filter (λ b. not (has (take m (filter p (range_with_len a n))) b) && p b) (range_with_len a n) ≡ drop m (filter p (range_with_len a n))
kept_behind p a n zero = refl
kept_behind p a zero (suc m) = refl
kept_behind p a (suc n) (suc m) = by (cases_Bool (p a)) (kept_behind p (a + 1) n m) (kept_behind p (a + 1) n (suc m))
  where
    rest : List ℕ
    rest = filter p (range_with_len (a + 1) n)

    left : List ℕ → List ℕ
    left gone = filter (λ b. not (has gone b) && p b) (range_with_len (a + 1) n)

    Goal : Bool → Type 0
    Goal t = filter (λ b. not (has (take (suc m) (cond t (a ∷ rest) rest)) b) && p b) (range_with_len a (suc n)) ≡ drop (suc m) (cond t (a ∷ rest) rest)

    first_gone : (gone : List ℕ) → filter (λ b. not (has (a ∷ gone) b) && p b) (range_with_len a (suc n)) ≡ left gone
    first_gone gone =
        ap (λ t. cond (not (t || has gone a) && p a) (a ∷ left (a ∷ gone)) (left (a ∷ gone))) (eq-eqb a a refl)
        ∙ same_from (λ b. not (has (a ∷ gone) b) && p b) (λ b. not (has gone b) && p b) (a + 1) n (λ b from below. ap (λ t. not (t || has gone b) && p b) (ne_eqb b a (λ e. absurd (omega (arith, e, from)))))

    first_fails_too : (gone : List ℕ) → p a ≡ false → filter (λ b. not (has gone b) && p b) (range_with_len a (suc n)) ≡ left gone
    first_fails_too gone fails = ap (λ t. cond t (a ∷ left gone) (left gone)) (ap (λ t. not (has gone a) && t) fails ∙ and-false (not (has gone a)))

    by : (p a ≡ true) ⊎ (p a ≡ false) → left (take m rest) ≡ drop m rest → left (take (suc m) rest) ≡ drop (suc m) rest → Goal (p a)
    by (inl passes) one more = subst Goal (sym passes) (first_gone (take m rest) ∙ one)
    by (inr fails) one more = subst Goal (sym fails) (first_fails_too (take (suc m) rest) fails ∙ more)
