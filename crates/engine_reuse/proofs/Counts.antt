-- How often a number is in a list, and how many numbers of a range are in one.
use Rattle.std.proofs.Common.{◌≡◌, ◌≢◌, ℕ, zero, suc, ◌+◌, ◌<◌, ◌≤◌, ◌==◌, ◌||◌, not, Bool, true, false, cond, inl, List, [], ◌∷◌, ◌++◌, length, filter, refl, ap, ◌∙◌, arith}
use Rattle.std.proofs.lemmas.Bool.{eq-eqb, false≢true, false_from_ne_true, true_from_ne_false, or_right}
use Rattle.std.proofs.lemmas.List.Filters.{length-filter_both}
use Rattle.std.proofs.lemmas.List.FromFn.{length-range_with_len}
use Rattle.std.proofs.lemmas.List.Folds.{list_any-append}
use Rattle.std.proofs.lemmas.List.Sums.{sum_by-append}
use Rattle.std.specs.List.{range_with_len}
use Rattle.std.proofs.lemmas.Bool.Decides.{nat_tests}
use Rattle.engine_reuse.specs.Numbers.{is_among}
use Rattle.engine_reuse.specs.Dead.{times}
use Rattle.engine_reuse.proofs.Ranges.{same_from, none_from, one_more, among_outside}

pub times-append : (b : ℕ) (xs ys : List ℕ) → times b (xs ++ ys) ≡ times b xs + times b ys
times-append b xs ys = sum_by-append (λ x. cond (x == b) 1 0) xs ys

pub times-cons : (b x : ℕ) (xs : List ℕ) → times b (x ∷ xs) ≡ cond (x == b) 1 0 + times b xs
times-cons b x xs = omega (arith, times-append b (x ∷ []) xs)

pub among-append : (b : ℕ) (xs ys : List ℕ) → is_among b (xs ++ ys) ≡ (is_among b xs || is_among b ys)
among-append b xs ys = list_any-append (λ x. x == b) xs ys

-- a number is in a list where it is there at least once
pub times_none : (b : ℕ) (xs : List ℕ) → is_among b xs ≡ false → times b xs ≡ 0
times_none b [] out = refl
times_none b (x ∷ xs) out = grind (arith, times-cons b x xs, out, times_none b xs)

pub times_some : (b : ℕ) (xs : List ℕ) → is_among b xs ≡ true → 1 ≤ times b xs
times_some b [] in' = absurd (false≢true in')
times_some b (x ∷ xs) in' = grind (arith, times-cons b x xs, in', times_some b xs)

pub none_from_times : (b : ℕ) (xs : List ℕ) → times b xs ≡ 0 → is_among b xs ≡ false
none_from_times b xs e = false_from_ne_true (is_among b xs) (λ is. omega (arith, times_some b xs is, e))

pub some_from_times : (b : ℕ) (xs : List ℕ) → 1 ≤ times b xs → is_among b xs ≡ true
some_from_times b xs some = true_from_ne_false (is_among b xs) (λ is. omega (arith, times_none b xs is, some))

-- a filter keeps a number as often as it is there, or never
pub times-filter : (p : ℕ → Bool) (b : ℕ) (xs : List ℕ) → times b (filter p xs) ≤ times b xs
times-filter p b [] = omega arith
times-filter p b (x ∷ xs) = grind (arith, times-filter p b xs, times-cons b x (filter p xs), times-cons b x xs)

-- no number is twice in a range
pub times_range : (b a n : ℕ) → times b (range_with_len a n) ≤ 1
times_range b a zero = omega arith
times_range b a (suc n) = grind (arith, nat_tests, times-cons b a (range_with_len (a + 1) n), times_range b (a + 1) n, λ (e : a ≡ b). times_none b (range_with_len (a + 1) n) (among_outside b (a + 1) n (inl (omega (arith, e)))))

-- of a range as many numbers are in a list as the list has, where each of them is in the range and there once
pub count_among : (a n : ℕ) (xs : List ℕ) → ((b : ℕ) → is_among b xs ≡ true → (a ≤ b) × (b < a + n)) → ((b : ℕ) → times b xs ≤ 1) → length (filter (λ b. is_among b xs) (range_with_len a n)) ≡ length xs
count_among a n [] inside once = ap length (none_from (λ b. false) a n (λ b _ _. refl))
count_among a n (x ∷ xs) inside once =
    one_more (λ b. is_among b (x ∷ xs)) (λ b. is_among b xs) x a n (inside x own).0 (inside x own).1 own
    (none_from_times x xs (grind (arith, nat_tests, once x, times-cons x x xs)))
    (λ k apart. grind (arith, nat_tests, apart))
    ∙ ap (λ m. m + 1) (count_among a n xs (λ b is. inside b (or_right (x == b) (is_among b xs) is)) (λ b. omega (arith, once b, times-cons b x xs))) ∙ omega arith
  where
    own : is_among x (x ∷ xs) ≡ true
    own = ap (λ t. t || is_among x xs) (eq-eqb x x refl)

-- and the others are those that aren't
pub count_others : (a n : ℕ) (xs : List ℕ) (test : ℕ → Bool) → ((b : ℕ) → is_among b xs ≡ true → (a ≤ b) × (b < a + n)) → ((b : ℕ) → times b xs ≤ 1)
    → ((b : ℕ) → a ≤ b → b < a + n → test b ≡ not (is_among b xs)) → length (filter test (range_with_len a n)) + length xs ≡ n
count_others a n xs test inside once is =
    omega (
      arith,
      ap length (same_from test (λ b. not (is_among b xs)) a n is),
      count_among a n xs inside once,
      length-range_with_len a n,
      length-filter_both (λ b. is_among b xs) (λ b. not (is_among b xs)) (λ b. refl) (range_with_len a n),
    )
