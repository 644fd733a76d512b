-- What a test keeps of the numbers from one to another.
use Rattle.std.proofs.Common.{◌≡◌, ◌≢◌, ℕ, zero, suc, ◌+◌, ◌-◌, ◌<◌, ◌≤◌, Bool, true, false, cond, List, [], ◌∷◌, ◌++◌, length, filter, All, AllPairs, Contains, refl, ap, ap₂, ◌∙◌, arith}
use Rattle.std.proofs.lemmas.Bool.{cond-true, cond-false}
use Rattle.std.proofs.lemmas.List.{length-append}
use Rattle.std.proofs.lemmas.List.Elements.{filter-append, filter_passes, All-filter, Contains-append_right, Contains-append_left}
use Rattle.std.proofs.lemmas.List.FromFn.{length-range_with_len, get_or-range_with_len}
use Rattle.std.proofs.lemmas.List.Kept.{AllPairs-filter}
use Rattle.std.specs.List.{range_with_len}

-- the numbers from a up to b that pass the test
abbrev pub kept : (ℕ → Bool) → ℕ → ℕ → List ℕ
kept p a b = filter p (range_with_len a (b - a))

-- the numbers of a range are those of two ranges
range_split : (a m k : ℕ) → range_with_len a (m + k) ≡ range_with_len a m ++ range_with_len (a + m) k
range_split a zero k = ap₂ range_with_len {x = a} {y = a + 0} {u = 0 + k} {v = k} (omega arith) (omega arith)
range_split a (suc m) k =
    ap (range_with_len a) {x = suc m + k} {y = suc (m + k)} (omega arith)
    ∙ ap (λ rest. a ∷ rest) (range_split (a + 1) m k)
    ∙ ap (λ s. a ∷ (range_with_len (a + 1) m ++ range_with_len s k)) {x = a + 1 + m} {y = a + suc m} (omega arith)

pub kept_joined : (p : ℕ → Bool) (a b c : ℕ) → a ≤ b → b ≤ c → kept p a c ≡ kept p a b ++ kept p b c
kept_joined p a b c low high =
    ap (λ n. filter p (range_with_len a n)) {x = c - a} {y = b - a + (c - b)} (omega (arith, low, high))
    ∙ ap (filter p) (range_split a (b - a) (c - b))
    ∙ filter-append p (range_with_len a (b - a)) (range_with_len (a + (b - a)) (c - b))
    ∙ ap (λ s. kept p a b ++ filter p (range_with_len s (c - b))) {x = a + (b - a)} {y = b} (omega (arith, low))

-- none is kept where none passes
none_from : (p : ℕ → Bool) (a n : ℕ) → ((b : ℕ) → a ≤ b → b < a + n → p b ≡ false) → filter p (range_with_len a n) ≡ []
none_from p a zero fails = refl
none_from p a (suc n) fails =
    cond-false (p a) (a ∷ filter p (range_with_len (a + 1) n)) (filter p (range_with_len (a + 1) n)) (fails a (omega arith) (omega arith))
    ∙ none_from p (a + 1) n (λ b from below. fails b (omega (arith, from)) (omega (arith, below)))

pub none_kept : (p : ℕ → Bool) (a b : ℕ) → ((k : ℕ) → a ≤ k → k < b → p k ≡ false) → kept p a b ≡ []
none_kept p a b fails = none_from p a (b - a) (λ k from below. fails k from (omega (arith, from, below)))

-- two tests that agree keep the same numbers
same_from : (p q : ℕ → Bool) (a n : ℕ) → ((b : ℕ) → a ≤ b → b < a + n → p b ≡ q b) → filter p (range_with_len a n) ≡ filter q (range_with_len a n)
same_from p q a zero same = refl
same_from p q a (suc n) same =
    ap₂ (λ x rest. cond x (a ∷ rest) rest) (same a (omega arith) (omega arith)) (same_from p q (a + 1) n (λ b from below. same b (omega (arith, from)) (omega (arith, below))))

same_kept : (p q : ℕ → Bool) (a b : ℕ) → ((k : ℕ) → a ≤ k → k < b → p k ≡ q k) → kept p a b ≡ kept q a b
same_kept p q a b same = same_from p q a (b - a) (λ k from below. same k from (omega (arith, from, below)))

-- a number is kept or not, between those before and those behind it
kept_one : (p : ℕ → Bool) (b : ℕ) → kept p b (b + 1) ≡ cond (p b) (b ∷ []) []
kept_one p b = ap (λ n. filter p (range_with_len b n)) {x = b + 1 - b} {y = 1} (omega arith)

kept_around : (p : ℕ → Bool) (a b c : ℕ) → a ≤ b → b < c → kept p a c ≡ kept p a b ++ (cond (p b) (b ∷ []) [] ++ kept p (b + 1) c)
kept_around p a b c low high =
    kept_joined p a b c low (omega (arith, high))
    ∙ ap (λ rest. kept p a b ++ rest) (kept_joined p b (b + 1) c (omega arith) (omega (arith, high)) ∙ ap (λ one. one ++ kept p (b + 1) c) (kept_one p b))

-- one more number passes, and none between
pub kept_next : (p : ℕ → Bool) (a from b : ℕ) → a ≤ from → from ≤ b → ((k : ℕ) → from ≤ k → k < b → p k ≡ false) → p b ≡ true → kept p a (b + 1) ≡ kept p a from ++ b ∷ []
kept_next p a from b low high fails passes =
    kept_joined p a from (b + 1) low (omega (arith, high))
    ∙ ap (λ rest. kept p a from ++ rest)
    (kept_joined p from b (b + 1) high (omega arith) ∙ ap₂ ◌++◌ (none_kept p from b fails) (kept_one p b ∙ cond-true (p b) (b ∷ []) [] passes))

-- the tests differ at one number, which only the first of them keeps: it keeps one more
pub one_more : (p q : ℕ → Bool) (a b c : ℕ) → a ≤ b → b < c → p b ≡ true → q b ≡ false → ((k : ℕ) → k ≢ b → q k ≡ p k) → length (kept q a c) + 1 ≡ length (kept p a c)
one_more p q a b c low high has hasnt same =
    omega (arith, with_it, without)
  where
    before : kept q a b ≡ kept p a b
    before = same_kept q p a b (λ k from below. same k (λ e. omega (arith, e, below)))

    behind : kept q (b + 1) c ≡ kept p (b + 1) c
    behind = same_kept q p (b + 1) c (λ k from below. same k (λ e. omega (arith, e, from)))

    with_it : length (kept p a c) ≡ length (kept p a b) + (1 + length (kept p (b + 1) c))
    with_it =
        ap length (kept_around p a b c low high ∙ ap (λ one. kept p a b ++ (one ++ kept p (b + 1) c)) (cond-true (p b) (b ∷ []) [] has))
        ∙ length-append (kept p a b) (b ∷ kept p (b + 1) c) ∙ omega arith

    without : length (kept q a c) ≡ length (kept p a b) + length (kept p (b + 1) c)
    without =
        ap length (kept_around q a b c low high ∙ ap (λ one. kept q a b ++ (one ++ kept q (b + 1) c)) (cond-false (q b) (b ∷ []) [] hasnt) ∙ ap₂ ◌++◌ before behind)
        ∙ length-append (kept p a b) (kept p (b + 1) c)

-- each number that is kept lies between, and passes
pub kept_within : (p : ℕ → Bool) (a c : ℕ) → All (λ b. (a ≤ b) × (b < c)) (kept p a c)
kept_within p a c = All-filter p (λ b. (a ≤ b) × (b < c)) (range_with_len a (c - a)) (λ k d low.
    let len = length-range_with_len a (c - a) in
    let e = get_or-range_with_len a (c - a) k d (omega (arith, low, len)) in
    (omega (arith, e), omega (arith, e, low, len)))

pub kept_passes : (p : ℕ → Bool) (a c : ℕ) → All (λ b. p b ≡ true) (kept p a c)
kept_passes p a c = filter_passes p (range_with_len a (c - a))

-- each number between that passes is kept
pub is_kept : (p : ℕ → Bool) (a b c : ℕ) → a ≤ b → b < c → p b ≡ true → Contains (kept p a c) b
is_kept p a b c low high passes = rw whole there
  where
    whole : kept p a c ≡ kept p a b ++ (b ∷ [] ++ kept p (b + 1) c)
    whole = kept_around p a b c low high ∙ ap (λ one. kept p a b ++ (one ++ kept p (b + 1) c)) (cond-true (p b) (b ∷ []) [] passes)

    there : Contains (kept p a b ++ (b ∷ [] ++ kept p (b + 1) c)) b
    there = Contains-append_right (kept p a b) (b ∷ [] ++ kept p (b + 1) c) b (Contains-append_left (b ∷ []) (kept p (b + 1) c) b (0, omega arith, refl))

-- the numbers that are kept ascend
pub kept_ascend : (p : ℕ → Bool) (a c : ℕ) → AllPairs (λ x y. x < y) (kept p a c)
kept_ascend p a c = AllPairs-filter (λ x y. x < y) p (range_with_len a (c - a)) (λ i j d before low.
    let len = length-range_with_len a (c - a) in
    let x = get_or-range_with_len a (c - a) i d (omega (arith, before, low, len)) in
    let y = get_or-range_with_len a (c - a) j d (omega (arith, low, len)) in
    omega (arith, x, y, before))
