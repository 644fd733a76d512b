-- How many of some numbers pass a test, with and without one of them: how many snapshots keep a block without the one that goes.
use Rattle.std.proofs.Common.{◌≡◌, ◌≢◌, ◌⊎◌, inl, inr, ℕ, zero, suc, ◌+◌, ◌<◌, ◌≤◌, ◌==◌, ◌&&◌, ◌||◌, not, Bool, true, false, cond, if◌then◌else◌, List, [], ◌∷◌, length, filter, refl, sym, ap, ap₂, ◌∙◌, arith}
use Rattle.std.proofs.lemmas.Bool.{and_parts, cases_eq, eq-eqb, false≢true, ne_eqb, true≢false, and_right}
use Rattle.std.proofs.lemmas.Bool.Decides.{nat_tests}
use Rattle.std.specs.List.{range_with_len}
use Rattle.engine_blocks.specs.Running.{has}
use Rattle.fs_snapshots.specs.Among.{is_among, kept_is}

-- all but one number
abbrev pub but : (ℕ → Bool) → ℕ → ℕ → Bool
but p x k = p k && not (k == x)

abbrev pub bit : Bool → ℕ
bit t = if t then 1 else 0

and_on : (t u : Bool) → u ≡ true → (t && u) ≡ t
and_on t u e = grind (arith, nat_tests)

pub other_same : (p : ℕ → Bool) (x k : ℕ) → k ≢ x → but p x k ≡ p k
other_same p x k other = and_on (p k) (not (k == x)) (ap not (ne_eqb k x other))

pub none_here : (p : ℕ → Bool) (x : ℕ) → but p x x ≡ false
none_here p x = and_right (p x) (not (x == x)) (ap not (eq-eqb x x refl))

-- past it nothing changes
past : (p : ℕ → Bool) (x a n : ℕ) → x < a → filter (but p x) (range_with_len a n) ≡ filter p (range_with_len a n)
past p x a zero above = refl
past p x a (suc n) above = ap₂ (λ t us. cond t (a ∷ us) us) (other_same p x a (λ e. absurd (omega (arith, above, e)))) (past p x (a + 1) n (omega (arith, above)))

counted : (t : Bool) (a : ℕ) (us : List ℕ) → length (cond t (a ∷ us) us) ≡ length us + bit t
counted true a us = omega arith
counted false a us = omega arith

longer : (t u : Bool) (a b : ℕ) (us ws : List ℕ) → u ≡ t → length us ≡ length ws + b → length (cond t (a ∷ us) us) ≡ length (cond u (a ∷ ws) ws) + b
longer true u a b us ws e h = omega (arith, h, ap (λ v. length (cond v (a ∷ ws) ws)) e)
longer false u a b us ws e h = omega (arith, h, ap (λ v. length (cond v (a ∷ ws) ws)) e)

-- without it there is one less, if it passes
pub count_less : (p : ℕ → Bool) (x a n : ℕ) → a ≤ x → x < a + n → length (filter p (range_with_len a n)) ≡ length (filter (but p x) (range_with_len a n)) + bit (p x)
count_less p x a zero from below = absurd (omega (arith, from, below))
count_less p x a (suc n) from below = by (cases_eq a x) (λ above. count_less p x (a + 1) n above (omega (arith, below)))
  where
    us : List ℕ
    us = filter p (range_with_len (a + 1) n)

    ws : List ℕ
    ws = filter (but p x) (range_with_len (a + 1) n)

    by : (a ≡ x) ⊎ (a ≢ x) → (a + 1 ≤ x → length us ≡ length ws + bit (p x)) → length (cond (p a) (a ∷ us) us) ≡ length (cond (but p x a) (a ∷ ws) ws) + bit (p x)
    by (inl same) further =
        let fails : but p x a ≡ false = ap (but p x) same ∙ none_here p x in
        let rest : length ws ≡ length us = ap (λ zs. length zs) (past p x (a + 1) n (omega (arith, same))) in
        omega (arith, counted (p a) a us, ap (λ t. length (cond t (a ∷ ws) ws)) fails, rest, ap (λ k. bit (p k)) same)
    by (inr other) further = longer (p a) (but p x a) a (bit (p x)) us ws (other_same p x a other) (further (omega (arith, from, other)))

pub some_of : (xs : List ℕ) (b : ℕ) → has xs b ≡ true → 0 < length xs
some_of [] b e = absurd (false≢true e)
some_of (x ∷ xs) b e = omega arith

first_of : (xs : List ℕ) → 0 < length xs → (y : ℕ) × (has xs y ≡ true)
first_of [] some = absurd (omega (arith, some))
first_of (x ∷ xs) some = (x, ap (λ t. t || has xs x) (eq-eqb x x refl))

-- another one that passes is counted then
pub other_counted : (p : ℕ → Bool) (x y a n : ℕ) → a ≤ y → y < a + n → p y ≡ true → y ≢ x → 0 < length (filter (but p x) (range_with_len a n))
other_counted p x y a n from below passes other = some_of (filter (but p x) (range_with_len a n)) y (is_among (but p x) a n y from below (other_same p x y other ∙ passes))

-- and where one is counted another one passes
pub counted_other : (p : ℕ → Bool) (x a n : ℕ) → 0 < length (filter (but p x) (range_with_len a n)) → (y : ℕ) × (p y ≡ true) × (y ≢ x)
counted_other p x a n some =
    let y = first_of (filter (but p x) (range_with_len a n)) some in
    let passes = (kept_is (but p x) a n y.0 y.1).2 in
    (y.0, (and_parts (p y.0) (not (y.0 == x)) passes).0, λ same. true≢false (sym passes ∙ ap (but p x) same ∙ none_here p x))

-- How many pass at most.
at_most : (q : ℕ → Bool) (a n : ℕ) → length (filter q (range_with_len a n)) ≤ n
at_most q a zero = omega arith
at_most q a (suc n) = by (q a) (at_most q (a + 1) n)
  where
    by : (t : Bool) → length (filter q (range_with_len (a + 1) n)) ≤ n → length (cond t (a ∷ filter q (range_with_len (a + 1) n)) (filter q (range_with_len (a + 1) n))) ≤ suc n
    by true few = omega (arith, few)
    by false few = omega (arith, few)

-- fewer where one doesn't pass
fewer : (q : ℕ → Bool) (x a n : ℕ) → a ≤ x → x < a + n → q x ≡ false → length (filter q (range_with_len a n)) < n
fewer q x a zero from below fails = absurd (omega (arith, from, below))
fewer q x a (suc n) from below fails = by (cases_eq a x) (q a) refl (λ above. fewer q x (a + 1) n above (omega (arith, below)) fails)
  where
    us : List ℕ
    us = filter q (range_with_len (a + 1) n)

    by : (a ≡ x) ⊎ (a ≢ x) → (t : Bool) → q a ≡ t → (a + 1 ≤ x → length us < n) → length (cond t (a ∷ us) us) < suc n
    by (inl it) true passes further = absurd (true≢false (sym passes ∙ ap q it ∙ fails))
    by (inl it) false drops further = let most : length us ≤ n = at_most q (a + 1) n in omega (arith, most)
    by (inr other) true passes further = omega (arith, further (omega (arith, from, other)))
    by (inr other) false drops further = omega (arith, further (omega (arith, from, other)))

-- and two fewer where the first one doesn't pass either
pub two_fewer : (q : ℕ → Bool) (x n : ℕ) → 1 < x → x ≤ n → q 1 ≡ false → q x ≡ false → length (filter q (range_with_len 1 n)) + 2 ≤ n
two_fewer q x zero from upto first fails = absurd (omega (arith, from, upto))
two_fewer q x (suc n) from upto first fails =
    let rest = fewer q x 2 n (omega (arith, from)) (omega (arith, upto)) fails in
    omega (arith, ap (λ t. length (cond t (1 ∷ filter q (range_with_len 2 n)) (filter q (range_with_len 2 n)))) first, rest)
