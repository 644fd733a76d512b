-- How many places of a list are shared, among all and among those that bytes touch.
use Rattle.std.proofs.Common.{◌≡◌, ◌⊎◌, inl, inr, ℕ, zero, suc, ◌+◌, ◌-◌, ◌*◌, ◌/◌, ◌<◌, ◌≤◌, nat_lt, Bool, true, false, not, ◌&&◌, cond, filter, List, [], ◌∷◌, length, drop, get_or, slice_get, Option, None, Some, refl, sym, ap, ap₂, ◌∙◌, arith}
use Rattle.std.specs.List.{range_with_len}
use Rattle.std.proofs.Math.Bool.{and-false}
use Rattle.std.proofs.lemmas.Bool.{cases_lt, le-leb, le-ltb, lt-leb, lt-ltb}
use Rattle.std.proofs.lemmas.List.{length-drop}
use Rattle.std.proofs.lemmas.Option.{slice_get-get_or, slice_get_past}
use Rattle.layout_extent.specs.Renew.{makes_way, renew, renewals}
use Rattle.lang_tree.specs.Figures.{blocks_for, touches}
use Rattle.lang_tree.specs.Sharing.{SharedPlaces, alone_from, is_renewed, shared_met}
use Rattle.fs_files.specs.Growing.{alone}
use Rattle.fs_files.specs.Shared.{is_kept, is_kept_at}
use Rattle.fs_commands.specs.Figures.{kept_places}

-- how many of n places from a on pass a test
abbrev pub count : (ℕ → Bool) → ℕ → ℕ → ℕ
count test a n = length (filter test (range_with_len a n))

-- one place and the others
pub count_first : (test : ℕ → Bool) (a n : ℕ) → count test a (suc n) ≡ (cond (test a) 1 0) + count test (a + 1) n
count_first test a n = by (test a)
  where
    by : (b : Bool) → length (cond b (a ∷ filter test (range_with_len (a + 1) n)) (filter test (range_with_len (a + 1) n))) ≡ cond b 1 0 + count test (a + 1) n
    by true = omega arith
    by false = omega arith

-- tests that agree on the places count alike
pub count_alike : (test other : ℕ → Bool) (a n : ℕ) → ((i : ℕ) → a ≤ i → i < a + n → test i ≡ other i) → count test a n ≡ count other a n
count_alike test other a zero same = refl
count_alike test other a (suc n) same =
    count_first test a n ∙ ap₂ (λ b m. cond b 1 0 + m) (same a (omega arith) (omega arith)) (count_alike test other (a + 1) n (λ i above below. same i (omega (arith, above)) (omega (arith, below))))
    ∙ sym (count_first other a n)

-- none passes
pub count_none : (test : ℕ → Bool) (a n : ℕ) → ((i : ℕ) → a ≤ i → i < a + n → test i ≡ false) → count test a n ≡ 0
count_none test a zero none = refl
count_none test a (suc n) none =
    count_first test a n ∙ ap₂ (λ b m. cond b 1 0 + m) (none a (omega arith) (omega arith)) (count_none test (a + 1) n (λ i above below. none i (omega (arith, above)) (omega (arith, below))))

-- the first places and the others
pub count_split : (test : ℕ → Bool) (a m n : ℕ) → count test a (m + n) ≡ count test a m + count test (a + m) n
count_split test a zero n = omega (arith, ap (count test a) {x = 0 + n} {y = n} (omega arith), ap (λ i. count test i n) {x = a} {y = a + 0} (omega arith))
count_split test a (suc m) n =
    ap (count test a) {x = suc m + n} {y = suc (m + n)} (omega arith) ∙ count_first test a (m + n) ∙ ap (λ k. cond (test a) 1 0 + k) (count_split test (a + 1) m n ∙ ap (λ i. count test (a + 1) m + count test i n) {x = a + 1 + m} {y = a + suc m} (omega arith))
    ∙ omega (arith, count_first test a m)

-- those that pass and those that don't are all
pub count_rest : (test : ℕ → Bool) (a n : ℕ) → count (λ i. not (test i)) a n ≡ n - count test a n
count_rest test a n = omega (arith, both test a n)
  where
    step : (b : Bool) (x y n : ℕ) → x + y ≡ n → (cond (not b) 1 0 + x) + (cond b 1 0 + y) ≡ suc n
    step true x y n e = omega (arith, e)
    step false x y n e = omega (arith, e)

    both : (test : ℕ → Bool) (a n : ℕ) → count (λ i. not (test i)) a n + count test a n ≡ n
    both test a zero = refl
    both test a (suc n) = ap₂ (λ x y. x + y) (count_first (λ i. not (test i)) a n) (count_first test a n) ∙ step (test a) (count (λ i. not (test i)) (a + 1) n) (count test (a + 1) n) n (both test (a + 1) n)

-- A test of places that is one of what stands there counts what passes in the list.
pub count_filter : {A : Type 0} (test : ℕ → Bool) (passes : A → Bool) (a : ℕ) (xs : List A) → ((i : ℕ) (x : A) → slice_get xs i ≡ Some x → test (a + i) ≡ passes x) → count test a (length xs) ≡ length (filter passes xs)
count_filter test passes a [] same = refl
count_filter test passes a (x ∷ xs) same =
    count_first test a (length xs)
    ∙ ap₂ (λ b m. cond b 1 0 + m) (ap test {x = a} {y = a + 0} (omega arith) ∙ same 0 x refl)
    (count_filter test passes (a + 1) xs (λ i y at. ap test {x = a + 1 + i} {y = a + suc i} (omega arith) ∙ same (suc i) y at))
    ∙ sym (by (passes x))
  where
    by : (b : Bool) → length (cond b (x ∷ filter passes xs) (filter passes xs)) ≡ cond b 1 0 + length (filter passes xs)
    by true = omega arith
    by false = omega arith

-- renewals are counted so
pub renewals_count : (test : ℕ → Bool) (a : ℕ) (xs : List ℕ) → renewals test a xs ≡ count test a (length xs)
renewals_count test a [] = refl
renewals_count test a (x ∷ xs) = ap (λ n. cond (test a) 1 0 + n) (renewals_count test (a + 1) xs) ∙ sym (count_first test a (length xs))

-- and tests that agree on the places renew alike
pub renew_alike : (test other : ℕ → Bool) (a : ℕ) (xs more : List ℕ) → ((i : ℕ) → a ≤ i → i < a + length xs → test i ≡ other i) → renew test a xs more ≡ renew other a xs more
renew_alike test other a [] more same = refl
renew_alike test other a (x ∷ xs) [] same = refl
renew_alike test other a (x ∷ xs) (y ∷ more) same =
    ap (λ b. cond b (y ∷ renew test (a + 1) xs more) (x ∷ renew test (a + 1) xs (y ∷ more))) (same a (omega arith) (omega arith))
    ∙ ap₂ (λ p q. cond (other a) (y ∷ p) (x ∷ q)) (renew_alike test other (a + 1) xs more later) (renew_alike test other (a + 1) xs (y ∷ more) later)
  where
    later : (i : ℕ) → a + 1 ≤ i → i < a + 1 + length xs → test i ≡ other i
    later i above below = same i (omega (arith, above)) (omega (arith, below))

-- Which places bytes touch.

module _ (lo hi : ℕ) where
  abbrev pub first : ℕ
  first = lo / 1024

  abbrev pub past : ℕ
  past = blocks_for hi

  pub touched : (i : ℕ) → first ≤ i → i < past → touches lo hi i ≡ true
  touched i above below = ap₂ (λ a b. a && b) (lt-ltb (1024 * i) hi (omega (arith, below))) (lt-ltb lo (1024 * (i + 1)) (omega (arith, above)))

  pub before : (i : ℕ) → i < first → touches lo hi i ≡ false
  before i below = ap (λ b. nat_lt (1024 * i) hi && b) (le-ltb lo (1024 * (i + 1)) (omega (arith, below))) ∙ and-false (nat_lt (1024 * i) hi)

  pub behind : (i : ℕ) → past ≤ i → touches lo hi i ≡ false
  behind i above = ap (λ b. b && nat_lt lo (1024 * (i + 1))) (le-ltb (1024 * i) hi (omega (arith, above)))

  -- the shared ones among them are those of the places between
  module _ (shared : SharedPlaces) where
    abbrev met : ℕ → Bool
    met = is_renewed shared lo hi

    unmet : (i : ℕ) → touches lo hi i ≡ false → met i ≡ false
    unmet i e = ap (λ b. b && shared i) e

    up_to_past : count met 0 past ≡ count shared first (past - first)
    up_to_past = by (cases_lt past first)
      where
        by : (past < first) ⊎ (first ≤ past) → count met 0 past ≡ count shared first (past - first)
        by (inl low) = count_none met 0 past (λ i above below. unmet i (before i (omega (arith, below, low)))) ∙ ap (count shared first) {x = 0} {y = past - first} (omega (arith, low))
        by (inr high) =
            omega (
              arith,
              ap (count met 0) {x = past} {y = first + (past - first)} (omega (arith, high)),
              count_split met 0 first (past - first),
              count_none met 0 first (λ i above below. unmet i (before i (omega (arith, below)))),
              count_alike met shared (0 + first) (past - first) (λ i above below. ap (λ b. b && shared i) (touched i (omega (arith, above)) (omega (arith, below, high)))),
              ap (λ a. count shared a (past - first)) {x = 0 + first} {y = first} (omega arith),
            )

    pub met_between : (size : ℕ) → ((i : ℕ) → blocks_for size ≤ i → shared i ≡ false) → shared_met shared size lo hi ≡ count shared first (past - first)
    met_between size none =
        let n = blocks_for size in
        omega (
          arith,
          count_split met 0 n past,
          count_none met (0 + n) past (λ i above below. ap (λ b. touches lo hi i && b) (none i (omega (arith, above))) ∙ and-false (touches lo hi i)),
          count_split met 0 past n,
          count_none met (0 + past) n (λ i above below. unmet i (behind i (omega (arith, above)))),
          ap (count met 0) {x = n + past} {y = past + n} (omega arith),
          up_to_past,
        )

-- Places of a node of which snapshots keep blocks.

nothing : List ℕ
nothing = []

-- a place of the others of a list
get_behind : (c : ℕ) (xs : List ℕ) (i : ℕ) → slice_get (drop c xs) i ≡ slice_get xs (c + i)
get_behind zero xs i = ap (slice_get xs) {x = i} {y = 0 + i} (omega arith)
get_behind (suc c) [] i = slice_get_past (drop (suc c) []) i (omega (arith, length-drop (suc c) nothing)) ∙ sym (slice_get_past [] (suc c + i) (omega arith))
get_behind (suc c) (x ∷ xs) i = get_behind c xs i ∙ ap (slice_get (x ∷ xs)) {x = suc (c + i)} {y = suc c + i} (omega arith)

-- with no counts none is kept, and none is past the last
pub kept_by_none : (counts : List ℕ) → length counts ≡ 0 → (o : Option ℕ) → is_kept_at counts o ≡ false
kept_by_none counts none None = refl
kept_by_none [] none (Some b) = refl
kept_by_none (c ∷ counts) none (Some b) = absurd (omega (arith, none))

pub kept_past : (counts places : List ℕ) (i : ℕ) → length places ≤ i → kept_places counts places i ≡ false
kept_past counts places i above = ap (is_kept_at counts) (slice_get_past places i above)

module _ (counts places : List ℕ) where
  abbrev shares : SharedPlaces
  shares = kept_places counts places

  -- those that aren't kept are the blocks of the node alone
  pub alone_count : alone_from shares 0 (length places) ≡ length (alone (is_kept counts) places)
  alone_count = count_filter (λ i. not (shares i)) (λ b. not (is_kept counts b)) 0 places (λ i b at. ap (λ o. not (is_kept_at counts o)) (ap (slice_get places) {x = 0 + i} {y = i} (omega arith) ∙ at))

  pub alone_behind : (c : ℕ) → alone_from shares c (length places - c) ≡ length (alone (is_kept counts) (drop c places))
  alone_behind c =
      ap (count (λ i. not (shares i)) c) (sym (length-drop c places))
      ∙ count_filter (λ i. not (shares i)) (λ b. not (is_kept counts b)) c (drop c places) (λ i b at. ap (λ o. not (is_kept_at counts o)) (sym (get_behind c places i) ∙ at))

  module _ (lo hi : ℕ) where
    -- what makes way is what bytes touch and is kept
    same_way : (i : ℕ) → i < length places → makes_way (lo / 1024) (blocks_for hi) (is_kept counts) places i ≡ is_renewed shares lo hi i
    same_way i within = by (cases_lt i (lo / 1024)) (cases_lt i (blocks_for hi))
      where
        here : is_kept counts (get_or places i 0) ≡ shares i
        here = sym (ap (is_kept_at counts) (slice_get-get_or places i 0 within))

        by : (i < lo / 1024) ⊎ (lo / 1024 ≤ i) → (i < blocks_for hi) ⊎ (blocks_for hi ≤ i) → makes_way (lo / 1024) (blocks_for hi) (is_kept counts) places i ≡ is_renewed shares lo hi i
        by (inl low) r = ap (λ b. b && (nat_lt i (blocks_for hi) && is_kept counts (get_or places i 0))) (lt-leb (lo / 1024) i low) ∙ sym (ap (λ b. b && shares i) (before lo hi i low))
        by (inr high) (inl below) =
            ap₂ (λ a b. a && (b && is_kept counts (get_or places i 0))) (le-leb (lo / 1024) i high) (lt-ltb i (blocks_for hi) below) ∙ here
            ∙ sym (ap (λ b. b && shares i) (touched lo hi i high below))
        by (inr high) (inr above) =
            ap₂ (λ a b. a && (b && is_kept counts (get_or places i 0))) (le-leb (lo / 1024) i high) (le-ltb i (blocks_for hi) above)
            ∙ sym (ap (λ b. b && shares i) (behind lo hi i above))

    -- as many make way
    pub ways_count : (size : ℕ) → length places ≡ blocks_for size → renewals (makes_way (lo / 1024) (blocks_for hi) (is_kept counts) places) 0 places ≡ shared_met shares size lo hi
    ways_count size long =
        renewals_count (makes_way (lo / 1024) (blocks_for hi) (is_kept counts) places) 0 places
        ∙ count_alike (makes_way (lo / 1024) (blocks_for hi) (is_kept counts) places) (is_renewed shares lo hi) 0 (length places) (λ i above below. same_way i (omega (arith, below)))
        ∙ ap (count (is_renewed shares lo hi) 0) long

    -- and new ones stand there
    pub ways_renew : (more : List ℕ) → renew (makes_way (lo / 1024) (blocks_for hi) (is_kept counts) places) 0 places more ≡ renew (is_renewed shares lo hi) 0 places more
    ways_renew more = renew_alike (makes_way (lo / 1024) (blocks_for hi) (is_kept counts) places) (is_renewed shares lo hi) 0 places more (λ i above below. same_way i (omega (arith, below)))
