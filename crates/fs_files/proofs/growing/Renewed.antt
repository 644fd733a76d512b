-- Places of which some were renewed with new numbers enough: which numbers there are then, and how many.
use Rattle.std.proofs.Common.{◌≡◌, ◌≢◌, ◌⊎◌, inl, inr, ℕ, zero, suc, ◌+◌, ◌<◌, ◌≤◌, ◌==◌, Bool, true, false, ◌||◌, if◌then◌else◌, List, [], ◌∷◌, length, get_or, refl, sym, ap, subst, ◌∙◌, arith, ⊎_elim}
use Rattle.std.specs.List.{AllPairs}
use Rattle.std.proofs.lemmas.Bool.{false≢true, true≢false, or_left, or_right, or_cases, eqb-true, eq-eqb}
use Rattle.std.proofs.lemmas.Option.{slice_get-get_or, slice_get_within, get_or_from_slice_get}
use Rattle.layout_extent.specs.Renew.{renew, renewals}
use Rattle.engine_blocks.specs.Running.{has}
use Rattle.fs_files.specs.Places.{has_place, place_of}

-- Which numbers there are.

-- each is an old or a new one
pub in_either : (test : ℕ → Bool) (i : ℕ) (ps more : List ℕ) (b : ℕ) → has (renew test i ps more) b ≡ true → (has ps b ≡ true) ⊎ (has more b ≡ true)
in_either test i [] more b is = inr is
in_either test i (p ∷ ps) [] b is = inl is
in_either test i (p ∷ ps) (c ∷ more) b is = by (test i) (in_either test (i + 1) ps more b) (in_either test (i + 1) ps (c ∷ more) b) is
  where
    old : (has ps b ≡ true) ⊎ (has (c ∷ more) b ≡ true) → (has (p ∷ ps) b ≡ true) ⊎ (has (c ∷ more) b ≡ true)
    old (inl x) = inl (or_right (b == p) (has ps b) x)
    old (inr y) = inr y

    new : (has ps b ≡ true) ⊎ (has more b ≡ true) → (has (p ∷ ps) b ≡ true) ⊎ (has (c ∷ more) b ≡ true)
    new (inl x) = inl (or_right (b == p) (has ps b) x)
    new (inr y) = inr (or_right (b == c) (has more b) y)

    by : (t : Bool) → (has (renew test (i + 1) ps more) b ≡ true → (has ps b ≡ true) ⊎ (has more b ≡ true)) → (has (renew test (i + 1) ps (c ∷ more)) b ≡ true → (has ps b ≡ true) ⊎ (has (c ∷ more) b ≡ true))
        → has (if t then c ∷ renew test (i + 1) ps more else p ∷ renew test (i + 1) ps (c ∷ more)) b ≡ true → (has (p ∷ ps) b ≡ true) ⊎ (has (c ∷ more) b ≡ true)
    by true one two e = first (or_cases (b == c) (has (renew test (i + 1) ps more) b) e)
      where
        first : ((b == c) ≡ true) ⊎ (has (renew test (i + 1) ps more) b ≡ true) → (has (p ∷ ps) b ≡ true) ⊎ (has (c ∷ more) b ≡ true)
        first (inl same) = inr (or_left (b == c) (has more b) same)
        first (inr rest) = new (one rest)
    by false one two e = first (or_cases (b == p) (has (renew test (i + 1) ps (c ∷ more)) b) e)
      where
        first : ((b == p) ≡ true) ⊎ (has (renew test (i + 1) ps (c ∷ more)) b ≡ true) → (has (p ∷ ps) b ≡ true) ⊎ (has (c ∷ more) b ≡ true)
        first (inl same) = inl (or_left (b == p) (has ps b) same)
        first (inr rest) = old (two rest)

-- each new one is there
pub comes_in : (test : ℕ → Bool) (i : ℕ) (ps more : List ℕ) (b : ℕ) → has more b ≡ true → has (renew test i ps more) b ≡ true
comes_in test i [] more b is = is
comes_in test i (p ∷ ps) [] b is = absurd (false≢true is)
comes_in test i (p ∷ ps) (c ∷ more) b is = by (test i) (comes_in test (i + 1) ps more b) (comes_in test (i + 1) ps (c ∷ more) b is) (or_cases (b == c) (has more b) is)
  where
    by : (t : Bool) → (has more b ≡ true → has (renew test (i + 1) ps more) b ≡ true) → has (renew test (i + 1) ps (c ∷ more)) b ≡ true → ((b == c) ≡ true) ⊎ (has more b ≡ true)
        → has (if t then c ∷ renew test (i + 1) ps more else p ∷ renew test (i + 1) ps (c ∷ more)) b ≡ true
    by true one two (inl same) = or_left (b == c) (has (renew test (i + 1) ps more) b) same
    by true one two (inr rest) = or_right (b == c) (has (renew test (i + 1) ps more) b) (one rest)
    by false one two e = or_right (b == p) (has (renew test (i + 1) ps (c ∷ more)) b) two

-- an old one is gone only where the test held
pub gone_by : (P : ℕ → Type 0) (test : ℕ → Bool) (i : ℕ) (ps more : List ℕ) (b : ℕ) → ((j : ℕ) → j < length ps → test (i + j) ≡ true → P (get_or ps j 0)) → has ps b ≡ true → has (renew test i ps more) b ≡ false → P b
gone_by P test i [] more b holds is out = absurd (false≢true is)
gone_by P test i (p ∷ ps) [] b holds is out = absurd (false≢true (sym out ∙ is))
gone_by P test i (p ∷ ps) (c ∷ more) b holds is out =
    by (test i) refl (gone_by P test (i + 1) ps more b later) (gone_by P test (i + 1) ps (c ∷ more) b later) out (or_cases (b == p) (has ps b) is)
  where
    later : (j : ℕ) → j < length ps → test (i + 1 + j) ≡ true → P (get_or ps j 0)
    later j low e = holds (suc j) (omega (arith, low)) (ap test {x = i + suc j} {y = i + 1 + j} (omega arith) ∙ e)

    by : (t : Bool) → test i ≡ t → (has ps b ≡ true → has (renew test (i + 1) ps more) b ≡ false → P b) → (has ps b ≡ true → has (renew test (i + 1) ps (c ∷ more)) b ≡ false → P b)
        → has (if t then c ∷ renew test (i + 1) ps more else p ∷ renew test (i + 1) ps (c ∷ more)) b ≡ false → ((b == p) ≡ true) ⊎ (has ps b ≡ true) → P b
    by true at one two e (inl same) = subst P (sym (eqb-true b p same)) (holds 0 (omega arith) (ap test {x = i + 0} {y = i} (omega arith) ∙ at))
    by true at one two e (inr rest) = one rest (off (b == c) (has (renew test (i + 1) ps more) b) e)
      where
        off : (x y : Bool) → (x || y) ≡ false → y ≡ false
        off false y h = h
        off true y h = absurd (true≢false h)
    by false at one two e (inl same) = absurd (false≢true (sym e ∙ or_left (b == p) (has (renew test (i + 1) ps (c ∷ more)) b) same))
    by false at one two e (inr rest) = two rest (off (b == p) (has (renew test (i + 1) ps (c ∷ more)) b) e)
      where
        off : (x y : Bool) → (x || y) ≡ false → y ≡ false
        off false y h = h
        off true y h = absurd (true≢false h)

-- No number is there twice.

once_with : (x : ℕ) (xs : List ℕ) → (has xs x ≡ true → ⊥) → AllPairs (λ a b. a ≢ b) xs → AllPairs (λ a b. a ≢ b) (x ∷ xs)
once_with x xs out once zero zero d lt within = absurd (omega (arith, lt))
once_with x xs out once zero (suc j) d lt within = λ same. out (ap (has xs) same ∙ has_place xs j (get_or xs j d) (slice_get-get_or xs j d (omega (arith, within))))
once_with x xs out once (suc i) zero d lt within = absurd (omega (arith, lt))
once_with x xs out once (suc i) (suc j) d lt within = once i j d (omega (arith, lt)) (omega (arith, within))

once_rest : (x : ℕ) (xs : List ℕ) → AllPairs (λ a b. a ≢ b) (x ∷ xs) → AllPairs (λ a b. a ≢ b) xs
once_rest x xs once i j d lt within = once (suc i) (suc j) d (omega (arith, lt)) (omega (arith, within))

not_again : (x : ℕ) (xs : List ℕ) → AllPairs (λ a b. a ≢ b) (x ∷ xs) → has xs x ≡ true → ⊥
not_again x xs once is = let r = place_of xs x is in once 0 (suc r.0) x (omega arith) (omega (arith, slice_get_within xs r.0 x r.1)) (sym (get_or_from_slice_get xs r.0 x x r.1))

pub renewed_once : (test : ℕ → Bool) (i : ℕ) (ps more : List ℕ) → AllPairs (λ a b. a ≢ b) ps → AllPairs (λ a b. a ≢ b) more → ((b : ℕ) → has ps b ≡ true → has more b ≡ true → ⊥) → AllPairs (λ a b. a ≢ b) (renew test i ps more)
renewed_once test i [] more own new apart = new
renewed_once test i (p ∷ ps) [] own new apart = own
renewed_once test i (p ∷ ps) (c ∷ more) own new apart =
    by (test i)
    (once_with c (renew test (i + 1) ps more) (λ is. out_new (in_either test (i + 1) ps more c is))
    (renewed_once test (i + 1) ps more (once_rest p ps own) (once_rest c more new) (λ b x y. apart b (or_right (b == p) (has ps b) x) (or_right (b == c) (has more b) y))))
    (once_with p (renew test (i + 1) ps (c ∷ more)) (λ is. out_old (in_either test (i + 1) ps (c ∷ more) p is))
    (renewed_once test (i + 1) ps (c ∷ more) (once_rest p ps own) new (λ b x y. apart b (or_right (b == p) (has ps b) x) y)))
  where
    out_new : (has ps c ≡ true) ⊎ (has more c ≡ true) → ⊥
    out_new (inl x) = apart c (or_right (c == p) (has ps c) x) (or_left (c == c) (has more c) (eq-eqb c c refl))
    out_new (inr y) = not_again c more new y

    out_old : (has ps p ≡ true) ⊎ (has (c ∷ more) p ≡ true) → ⊥
    out_old (inl x) = not_again p ps own x
    out_old (inr y) = apart p (or_left (p == p) (has ps p) (eq-eqb p p refl)) y

    by : (t : Bool) → AllPairs (λ a b. a ≢ b) (c ∷ renew test (i + 1) ps more) → AllPairs (λ a b. a ≢ b) (p ∷ renew test (i + 1) ps (c ∷ more)) → AllPairs (λ a b. a ≢ b) (if t then c ∷ renew test (i + 1) ps more else p ∷ renew test (i + 1) ps (c ∷ more))
    by true one two = one
    by false one two = two

-- How many there are, and which stands where, with n numbers more than are renewed.

pub renewed_count : (test : ℕ → Bool) (i : ℕ) (ps more : List ℕ) (n : ℕ) → length more ≡ renewals test i ps + n → length (renew test i ps more) ≡ length ps + n
renewed_count test i [] more n e = e
renewed_count test i (p ∷ ps) [] n e = omega (arith, e)
renewed_count test i (p ∷ ps) (c ∷ more) n e = by (test i) e (renewed_count test (i + 1) ps more n) (renewed_count test (i + 1) ps (c ∷ more) n)
  where
    by : (t : Bool) → suc (length more) ≡ (if t then 1 else 0) + renewals test (i + 1) ps + n
        → (length more ≡ renewals test (i + 1) ps + n → length (renew test (i + 1) ps more) ≡ length ps + n) → (suc (length more) ≡ renewals test (i + 1) ps + n → length (renew test (i + 1) ps (c ∷ more)) ≡ length ps + n)
        → length (if t then c ∷ renew test (i + 1) ps more else p ∷ renew test (i + 1) ps (c ∷ more)) ≡ suc (length ps) + n
    by true h one two = omega (arith, one (omega (arith, h)))
    by false h one two = omega (arith, two (omega (arith, h)))

-- where the test fails the place is as it was
pub old_at : (test : ℕ → Bool) (i : ℕ) (ps more : List ℕ) (j : ℕ) → test (i + j) ≡ false → j < length ps → get_or (renew test i ps more) j 0 ≡ get_or ps j 0
old_at test i [] more j fails low = absurd (omega (arith, low))
old_at test i (p ∷ ps) [] j fails low = refl
old_at test i (p ∷ ps) (c ∷ more) zero fails low = by (test i) (ap test {x = i} {y = i + 0} (omega arith) ∙ fails)
  where
    by : (t : Bool) → t ≡ false → get_or (if t then c ∷ renew test (i + 1) ps more else p ∷ renew test (i + 1) ps (c ∷ more)) 0 0 ≡ p
    by true e = absurd (true≢false e)
    by false e = refl
old_at test i (p ∷ ps) (c ∷ more) (suc j) fails low = by (test i) (old_at test (i + 1) ps more j there (omega (arith, low))) (old_at test (i + 1) ps (c ∷ more) j there (omega (arith, low)))
  where
    there : test (i + 1 + j) ≡ false
    there = ap test {x = i + 1 + j} {y = i + suc j} (omega arith) ∙ fails

    by : (t : Bool) → get_or (renew test (i + 1) ps more) j 0 ≡ get_or ps j 0 → get_or (renew test (i + 1) ps (c ∷ more)) j 0 ≡ get_or ps j 0
        → get_or (if t then c ∷ renew test (i + 1) ps more else p ∷ renew test (i + 1) ps (c ∷ more)) (suc j) 0 ≡ get_or ps j 0
    by true one two = one
    by false one two = two

-- where it holds, and behind them all, a new one stands
pub new_at : (test : ℕ → Bool) (i : ℕ) (ps more : List ℕ) (n j : ℕ) → length more ≡ renewals test i ps + n → j < length ps + n → (test (i + j) ≡ true) ⊎ (length ps ≤ j) → has more (get_or (renew test i ps more) j 0) ≡ true
new_at test i [] more n j e low where_is = has_place more j (get_or more j 0) (slice_get-get_or more j 0 (omega (arith, e, low)))
new_at test i (p ∷ ps) [] n j e low where_is = absurd (nowhere i (p ∷ ps) j (omega (arith, e)) low_in where_in)
  where
    low_in : j < length (p ∷ ps)
    low_in = omega (arith, e, low)

    where_in : test (i + j) ≡ true
    where_in = ⊎_elim (λ t. t) (λ past. absurd (omega (arith, low_in, past))) where_is

    nowhere : (k : ℕ) (qs : List ℕ) (l : ℕ) → renewals test k qs ≤ 0 → l < length qs → test (k + l) ≡ true → ⊥
    nowhere k [] l few below is = omega (arith, below)
    nowhere k (q ∷ qs) zero few below is = let one : ◌≡◌ {A = ℕ} (if test k then 1 else 0) 1 = ap (λ t. if t then 1 else 0) (ap test {x = k} {y = k + 0} (omega arith) ∙ is) in omega (arith, few, one)
    nowhere k (q ∷ qs) (suc l) few below is = nowhere (k + 1) qs l (omega (arith, few)) (omega (arith, below)) (ap test {x = k + 1 + l} {y = k + suc l} (omega arith) ∙ is)
new_at test i (p ∷ ps) (c ∷ more) n zero e low where_is = by (test i) (⊎_elim (λ t. ap test {x = i} {y = i + 0} (omega arith) ∙ t) (λ past. absurd (omega (arith, past))) where_is)
  where
    by : (t : Bool) → t ≡ true → has (c ∷ more) (get_or (if t then c ∷ renew test (i + 1) ps more else p ∷ renew test (i + 1) ps (c ∷ more)) 0 0) ≡ true
    by true h = or_left (c == c) (has more c) (eq-eqb c c refl)
    by false h = absurd (false≢true h)
new_at test i (p ∷ ps) (c ∷ more) n (suc j) e low where_is =
    by (test i) e (λ h. new_at test (i + 1) ps more n j h (omega (arith, low)) later) (λ h. new_at test (i + 1) ps (c ∷ more) n j h (omega (arith, low)) later)
  where
    later : (test (i + 1 + j) ≡ true) ⊎ (length ps ≤ j)
    later = ⊎_elim (λ t. inl (ap test {x = i + 1 + j} {y = i + suc j} (omega arith) ∙ t)) (λ past. inr (omega (arith, past))) where_is

    by : (t : Bool) → suc (length more) ≡ (if t then 1 else 0) + renewals test (i + 1) ps + n
        → (length more ≡ renewals test (i + 1) ps + n → has more (get_or (renew test (i + 1) ps more) j 0) ≡ true) → (suc (length more) ≡ renewals test (i + 1) ps + n → has (c ∷ more) (get_or (renew test (i + 1) ps (c ∷ more)) j 0) ≡ true)
        → has (c ∷ more) (get_or (if t then c ∷ renew test (i + 1) ps more else p ∷ renew test (i + 1) ps (c ∷ more)) (suc j) 0) ≡ true
    by true h one two = or_right (get_or (renew test (i + 1) ps more) j 0 == c) (has more (get_or (renew test (i + 1) ps more) j 0)) (one (omega (arith, h)))
    by false h one two = two (omega (arith, h))
