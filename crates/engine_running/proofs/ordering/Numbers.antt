-- Numbers that ascend, and the place that a search finds.
use Rattle.std.proofs.Common.{◌≡◌, ◌≢◌, ◌⊎◌, inl, inr, ⊎_elim, ℕ, zero, suc, ◌<◌, ◌≤◌, ◌==◌, nat_eq, nat_lt, insert, Bool, true, false, if◌then◌else◌, List, [], ◌∷◌, length, slice_get, slice_index_or, Some, refl, sym, ◌∙◌, ap, subst, arith}
use Rattle.std.proofs.lemmas.Bool.{cases_Bool, eqb-true, eq-eqb, false≢true, ltb-true, ltb-false, lt-ltb, le-ltb, cond-true, cond-false}
use Rattle.std.proofs.lemmas.Option.{same_Some, none-some}
use Rattle.crash_argument.specs.HomeTest.{is_one_of}
use Rattle.engine_running.specs.Running.{with_number}

not_eq : (m n : ℕ) → m ≢ n → (m == n) ≡ false
not_eq m n ne = ⊎_elim (λ e. absurd (ne (eqb-true m n e))) (λ e. e) (cases_Bool (m == n))

pub not_in : (n : ℕ) (ns : List ℕ) → ((k m : ℕ) → slice_get ns k ≡ Some m → m ≢ n) → is_one_of n ns ≡ false
not_in n [] none = refl
not_in n (m ∷ ms) none = cond-false (m == n) true (is_one_of n ms) (not_eq m n (none 0 m refl)) ∙ not_in n ms (λ k i is. none (suc k) i is)

pub in_at : (n : ℕ) (ns : List ℕ) (at : ℕ) → ((i k m o : ℕ) → i < k → slice_get ns i ≡ Some m → slice_get ns k ≡ Some o → m < o) → ((k m : ℕ) → slice_get ns k ≡ Some m → k < at → m < n) → ((k m : ℕ) → slice_get ns k ≡ Some m → at ≤ k → n ≤ m) → at < length ns
    → nat_eq (slice_index_or ns at 0) n ≡ is_one_of n ns
in_at n [] at rising low high lt = absurd (omega arith)
in_at n (m ∷ ms) zero rising low high lt = by (m == n) refl
  where
    above : (a b c : ℕ) → a ≤ b → b < c → c ≢ a
    above a b c le lt e = omega (arith, le, lt, e)

    by : (v : Bool) → (m == n) ≡ v → nat_eq m n ≡ is_one_of n (m ∷ ms)
    by true e = e ∙ sym (cond-true (m == n) true (is_one_of n ms) e)
    by false e = e ∙ sym (cond-false (m == n) true (is_one_of n ms) e ∙ not_in n ms (λ k o is. above n m o (high 0 m refl (omega arith)) (rising 0 (suc k) m o (omega arith) refl is)))
in_at n (m ∷ ms) (suc at) rising low high lt =
    in_at n ms at (λ i k a b lt p q. rising (suc i) (suc k) a b (omega arith) p q) (λ k o is lt. low (suc k) o is (omega arith)) (λ k o is le. high (suc k) o is (omega arith)) (omega arith)
    ∙ sym (cond-false (m == n) true (is_one_of n ms) (not_eq m n (less m n (low 0 m refl (omega arith)))))
  where
    less : (a b : ℕ) → a < b → a ≢ b
    less a b lt e = omega (arith, lt, e)

-- what ascends, as a name
abbrev Rising : List ℕ → Type 0
Rising ns = (i k m n : ℕ) → i < k → slice_get ns i ≡ Some m → slice_get ns k ≡ Some n → m < n

tail_rising : (m : ℕ) (ms : List ℕ) → Rising (m ∷ ms) → Rising ms
tail_rising m ms rising i k a b lt p q = rising (suc i) (suc k) a b (omega arith) p q

cons_rising : (m : ℕ) (ms : List ℕ) → ((k a : ℕ) → slice_get ms k ≡ Some a → m < a) → Rising ms → Rising (m ∷ ms)
cons_rising m ms above rising i zero a b lt p q = absurd (omega arith)
cons_rising m ms above rising zero (suc k) a b lt p q = subst (λ n. n < b) (same_Some _ _ p) (above k b q)
cons_rising m ms above rising (suc i) (suc k) a b lt p q = rising i k a b (omega arith) p q

-- each of the numbers with one more is that one, or one of them
in_numbers : (n : ℕ) (ns : List ℕ) (k a : ℕ) → slice_get (with_number n ns) k ≡ Some a → (a ≡ n) ⊎ ((i : ℕ) × (slice_get ns i ≡ Some a))
in_numbers n [] zero a is = inl (sym (same_Some _ _ is))
in_numbers n [] (suc k) a is = absurd (none-some a is)
in_numbers n (m ∷ ms) k a is = by (nat_lt m n) refl (m == n) refl (in_numbers n ms)
  where
    later : (k : ℕ) → ((k a : ℕ) → slice_get (with_number n ms) k ≡ Some a → (a ≡ n) ⊎ ((i : ℕ) × (slice_get ms i ≡ Some a))) → slice_get (m ∷ with_number n ms) k ≡ Some a → (a ≡ n) ⊎ ((i : ℕ) × (slice_get (m ∷ ms) i ≡ Some a))
    later zero rest e = inr (0, e)
    later (suc k) rest e = ⊎_elim (λ own. inl own) (λ old. inr (suc old.0, old.1)) (rest k a e)

    front : (k : ℕ) → slice_get (n ∷ m ∷ ms) k ≡ Some a → (a ≡ n) ⊎ ((i : ℕ) × (slice_get (m ∷ ms) i ≡ Some a))
    front zero e = inl (sym (same_Some _ _ e))
    front (suc k) e = inr (k, e)

    by : (u : Bool) → nat_lt m n ≡ u → (v : Bool) → (m == n) ≡ v → ((k a : ℕ) → slice_get (with_number n ms) k ≡ Some a → (a ≡ n) ⊎ ((i : ℕ) × (slice_get ms i ≡ Some a))) → (a ≡ n) ⊎ ((i : ℕ) × (slice_get (m ∷ ms) i ≡ Some a))
    by true e v f rest = later k rest (ap (λ (l : List ℕ). slice_get l k) (sym (cond-true (nat_lt m n) (m ∷ with_number n ms) (if m == n then m ∷ ms else n ∷ m ∷ ms) e)) ∙ is)
    by false e true f rest = inr (k, ap (λ (l : List ℕ). slice_get l k) (sym (cond-false (nat_lt m n) (m ∷ with_number n ms) (if m == n then m ∷ ms else n ∷ m ∷ ms) e ∙ cond-true (m == n) (m ∷ ms) (n ∷ m ∷ ms) f)) ∙ is)
    by false e false f rest = front k (ap (λ (l : List ℕ). slice_get l k) (sym (cond-false (nat_lt m n) (m ∷ with_number n ms) (if m == n then m ∷ ms else n ∷ m ∷ ms) e ∙ cond-false (m == n) (m ∷ ms) (n ∷ m ∷ ms) f)) ∙ is)

pub rising_number : (n : ℕ) (ns : List ℕ) → Rising ns → Rising (with_number n ns)
rising_number n [] rising = cons_rising n [] (λ k a is. absurd (none-some a is)) rising
rising_number n (m ∷ ms) rising = by (nat_lt m n) refl (m == n) refl (rising_number n ms (tail_rising m ms rising))
  where
    by : (u : Bool) → nat_lt m n ≡ u → (v : Bool) → (m == n) ≡ v → Rising (with_number n ms) → Rising (with_number n (m ∷ ms))
    by true e v f rest = subst (λ (l : List ℕ). Rising l) (sym (cond-true (nat_lt m n) (m ∷ with_number n ms) (if m == n then m ∷ ms else n ∷ m ∷ ms) e))
        (cons_rising m (with_number n ms) (λ k a is. ⊎_elim (λ own. omega (arith, own, ltb-true m n e)) (λ old. rising 0 (suc old.0) m a (omega arith) refl old.1) (in_numbers n ms k a is)) rest)
    by false e true f rest = subst (λ (l : List ℕ). Rising l) (sym (cond-false (nat_lt m n) (m ∷ with_number n ms) (if m == n then m ∷ ms else n ∷ m ∷ ms) e ∙ cond-true (m == n) (m ∷ ms) (n ∷ m ∷ ms) f)) rising
    by false e false f rest = subst (λ (l : List ℕ). Rising l) (sym (cond-false (nat_lt m n) (m ∷ with_number n ms) (if m == n then m ∷ ms else n ∷ m ∷ ms) e ∙ cond-false (m == n) (m ∷ ms) (n ∷ m ∷ ms) f))
        (cons_rising n (m ∷ ms) first rising)
      where
        low : n < m
        low = strict m n (ltb-false m n e) (λ same. false≢true (sym f ∙ eq-eqb m n same))
          where
            strict : (a b : ℕ) → b ≤ a → a ≢ b → b < a
            strict a b le ne = omega (arith, le, ne)

        first : (k a : ℕ) → slice_get (m ∷ ms) k ≡ Some a → n < a
        first zero a is = subst (λ q. n < q) (same_Some _ _ is) low
        first (suc k) a is = omega (arith, low, rising 0 (suc k) m a (omega arith) refl is)

-- the number that is there already
pub there_number : (n : ℕ) (ns : List ℕ) → Rising ns → is_one_of n ns ≡ true → ns ≡ with_number n ns
there_number n [] rising is = absurd (false≢true is)
there_number n (m ∷ ms) rising is = by (nat_lt m n) refl (m == n) refl (there_number n ms (tail_rising m ms rising))
  where
    by : (u : Bool) → nat_lt m n ≡ u → (v : Bool) → (m == n) ≡ v → (is_one_of n ms ≡ true → ms ≡ with_number n ms) → m ∷ ms ≡ with_number n (m ∷ ms)
    by true e true f rest = absurd (less m n (ltb-true m n e) (eqb-true m n f))
      where
        less : (a b : ℕ) → a < b → a ≡ b → ⊥
        less a b lt same = omega (arith, lt, same)
    by true e false f rest = ap (λ (l : List ℕ). m ∷ l) (rest (sym (cond-false (m == n) true (is_one_of n ms) f) ∙ is)) ∙ sym (cond-true (nat_lt m n) (m ∷ with_number n ms) (if m == n then m ∷ ms else n ∷ m ∷ ms) e)
    by false e true f rest = sym (cond-false (nat_lt m n) (m ∷ with_number n ms) (if m == n then m ∷ ms else n ∷ m ∷ ms) e ∙ cond-true (m == n) (m ∷ ms) (n ∷ m ∷ ms) f)
    by false e false f rest = absurd (false≢true (sym (not_in n ms above) ∙ (sym (cond-false (m == n) true (is_one_of n ms) f) ∙ is)))
      where
        above : (k a : ℕ) → slice_get ms k ≡ Some a → a ≢ n
        above k a at same = less m a n (ltb-false m n e) (rising 0 (suc k) m a (omega arith) refl at) same
          where
            less : (m a n : ℕ) → n ≤ m → m < a → a ≡ n → ⊥
            less m a n le lt e = omega (arith, le, lt, e)

-- the number in its place
pub placed_number : (n : ℕ) (ns : List ℕ) (at : ℕ) → at ≤ length ns → ((k m : ℕ) → slice_get ns k ≡ Some m → k < at → m < n) → ((k m : ℕ) → slice_get ns k ≡ Some m → at ≤ k → n ≤ m) → is_one_of n ns ≡ false → insert ns at n ≡ with_number n ns
placed_number n [] zero le low high out = refl
placed_number n [] (suc at) le low high out = absurd (omega arith)
placed_number n (m ∷ ms) zero le low high out = by (m == n) refl
  where
    by : (v : Bool) → (m == n) ≡ v → n ∷ m ∷ ms ≡ with_number n (m ∷ ms)
    by true f = absurd (false≢true (sym out ∙ cond-true (m == n) true (is_one_of n ms) f))
    by false f = sym (cond-false (nat_lt m n) (m ∷ with_number n ms) (if m == n then m ∷ ms else n ∷ m ∷ ms) (le-ltb m n (high 0 m refl (omega arith))) ∙ cond-false (m == n) (m ∷ ms) (n ∷ m ∷ ms) f)
placed_number n (m ∷ ms) (suc at) le low high out =
    ap (λ (l : List ℕ). m ∷ l) (placed_number n ms at (omega arith) (λ k o is lt. low (suc k) o is (omega arith)) (λ k o is le. high (suc k) o is (omega arith)) (sym (cond-false (m == n) true (is_one_of n ms) (not_eq m n (less m n (low 0 m refl (omega arith))))) ∙ out))
    ∙ sym (cond-true (nat_lt m n) (m ∷ with_number n ms) (if m == n then m ∷ ms else n ∷ m ∷ ms) (lt-ltb m n (low 0 m refl (omega arith))))
  where
    less : (a b : ℕ) → a < b → a ≢ b
    less a b lt e = omega (arith, lt, e)
