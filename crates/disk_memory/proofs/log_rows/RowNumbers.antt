-- The numbers of those of a row that pass a test: as many as the test keeps, in the same order, and each one's number is its place.
use Rattle.std.proofs.Common.{◌≡◌, inl, inr, ℕ, zero, suc, ◌+◌, ◌-◌, ◌<◌, ◌≤◌, Bool, true, false, ◌==◌, ◌||◌, List, [], ◌∷◌, length, get_or, Some, refl, sym, ◌∙◌, ap, arith}
use Rattle.std.proofs.lemmas.Bool.{cases_Bool, cond-true, cond-false, eq-eqb, ne_eqb, or_left, or_from}
use Rattle.std.proofs.lemmas.Option.{none-some, same_Some}
use Rattle.std.specs.List.{slice_get, filter, list_any}
use Rattle.disk_memory.specs.Log.{numbers_of}

-- the first passes
pub numbers_on : (test : ℕ → Bool) (n t : ℕ) (ts : List ℕ) → test t ≡ true → numbers_of test n (t ∷ ts) ≡ n ∷ numbers_of test (n + 1) ts
numbers_on test n t ts on = cond-true (test t) (n ∷ numbers_of test (n + 1) ts) (numbers_of test (n + 1) ts) on

-- or it doesn't
pub numbers_off : (test : ℕ → Bool) (n t : ℕ) (ts : List ℕ) → test t ≡ false → numbers_of test n (t ∷ ts) ≡ numbers_of test (n + 1) ts
numbers_off test n t ts off = cond-false (test t) (n ∷ numbers_of test (n + 1) ts) (numbers_of test (n + 1) ts) off

-- the filter keeps what passes
filter_on : (test : ℕ → Bool) (t : ℕ) (ts : List ℕ) → test t ≡ true → filter test (t ∷ ts) ≡ t ∷ filter test ts
filter_on test t ts on = cond-true (test t) (t ∷ filter test ts) (filter test ts) on

-- and leaves out the rest
filter_off : (test : ℕ → Bool) (t : ℕ) (ts : List ℕ) → test t ≡ false → filter test (t ∷ ts) ≡ filter test ts
filter_off test t ts off = cond-false (test t) (t ∷ filter test ts) (filter test ts) off

-- there are as many numbers as the test keeps
pub length-numbers_of : (test : ℕ → Bool) (n : ℕ) (ts : List ℕ) → length (numbers_of test n ts) ≡ length (filter test ts)
length-numbers_of test n [] = refl
length-numbers_of test n (t ∷ ts) = elim (cases_Bool (test t)) [
  | inl on ↦ ap length (numbers_on test n t ts on) ∙ ap (λ k. suc k) (length-numbers_of test (n + 1) ts) ∙ sym (ap length (filter_on test t ts on))
  | inr off ↦ ap length (numbers_off test n t ts off) ∙ length-numbers_of test (n + 1) ts ∙ sym (ap length (filter_off test t ts off))
]

-- no number is below the first
none_below : (test : ℕ → Bool) (n k : ℕ) (ts : List ℕ) → k < n → list_any (λ member. member == k) (numbers_of test n ts) ≡ false
none_below test n k [] less = refl
none_below test n k (t ∷ ts) less =
    let is : ℕ → Bool = λ member. member == k in
    let rest = none_below test (n + 1) k ts (omega arith) in
    elim (cases_Bool (test t)) [
      | inl on ↦ ap (list_any is) (numbers_on test n t ts on) ∙ or_from (n == k) (list_any is (numbers_of test (n + 1) ts)) (ne_eqb n k (λ e. omega arith)) rest
      | inr off ↦ ap (list_any is) (numbers_off test n t ts off) ∙ rest
    ]

-- a number is among them where what is at its place passes
pub has_number_from : (test : ℕ → Bool) (n i t : ℕ) (ts : List ℕ) → slice_get ts i ≡ Some t → list_any (λ member. member == n + i) (numbers_of test n ts) ≡ test t
has_number_from test n i t [] at = absurd (none-some t at)
has_number_from test n zero t (u ∷ ts) at =
    let is : ℕ → Bool = λ member. member == n + zero in
    let own : u ≡ t = same_Some u t at in
    elim (cases_Bool (test u)) [
      | inl on ↦ ap (list_any is) (numbers_on test n u ts on) ∙ or_left (n == n + zero) (list_any is (numbers_of test (n + 1) ts)) (eq-eqb n (n + zero) (omega arith)) ∙ sym on ∙ ap test own
      | inr off ↦ ap (list_any is) (numbers_off test n u ts off) ∙ none_below test (n + 1) (n + zero) ts (omega arith) ∙ sym off ∙ ap test own
    ]
has_number_from test n (suc i) t (u ∷ ts) at =
    let is : ℕ → Bool = λ member. member == n + suc i in
    let rest : list_any is (numbers_of test (n + 1) ts) ≡ test t = ap (λ (k : ℕ). list_any (λ member. member == k) (numbers_of test (n + 1) ts)) {x = n + suc i} {y = n + 1 + i} (omega arith) ∙ has_number_from test (n + 1) i t ts at in
    elim (cases_Bool (test u)) [
      | inl on ↦ ap (list_any is) (numbers_on test n u ts on) ∙ ap (λ (b : Bool). b || list_any is (numbers_of test (n + 1) ts)) (ne_eqb n (n + suc i) (λ e. omega arith)) ∙ rest
      | inr off ↦ ap (list_any is) (numbers_off test n u ts off) ∙ rest
    ]

-- the same where they are counted from 1
pub has_number : (test : ℕ → Bool) (k t : ℕ) (ts : List ℕ) → 0 < k → slice_get ts (k - 1) ≡ Some t → list_any (λ member. member == k) (numbers_of test 1 ts) ≡ test t
has_number test k t ts above at = ap (λ (m : ℕ). list_any (λ member. member == m) (numbers_of test 1 ts)) {x = k} {y = 1 + (k - 1)} (omega arith) ∙ has_number_from test 1 (k - 1) t ts at

-- what the filter has at a place is in the row at the number that is there
numbers_at_from : (test : ℕ → Bool) (n i r : ℕ) (ts : List ℕ) → slice_get (numbers_of test n ts) i ≡ Some r
    → (n ≤ r) × (r - n < length ts) × (slice_get (filter test ts) i ≡ Some (get_or ts (r - n) 0))
numbers_at_from test n i r [] at = absurd (none-some r at)
numbers_at_from test n zero r (t ∷ ts) at = elim (cases_Bool (test t)) [
  | inl on ↦
      let here : n ≡ r = same_Some n r (sym (ap (λ (l : List ℕ). slice_get l zero) (numbers_on test n t ts on)) ∙ at) in
      (omega arith, omega arith, ap (λ (l : List ℕ). slice_get l zero) (filter_on test t ts on) ∙ ap (λ (k : ℕ). Some (get_or (t ∷ ts) k 0)) {x = zero} {y = r - n} (omega arith))
  | inr off ↦
      let rest = numbers_at_from test (n + 1) zero r ts (sym (ap (λ (l : List ℕ). slice_get l zero) (numbers_off test n t ts off)) ∙ at) in
      (omega arith, omega arith, ap (λ (l : List ℕ). slice_get l zero) (filter_off test t ts off) ∙ rest.2 ∙ ap (λ (k : ℕ). Some (get_or (t ∷ ts) k 0)) {x = suc (r - (n + 1))} {y = r - n} (omega arith))
]
numbers_at_from test n (suc i) r (t ∷ ts) at = elim (cases_Bool (test t)) [
  | inl on ↦
      let rest = numbers_at_from test (n + 1) i r ts (sym (ap (λ (l : List ℕ). slice_get l (suc i)) (numbers_on test n t ts on)) ∙ at) in
      (omega arith, omega arith, ap (λ (l : List ℕ). slice_get l (suc i)) (filter_on test t ts on) ∙ rest.2 ∙ ap (λ (k : ℕ). Some (get_or (t ∷ ts) k 0)) {x = suc (r - (n + 1))} {y = r - n} (omega arith))
  | inr off ↦
      let rest = numbers_at_from test (n + 1) (suc i) r ts (sym (ap (λ (l : List ℕ). slice_get l (suc i)) (numbers_off test n t ts off)) ∙ at) in
      (omega arith, omega arith, ap (λ (l : List ℕ). slice_get l (suc i)) (filter_off test t ts off) ∙ rest.2 ∙ ap (λ (k : ℕ). Some (get_or (t ∷ ts) k 0)) {x = suc (r - (n + 1))} {y = r - n} (omega arith))
]

-- the same where they are counted from 1
pub numbers_at : (test : ℕ → Bool) (i r : ℕ) (ts : List ℕ) → slice_get (numbers_of test 1 ts) i ≡ Some r
    → (0 < r) × (r - 1 < length ts) × (slice_get (filter test ts) i ≡ Some (get_or ts (r - 1) 0))
numbers_at test i r ts at = let all = numbers_at_from test 1 i r ts at in (omega arith, all.1, all.2)
