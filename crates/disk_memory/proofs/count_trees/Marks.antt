-- The numbers whose leaf is 1: how they change with a leaf, which they are, and how many.
use Rattle.std.proofs.Common.{◌≡◌, ◌≢◌, ℕ, zero, suc, ◌+◌, ◌<◌, ◌⊎◌, inl, inr, ◌==◌, Bool, true, false, not, ◌||◌, ◌&&◌, if◌then◌else◌, List, [], ◌∷◌, ◌++◌, length, refl, sym, ap, ap₂, ◌∙◌, arith}
use Rattle.std.specs.Prelude.{Some, slice_index}
use Rattle.std.specs.List.{filter, list_any, slice_get}
use Rattle.std.proofs.Math.Bool.{or-false, and-false, and-true}
use Rattle.std.proofs.lemmas.Bool.{cases_eq, eq-eqb, ne_eqb, cond-true, cond-false, or_parts}
use Rattle.std.proofs.lemmas.List.{append-nil, length-append}
use Rattle.std.proofs.lemmas.List.Elements.{filter-append}
use Rattle.std.proofs.lemmas.List.Folds.{list_any-append}
use Rattle.disk_memory.proofs.log_rows.Events.{get_before, get_next}
use Rattle.disk_memory.specs.Counts.{marked, sum_from, AreMarks}

marked_on : (counts : List ℕ) (size n : ℕ) → slice_index counts (size + n) ≡ 1 → marked counts size (suc n) ≡ marked counts size n ++ (n + 1) ∷ []
marked_on counts size n on =
    cond-true (slice_index counts (size + n) == 1) (marked counts size n ++ (n + 1) ∷ []) (marked counts size n) (eq-eqb _ _ on)

marked_off : (counts : List ℕ) (size n : ℕ) → slice_index counts (size + n) ≡ 0 → marked counts size (suc n) ≡ marked counts size n
marked_off counts size n off =
    cond-false (slice_index counts (size + n) == 1) (marked counts size n ++ (n + 1) ∷ []) (marked counts size n) (ne_eqb _ _ (λ on. omega arith))

on_or_off : (counts : List ℕ) (size n : ℕ) → AreMarks counts size → (slice_index counts (size + n) ≡ 1) ⊎ (slice_index counts (size + n) ≡ 0)
on_or_off counts size n marks = elim (cases_eq (slice_index counts (size + n)) 1) [ inl on ↦ inl on | inr off ↦ inr (omega (arith, marks n)) ]

-- the same leaves, the same numbers
pub marked_same : (old new : List ℕ) (size n : ℕ) → ((k : ℕ) → k < n → slice_index new (size + k) ≡ slice_index old (size + k)) → marked new size n ≡ marked old size n
marked_same old new size zero same = refl
marked_same old new size (suc n) same =
    let rest = marked_same old new size n (λ k below. same k (omega arith)) in
    ap₂ (λ (leaf : ℕ) (xs : List ℕ). if leaf == 1 then xs ++ (n + 1) ∷ [] else xs) (same n (omega arith)) rest

-- the leaf of the next number becomes 1
pub marked_next : (old new : List ℕ) (size n : ℕ) → ((k : ℕ) → k ≢ n → slice_index new (size + k) ≡ slice_index old (size + k)) → slice_index new (size + n) ≡ 1 → marked new size (n + 1) ≡ marked old size n ++ (n + 1) ∷ []
marked_next old new size n others on =
    ap (marked new size) {x = n + 1} {y = suc n} (omega arith) ∙ marked_on new size n on ∙ ap (λ xs. xs ++ (n + 1) ∷ []) (marked_same old new size n (λ k below. others k (λ e. omega arith)))

kept_one : (number k : ℕ) → k ≢ number → filter (λ member. not (member == number)) (k ∷ []) ≡ k ∷ []
kept_one number k apart = ap (λ (b : Bool). if not b then k ∷ [] else []) (ne_eqb k number apart)

gone_one : (number k : ℕ) → k ≡ number → filter (λ member. not (member == number)) (k ∷ []) ≡ []
gone_one number k same = ap (λ (b : Bool). if not b then k ∷ [] else []) (eq-eqb k number same)

-- the leaf of a number becomes 0
pub marked_without : (old new : List ℕ) (size leaf n : ℕ) → AreMarks old size → ((k : ℕ) → k ≢ leaf → slice_index new (size + k) ≡ slice_index old (size + k)) → slice_index new (size + leaf) ≡ 0 → marked new size n ≡ filter (λ member. not (member == leaf + 1)) (marked old size n)
marked_without old new size leaf zero marks others off = refl
marked_without old new size leaf (suc n) marks others off =
    let keep : ℕ → Bool = λ member. not (member == leaf + 1) in
    let rest = marked_without old new size leaf n marks others off in
    elim (cases_eq n leaf) [
      | inl here ↦
          let gone = marked_off new size n (ap (λ k. slice_index new (size + k)) here ∙ off) ∙ rest in
          elim (on_or_off old size n marks) [
            | inl on ↦ gone ∙ sym (
                ap (filter keep) (marked_on old size n on) ∙ filter-append keep (marked old size n) ((n + 1) ∷ [])
                ∙ ap (λ xs. filter keep (marked old size n) ++ xs) (gone_one (leaf + 1) (n + 1) (omega arith)) ∙ append-nil (filter keep (marked old size n))
                )
            | inr was_off ↦ gone ∙ sym (ap (filter keep) (marked_off old size n was_off))
          ]
      | inr apart ↦
          elim (on_or_off old size n marks) [
            | inl on ↦ marked_on new size n (others n apart ∙ on) ∙ ap (λ xs. xs ++ (n + 1) ∷ []) rest ∙ sym (
                ap (filter keep) (marked_on old size n on) ∙ filter-append keep (marked old size n) ((n + 1) ∷ [])
                ∙ ap (λ xs. filter keep (marked old size n) ++ xs) (kept_one (leaf + 1) (n + 1) (λ e. apart (omega arith)))
                )
            | inr was_off ↦ marked_off new size n (others n apart ∙ was_off) ∙ rest ∙ sym (ap (filter keep) (marked_off old size n was_off))
          ]
    ]

-- whether a number is among one more of them
any_step : (counts : List ℕ) (size n number : ℕ) → list_any (λ member. member == number) (marked counts size (suc n)) ≡ (list_any (λ member. member == number) (marked counts size n) || ((slice_index counts (size + n) == 1) && ((n + 1) == number)))
any_step counts size n number = by (slice_index counts (size + n) == 1)
  where
    before : List ℕ
    before = marked counts size n

    by : (on : Bool) → list_any (λ member. member == number) (if on then before ++ (n + 1) ∷ [] else before) ≡ (list_any (λ member. member == number) before || (on && ((n + 1) == number)))
    by true = list_any-append (λ member. member == number) before ((n + 1) ∷ []) ∙ ap (λ (v : Bool). list_any (λ member. member == number) before || v) (or-false ((n + 1) == number))
    by false = sym (or-false (list_any (λ member. member == number) before))

-- 0 and what lies above n are none of the numbers from 1 to n
pub none_marked : (counts : List ℕ) (size n number : ℕ) → AreMarks counts size → (k : ℕ) → ((number ≡ 0) ⊎ (n < number)) → list_any (λ member. member == number) (marked counts size n) ≡ false
none_marked counts size zero number marks k out = refl
none_marked counts size (suc n) number marks k out =
    let rest = none_marked counts size n number marks k (elim out [ inl least ↦ inl least | inr above ↦ inr (omega arith) ]) in
    let apart : n + 1 ≢ number = elim out [ inl least ↦ (λ e. omega arith) | inr above ↦ (λ e. omega arith) ] in
    any_step counts size n number ∙ ap₂ (λ (a b : Bool). a || ((slice_index counts (size + n) == 1) && b)) rest (ne_eqb (n + 1) number apart) ∙ and-false (slice_index counts (size + n) == 1)

-- a number is among them where its leaf is 1
pub any_marked : (counts : List ℕ) (size leaf n : ℕ) → AreMarks counts size → leaf < n → list_any (λ member. member == leaf + 1) (marked counts size n) ≡ (slice_index counts (size + leaf) == 1)
any_marked counts size leaf zero marks below = absurd (omega arith)
any_marked counts size leaf (suc n) marks below = any_step counts size n (leaf + 1) ∙ elim (cases_eq n leaf) [
  | inl here ↦
      ap₂ (λ (a b : Bool). a || ((slice_index counts (size + n) == 1) && b)) (none_marked counts size n (leaf + 1) marks 0 (inr (omega arith))) (eq-eqb (n + 1) (leaf + 1) (omega arith))
      ∙ and-true (slice_index counts (size + n) == 1) ∙ ap (λ k. slice_index counts (size + k) == 1) here
  | inr apart ↦
      ap₂ (λ (a b : Bool). a || ((slice_index counts (size + n) == 1) && b)) (any_marked counts size leaf n marks (omega arith)) (ne_eqb (n + 1) (leaf + 1) (λ e. apart (omega arith)))
      ∙ ap (λ (v : Bool). (slice_index counts (size + leaf) == 1) || v) (and-false (slice_index counts (size + n) == 1)) ∙ or-false (slice_index counts (size + leaf) == 1)
]

-- where a number is none of a list, taking it out changes nothing
pub filter_none : (number : ℕ) (xs : List ℕ) → list_any (λ member. member == number) xs ≡ false → filter (λ member. not (member == number)) xs ≡ xs
filter_none number [] none = refl
filter_none number (x ∷ xs) none =
    let parts = or_parts (x == number) (list_any (λ member. member == number) xs) none in
    ap₂ (λ (b : Bool) (ys : List ℕ). if not b then x ∷ ys else ys) parts.0 (filter_none number xs parts.1)

-- how many there are
pub length_marked : (counts : List ℕ) (size n : ℕ) → AreMarks counts size → length (marked counts size n) ≡ sum_from counts size n
length_marked counts size zero marks = refl
length_marked counts size (suc n) marks =
    let rest = length_marked counts size n marks in
    elim (on_or_off counts size n marks) [
      | inl on ↦ ap length (marked_on counts size n on) ∙ length-append (marked counts size n) ((n + 1) ∷ []) ∙ omega (arith, rest, on)
      | inr off ↦ ap length (marked_off counts size n off) ∙ omega (arith, rest, off)
    ]

-- a number stands among them behind as many as have a leaf before its own
pub marked_at : (counts : List ℕ) (size leaf n : ℕ) → AreMarks counts size → slice_index counts (size + leaf) ≡ 1 → leaf < n → slice_get (marked counts size n) (sum_from counts size leaf) ≡ Some (leaf + 1)
marked_at counts size leaf zero marks on below = absurd (omega arith)
marked_at counts size leaf (suc n) marks on below =
    let place = sum_from counts size leaf in
    elim (cases_eq n leaf) [
      | inl here ↦
          let count : place ≡ length (marked counts size n) = ap (sum_from counts size) (sym here) ∙ sym (length_marked counts size n marks) in
          ap₂ (λ (xs : List ℕ) (k : ℕ). slice_get xs k) (marked_on counts size n (ap (λ k. slice_index counts (size + k)) here ∙ on)) count
          ∙ get_next (marked counts size n) (n + 1) [] ∙ ap (λ k. Some (k + 1)) here
      | inr apart ↦
          let rest = marked_at counts size leaf n marks on (omega arith) in
          elim (on_or_off counts size n marks) [
            | inl more ↦ ap (λ xs. slice_get xs place) (marked_on counts size n more) ∙ get_before (marked counts size n) ((n + 1) ∷ []) place (leaf + 1) rest
            | inr off ↦ ap (λ xs. slice_get xs place) (marked_off counts size n off) ∙ rest
          ]
    ]
