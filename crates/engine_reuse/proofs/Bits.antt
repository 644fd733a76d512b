-- One bit of a row of words is written, and the first that is set is found.
use Rattle.std.proofs.Common.{◌≡◌, ◌≢◌, ℕ, ◌+◌, ◌-◌, ◌/◌, ◌%◌, ◌^◌, ◌<◌, ◌≤◌, ◌==◌, ◌&&◌, ◌||◌, not, inl, inr, List, length, slice_index, slice_set, sym, ap, ◌∙◌, arith}
use Rattle.std.proofs.Math.Nat.{div-div-eq-div-mul}
use Rattle.std.proofs.lemmas.Bool.{cases_eq, cases_lt, eq-eqb, ne_eqb}
use Rattle.std.proofs.lemmas.List.{get_or-set_same, get_or-set_other}
use Rattle.std.proofs.lemmas.Nat.{pow-add}
use Rattle.std.proofs.lemmas.Nat.Bits.{bit_at-zero, bit_at_above}
use Rattle.std.specs.Int.{bit_at}
use Rattle.engine_reuse.specs.Words.{has_bit}

-- a number whose word wasn't written, or whose bit of the word is as before, is in the row as before
pub others_stay : (words : List ℕ) (b v : ℕ) → b / 64 < length words → ((i : ℕ) → i < 64 → i ≢ b % 64 → bit_at v i ≡ bit_at (slice_index words (b / 64)) i)
    → (c : ℕ) → c ≢ b → has_bit (slice_set words (b / 64) v) c ≡ has_bit words c
others_stay words b v low others c apart = elim (cases_eq (c / 64) (b / 64)) [
  | inl e ↦
      ap (λ w. bit_at (slice_index (slice_set words (b / 64) v) w) (c % 64) == 1) e
      ∙ ap (λ x. bit_at x (c % 64) == 1) (get_or-set_same words (b / 64) v 0 low)
      ∙ ap (λ x. x == 1) (others (c % 64) (omega arith) (λ same. apart (omega (arith, same, e))))
      ∙ ap (λ w. bit_at (slice_index words w) (c % 64) == 1) (sym e)
  | inr d ↦ ap (λ x. bit_at x (c % 64) == 1) (get_or-set_other words (b / 64) (c / 64) v 0 d)
]

-- and the number itself has the bit that was written
pub own_becomes : (words : List ℕ) (b v bit : ℕ) → b / 64 < length words → bit_at v (b % 64) ≡ bit → has_bit (slice_set words (b / 64) v) b ≡ (bit == 1)
own_becomes words b v bit low is = ap (λ x. bit_at x (b % 64) == 1) (get_or-set_same words (b / 64) v 0 low) ∙ ap (λ x. x == 1) is

pub bit_was_set : (words : List ℕ) (b v : ℕ) → b / 64 < length words → bit_at v (b % 64) ≡ 1 → ((i : ℕ) → i < 64 → i ≢ b % 64 → bit_at v i ≡ bit_at (slice_index words (b / 64)) i)
    → (c : ℕ) → has_bit (slice_set words (b / 64) v) c ≡ (c == b || has_bit words c)
bit_was_set words b v low is others c = elim (cases_eq c b) [
  | inl e ↦ ap (has_bit (slice_set words (b / 64) v)) e ∙ own_becomes words b v 1 low is ∙ ap (λ t. t || has_bit words c) (sym (eq-eqb c b e))
  | inr d ↦ others_stay words b v low others c d ∙ ap (λ t. t || has_bit words c) (sym (ne_eqb c b d))
]

pub bit_was_cleared : (words : List ℕ) (b v : ℕ) → b / 64 < length words → bit_at v (b % 64) ≡ 0 → ((i : ℕ) → i < 64 → i ≢ b % 64 → bit_at v i ≡ bit_at (slice_index words (b / 64)) i)
    → (c : ℕ) → has_bit (slice_set words (b / 64) v) c ≡ (not (c == b) && has_bit words c)
bit_was_cleared words b v low is others c = elim (cases_eq c b) [
  | inl e ↦ ap (has_bit (slice_set words (b / 64) v)) e ∙ own_becomes words b v 0 low is ∙ ap (λ t. not t && has_bit words c) (sym (eq-eqb c b e))
  | inr d ↦ others_stay words b v low others c d ∙ ap (λ t. not t && has_bit words c) (sym (ne_eqb c b d))
]

-- a bit of a word that was shifted down
shifted : (word k i : ℕ) → bit_at (word / 2 ^ k) i ≡ bit_at word (k + i)
shifted word k i = ap (λ x. x % 2) (div-div-eq-div-mul word (2 ^ k) (2 ^ i) ∙ ap (λ d. word / d) (sym (pow-add 2 k i)))

-- a word without bits from bit k on
pub none_from_zero : (word k i : ℕ) → word / 2 ^ k ≡ 0 → k ≤ i → bit_at word i ≡ 0
none_from_zero word k i zero_is low =
    ap (bit_at word) {x = i} {y = k + (i - k)} (omega (arith, low)) ∙ sym (shifted word k (i - k)) ∙ ap (λ x. bit_at x (i - k)) zero_is ∙ bit_at-zero (i - k)

-- the first bit from bit k on that is set
pub record IsNextBit (word k j : ℕ) : Type 0 where
  pub low : k ≤ j
  pub within : j < 64
  pub set : bit_at word j ≡ 1
  pub before : (i : ℕ) → k ≤ i → i < j → bit_at word i ≡ 0

-- a bit from 64 on is none of a word's
bits_end : (word j : ℕ) → word < 2 ^ 64 → bit_at word j ≡ 1 → j < 64
bits_end word j fits is = elim (cases_lt j 64) [
  | inl l ↦ l
  | inr h ↦ absurd (omega (arith, is, bit_at_above word 64 j fits h))
]

-- the first bit of the word that was shifted down
pub next_bit : (word k j : ℕ) → word < 2 ^ 64 → bit_at (word / 2 ^ k) j ≡ 1 → ((i : ℕ) → i < j → bit_at (word / 2 ^ k) i ≡ 0) → IsNextBit word k (k + j)
next_bit word k j fits is first = record {
  low = omega arith;
  within = bits_end word (k + j) fits here;
  set = here;
  before = λ i low below. ap (bit_at word) {x = i} {y = k + (i - k)} (omega (arith, low)) ∙ sym (shifted word k (i - k)) ∙ first (i - k) (omega (arith, low, below));
}
  where
    here : bit_at word (k + j) ≡ 1
    here = sym (shifted word k j) ∙ is
