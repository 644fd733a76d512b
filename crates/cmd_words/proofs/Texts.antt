-- Which numbers texts write, and which of them the standard library reads.
use Rattle.std.proofs.Common.{◌≡◌, ◌<◌, ◌≤◌, ◌^◌, ℕ, Bool, true, false, List, length, Some, None, refl, sym, ap, subst, ◌∙◌, arith, decimal, bytes_eq}
use Rattle.std.specs.Prelude.{Ok, Err, IfSome, ◌&&◌, nat_lt, nat_le, if◌then◌else◌}
use Rattle.std.specs.Str.{all_ascii_digits}
use Rattle.std.specs.Str.Parse.{ParsesUnsigned, digits_value, without_leading_plus}
use Rattle.std.proofs.lemmas.Str.Parse.{IsNumeralModel, numerals_by_value, parse_digits, tells_all_ascii_digits}
use Rattle.std.proofs.lemmas.Bool.{and_parts, lt-ltb, le-leb, ltb-true, leb-true}
use Rattle.std.proofs.lemmas.Slice.Eq.{bytes_eq-Decides}
use Rattle.std.proofs.lemmas.Fmt.{decimal_is_IsNumeral, decimal_nonempty, digits_decimal}
use Rattle.cmd_words.specs.Words.{number_in, seed_of}

-- ---- numbers in their range

-- the digits behind a plus sign, and their number
abbrev value_of : List ℕ → ℕ
value_of t = digits_value 10 (without_leading_plus t)

-- the test of the definition
abbrev is_number_in : ℕ → ℕ → List ℕ → Bool
is_number_in low high t =
    (nat_lt 0 (length (without_leading_plus t)) && all_ascii_digits (without_leading_plus t))
    && (nat_le low (value_of t) && nat_le (value_of t) high)

own : IsNumeralModel (λ ds. all_ascii_digits ds ≡ true) (digits_value 10)
own = numerals_by_value _ tells_all_ascii_digits

-- a text of digits is read as their number
abbrev Reads : List ℕ → ℕ → Type 0
Reads t n = ParsesUnsigned {E = ℕ} 32 10 t (Ok n)

-- what is read and lies in the range
pub number_read : (low high n : ℕ) (t : List ℕ) → Reads t n → low ≤ n → n ≤ high → Some n ≡ number_in low high t
number_read low high n t read least most =
    let same : n ≡ value_of t = read.1 in
    let low_ok : low ≤ value_of t = subst (λ k. low ≤ k) same least in
    let high_ok : value_of t ≤ high = subst (λ k. k ≤ high) same most in
    rw (lt-ltb _ _ read.0.0.0, own.from _ read.0.0.1, le-leb _ _ low_ok, le-leb _ _ high_ok) (ap (λ k. Some k) same)

-- what isn't read at all
no_number : (low high : ℕ) (t : List ℕ) → (is_number_in low high t ≡ true → ⊥) → None ≡ number_in low high t
no_number low high t never = elim (is_number_in low high t) as (λ b. is_number_in low high t ≡ b → None ≡ (if b then Some (value_of t) else None)) [ true ↦ λ e. absurd (never e) | false ↦ λ e. refl ] refl

pub number_not_read : {E : Type 0} (low high : ℕ) (t : List ℕ) (why : E) → ParsesUnsigned 32 10 t (Err why) → high < 2 ^ 32 → None ≡ number_in low high t
number_not_read low high t why read small = no_number low high t (λ e.
    let parts = and_parts _ _ e in
    let text = and_parts _ _ parts.0 in
    let most : value_of t ≤ high = leb-true _ _ (and_parts _ _ parts.1).1 in
    read ((ltb-true _ _ text.0, own.to _ text.1), omega (arith, most, small)))

-- a number is in its range
pub number_range : (low high : ℕ) (t : List ℕ) → IfSome (number_in low high t) (λ n. (low ≤ n) × (n ≤ high))
number_range low high t = elim (is_number_in low high t) as (λ b. is_number_in low high t ≡ b → IfSome (if b then Some (value_of t) else None) (λ n. (low ≤ n) × (n ≤ high))) [
  | true ↦ λ e. let range = and_parts _ _ (and_parts _ _ e).1 in (leb-true _ _ range.0, leb-true _ _ range.1)
  | false ↦ λ e. tt
] refl

-- ---- seeds

abbrev is_seed : List ℕ → Bool
is_seed t = bytes_eq (decimal (digits_value 10 t)) t && (nat_le 1 (digits_value 10 t) && nat_le (digits_value 10 t) 4294967295)

pub seed_read : (t : List ℕ) (n : ℕ) → decimal n ≡ t → 1 ≤ n → n < 2 ^ 32 → Some n ≡ seed_of t
seed_read t n text some small = go (digits_value 10 t) (ap (digits_value 10) (sym text) ∙ (decimal_is_IsNumeral n (omega arith)).1)
  where
    go : (v : ℕ) → v ≡ n → Some n ≡ (if bytes_eq (decimal v) t && (nat_le 1 v && nat_le v 4294967295) then Some v else None)
    go v is = subst (λ k. Some n ≡ (if bytes_eq (decimal k) t && (nat_le 1 k && nat_le k 4294967295) then Some k else None)) (sym is)
        (rw ((bytes_eq-Decides (decimal n) t).1 text, le-leb 1 n some, le-leb n 4294967295 (omega arith)) refl)

no_seed : (t : List ℕ) → ((v : ℕ) → decimal v ≡ t → 1 ≤ v → v < 2 ^ 32 → ⊥) → None ≡ seed_of t
no_seed t never = elim (is_seed t) as (λ b. is_seed t ≡ b → None ≡ (if b then Some (digits_value 10 t) else None)) [
  | true ↦ λ e. let parts = and_parts _ _ e in let range = and_parts _ _ parts.1 in absurd (never (digits_value 10 t) ((bytes_eq-Decides _ _).0 parts.0) (leb-true _ _ range.0) (omega (arith, leb-true _ _ range.1)))
  | false ↦ λ e. refl
] refl

-- the decimal text of a number is read as that number
reads_decimal : (t : List ℕ) (n v : ℕ) → Reads t n → decimal v ≡ t → v < 2 ^ 32 → n ≡ v
reads_decimal t n v read text small =
    let wide : v < 2 ^ 64 = omega (arith, small) in
    (parse_digits own {E = ℕ} 32 (decimal v) (Ok n) (subst (λ u. Reads u n) (sym text) read) (digits_decimal own v wide)).1 ∙ (decimal_is_IsNumeral v wide).1

-- what is read and isn't its decimal text, or is below 1
pub no_seed_read : (t : List ℕ) (n : ℕ) → Reads t n → (decimal n ≡ t → 1 ≤ n → ⊥) → None ≡ seed_of t
no_seed_read t n read never = no_seed t (λ v text some small.
    let same : n ≡ v = reads_decimal t n v read text small in
    never (subst (λ k. decimal k ≡ t) (sym same) text) (subst (λ k. 1 ≤ k) (sym same) some))

pub seed_not_read : {E : Type 0} (t : List ℕ) (why : E) → ParsesUnsigned 32 10 t (Err why) → None ≡ seed_of t
seed_not_read t why read = no_seed t (λ v text some small.
    let wide : v < 2 ^ 64 = omega (arith, small) in
    let same : digits_value 10 (decimal v) ≡ v = (decimal_is_IsNumeral v wide).1 in
    parse_digits own 32 (decimal v) (Err why) (subst (λ u. ParsesUnsigned 32 10 u (Err why)) (sym text) read) (digits_decimal own v wide)
    (decimal_nonempty v wide, subst (λ k. k < 2 ^ 32) (sym same) small))

-- a seed is in its range
pub seed_range : (t : List ℕ) → IfSome (seed_of t) (λ n. (1 ≤ n) × (n ≤ 4294967295))
seed_range t = elim (is_seed t) as (λ b. is_seed t ≡ b → IfSome (if b then Some (digits_value 10 t) else None) (λ n. (1 ≤ n) × (n ≤ 4294967295))) [
  | true ↦ λ e. let range = and_parts _ _ (and_parts _ _ e).1 in (leb-true _ _ range.0, leb-true _ _ range.1)
  | false ↦ λ e. tt
] refl
