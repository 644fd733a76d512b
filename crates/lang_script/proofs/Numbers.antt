-- When digits are a number's decimal text.
use Rattle.std.proofs.Common.{◌≡◌, subst, refl, rules, ℕ, ◌<◌, ◌^◌, Bool, true, false, ◌&&◌, inl, inr, List, length, Some, None, Err, decimal, nat_lt, bytes_eq}
use Rattle.std.specs.Prelude.{if◌then◌else◌}
use Rattle.std.proofs.lemmas.Bool.{cases_Bool, and_parts}
use Rattle.std.proofs.lemmas.Bool.Decides.{Decides-ltb}
use Rattle.std.proofs.lemmas.Slice.Eq.{bytes_eq-Decides}
use Rattle.std.proofs.lemmas.Fmt.{decimal_nonempty, digits_decimal, digits_value-decimal, IsAscii-from_digits}
use Rattle.std.proofs.lemmas.Str.{IsUtf8-from_ascii}
use Rattle.std.proofs.lemmas.Str.Parse.{parse_digits}
use Rattle.std.specs.Char.{is_ascii_digit}
use Rattle.std.specs.List.{list_all}
use Rattle.std.specs.Str.{IsUtf8}
use Rattle.std.specs.Str.Parse.{digits_value, ParsesUnsigned}
use Rattle.lang_script.specs.Shared.{own}
use Rattle.lang_script.specs.Decimal.{number_of}

-- digits alone are text
pub digits_are_text : (text : List ℕ) → list_all is_ascii_digit text ≡ true → IsUtf8 text
digits_are_text text h = IsUtf8-from_ascii text (IsAscii-from_digits text (own.to text h))

-- a number's decimal text is read as the number
pub reads : (n : ℕ) → n < 2 ^ 64 → number_of (decimal n) ≡ Some n
reads n small =
    let digits = digits_decimal own n small in
    let value = digits_value-decimal own n small in
    let same = (bytes_eq-Decides (decimal n) (decimal n)).1 refl in
    let low = (Decides-ltb n (2 ^ 64)).1 small in
    rw digits (rw value (rw low (rw same refl)))

-- what is read as a number is its decimal text
pub is_read : (text : List ℕ) (n : ℕ) → number_of text ≡ Some n → (decimal n ≡ text) × (n < 2 ^ 64)
is_read text n h = go (list_all is_ascii_digit text && (nat_lt (digits_value 10 text) (2 ^ 64) && bytes_eq (decimal (digits_value 10 text)) text)) refl h
  where
    go : (b : Bool) → (list_all is_ascii_digit text && (nat_lt (digits_value 10 text) (2 ^ 64) && bytes_eq (decimal (digits_value 10 text)) text)) ≡ b
        → (if b then Some (digits_value 10 text) else None) ≡ Some n → (decimal n ≡ text) × (n < 2 ^ 64)
    go true e f =
        let parts = and_parts _ _ (and_parts _ _ e).1 in
        let same : digits_value 10 text ≡ n = cc f in
        (subst (λ k. decimal k ≡ text) same ((bytes_eq-Decides _ _).0 parts.1), subst (λ k. k < 2 ^ 64) same ((Decides-ltb _ _).0 parts.0))
    go false e f = cc f

-- digits alone that the standard library doesn't read are no number's text
pub not_read : {E : Type 0} (text : List ℕ) (why : E) → ParsesUnsigned 64 10 text (Err why)
    → list_all is_ascii_digit text ≡ true → None ≡ number_of text
not_read text why h digits = elim (cases_Bool (nat_lt (digits_value 10 text) (2 ^ 64) && bytes_eq (decimal (digits_value 10 text)) text)) [
  | inl passed ↦
      let parts = and_parts _ _ passed in
      let small : digits_value 10 text < 2 ^ 64 = (Decides-ltb _ _).0 parts.0 in
      let same : decimal (digits_value 10 text) ≡ text = (bytes_eq-Decides _ _).0 parts.1 in
      let some : 0 < length (decimal (digits_value 10 text)) = decimal_nonempty _ small in
      absurd (parse_digits own 64 text (Err why) h digits (rw same at some, small))
  | inr off ↦ search (rules, off, digits)
]
