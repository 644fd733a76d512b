-- Where a blank parts a text.
use Rattle.std.proofs.Common.{◌≡◌, sym, ap, refl, ◌∙◌, add-one, take-append-drop, arith, tests, ℕ, ◌+◌, ◌<◌, ◌^◌, Bool, true, not, List, [], ◌∷◌, ◌++◌, take, drop, get_or, length, decimal, Option, Some, None}
use Rattle.std.specs.Prelude.{◌-◌, option_map}
use Rattle.std.specs.List.{list_all, position_or_len, position}
use Rattle.std.specs.Char.{is_ascii_digit}
use Rattle.std.proofs.lemmas.Bool.{and_parts, le-ltb}
use Rattle.std.proofs.lemmas.Bool.Decides.{Decides-ltb}
use Rattle.std.proofs.lemmas.Fmt.{digits_decimal}
use Rattle.std.proofs.lemmas.List.{take_all, length-append, length-drop}
use Rattle.std.proofs.lemmas.List.Quantifiers.{position-Some}
use Rattle.std.proofs.Math.Seq.{drop-append-add, drop-cons, take-append_seam}
use Rattle.lang_script.specs.Shared.{own, weaker}
use Rattle.cmd_trace.specs.ReadFields.{is_blank, parts_at, cut}

-- whether a byte is no blank
abbrev pub is_dark : ℕ → Bool
is_dark b = not (is_blank b)

blank_behind : (xs ys : List ℕ) → list_all is_dark xs ≡ true → position_or_len is_blank (xs ++ 32 ∷ ys) ≡ length xs
blank_behind [] ys h = refl
blank_behind (x ∷ xs) ys h =
    let parts = and_parts (is_dark x) (list_all is_dark xs) h in
    rw parts.0 (omega (arith, blank_behind xs ys parts.1))

length_more : (xs ys : List ℕ) (y : ℕ) → length xs < length (xs ++ y ∷ ys)
length_more xs ys y = omega (arith, length-append xs (y ∷ ys))

-- a text that goes on behind a blank
pub cut_at : (xs ys : List ℕ) → list_all is_dark xs ≡ true → cut (xs ++ 32 ∷ ys) ≡ Some (xs, ys)
cut_at xs ys h =
    let at = blank_behind xs ys h in
    let low = (Decides-ltb (length xs) (length (xs ++ 32 ∷ ys))).1 (length_more xs ys 32) in
    rw at (rw low (rw (take-append_seam xs (32 ∷ ys)) (rw (drop-append-add xs (32 ∷ ys) 1) refl)))

no_blank : (xs : List ℕ) → list_all is_dark xs ≡ true → position_or_len is_blank xs ≡ length xs
no_blank [] h = refl
no_blank (x ∷ xs) h =
    let parts = and_parts (is_dark x) (list_all is_dark xs) h in
    rw parts.0 (omega (arith, no_blank xs parts.1))

-- a text without a blank
no_cut : (xs : List ℕ) → list_all is_dark xs ≡ true → cut xs ≡ None
no_cut xs h = rw (no_blank xs h) (rw (le-ltb (length xs) (length xs) (omega arith)) refl)

-- a list around one of its places
split_place : (xs : List ℕ) (i : ℕ) → i < length xs → xs ≡ take i xs ++ (get_or xs i 0 ∷ drop (i + 1) xs)
split_place xs i low = rw add-one (sym (take-append-drop i xs) ∙ ap (λ l. take i xs ++ l) (drop-cons xs i 0 low))

blank_is : (b : ℕ) → is_blank b ≡ true → b ≡ 32
blank_is b h = grind (arith, tests, h)

placed : (text : List ℕ) (o : Option ℕ) (x : List ℕ × List ℕ) → option_map (parts_at text) o ≡ Some x → (i : ℕ) × (o ≡ Some i) × (parts_at text i ≡ x)
placed text (Some i) x h = (i, refl, cc h)
placed text None x h = cc h

-- what was cut goes on behind a blank
pub cut_is : (text xs ys : List ℕ) → cut text ≡ Some (xs, ys) → text ≡ xs ++ 32 ∷ ys
cut_is text xs ys h =
    let found = placed text (position is_blank text) (xs, ys) h in
    let there = position-Some is_blank text found.0 0 found.1 in
    let front : take found.0 text ≡ xs = ap (λ (p : List ℕ × List ℕ). p.0) found.2 in
    let back : drop (found.0 + 1) text ≡ ys = ap (λ (p : List ℕ × List ℕ). p.1) found.2 in
    split_place text found.0 there.0 ∙ ap (λ b. take found.0 text ++ (b ∷ drop (found.0 + 1) text)) (blank_is (get_or text found.0 0) there.1)
    ∙ ap (λ l. l ++ 32 ∷ drop (found.0 + 1) text) front ∙ ap (λ l. xs ++ 32 ∷ l) back

-- all of what is behind a place
pub drop_whole : (xs : List ℕ) (k : ℕ) → take (length xs - k) (drop k xs) ≡ drop k xs
drop_whole xs k = take_all (length xs - k) (drop k xs) (omega (arith, length-drop k xs))

-- ---- numbers have no blank

digit_is_dark : (b : ℕ) → is_ascii_digit b ≡ true → is_dark b ≡ true
digit_is_dark b h = grind (arith, tests)

pub number_is_dark : (n : ℕ) → n < 2 ^ 64 → list_all is_dark (decimal n) ≡ true
number_is_dark n low = weaker is_ascii_digit is_dark digit_is_dark (decimal n) (digits_decimal own n low)

-- a number alone
pub number_alone : (n : ℕ) → n < 2 ^ 64 → cut (decimal n) ≡ None
number_alone n low = no_cut (decimal n) (number_is_dark n low)

-- a number and what stands behind a blank
pub number_at : (n : ℕ) (ys : List ℕ) → n < 2 ^ 64 → cut (decimal n ++ 32 ∷ ys) ≡ Some (decimal n, ys)
number_at n ys low = cut_at (decimal n) ys (number_is_dark n low)
