-- Lists of lines: where a line ends, and which fronts their text has.
use Rattle.std.proofs.Common.{◌≡◌, sym, ap, ap₂, refl, ◌∙◌, arith, tests, ℕ, zero, suc, ◌<◌, ◌^◌, ◌/◌, ◌%◌, ◌==◌, true, false, not, List, [], ◌∷◌, ◌++◌, length, get_or, drop, decimal, slice_index, nat_lt, append_assoc}
use Rattle.std.specs.Prelude.{slice_index_or}
use Rattle.std.specs.Char.{is_ascii_digit}
use Rattle.std.proofs.lemmas.Bool.{and_parts, false≢true, and_right}
use Rattle.std.proofs.lemmas.Fmt.{digits_decimal}
use Rattle.std.proofs.lemmas.List.{append-nil}
use Rattle.std.proofs.lemmas.List.Sums.{AllPass-from_list_all}
use Rattle.hex.specs.Hex.{encode_lower, encode_with, lower_digits}
use Rattle.disk_contract.specs.Lawful.{IsBlock}
use Rattle.lang_script.specs.Values.{has_no_feed}
use Rattle.cmd_trace.specs.Contents.{Each}
use Rattle.cmd_trace.specs.ReadsAs.{fed}
use Rattle.cmd_trace.specs.Shared.{each_append}
use Rattle.lang_script.specs.Shared.{own, weaker}
use Rattle.cmd_trace_reader.specs.Traces.{is_line, AreLines, text_of_lines}

-- ---- lists

pub each_push : {A : Type 0} (P : A → Type 0) (xs : List A) (x : A) → Each P xs → P x → Each P (xs ++ x ∷ [])
each_push P xs x h k = each_append P xs (x ∷ []) h (k, tt)

-- ---- where a line ends

pub fed_before : (line r : List ℕ) → fed line ++ r ≡ line ++ 10 ∷ r
fed_before line r = append_assoc line (10 ∷ []) r

no_feed : (b : ℕ) (line : List ℕ) → is_line (b ∷ line) ≡ true → b ≡ 10 → ⊥
no_feed b line h e = go (and_parts (not (b == 10)) (is_line line) h).0 (grind (arith, tests, e))
  where
    go : not (b == 10) ≡ true → (b == 10) ≡ true → ⊥
    go k same = false≢true (ap not (sym same) ∙ k)

cut_at : (a b r s : List ℕ) → is_line a ≡ true → is_line b ≡ true → a ++ 10 ∷ r ≡ b ++ 10 ∷ s → (a ≡ b) × (r ≡ s)
cut_at [] [] r s h k e = (refl, ap (drop 1) e)
cut_at [] (y ∷ b) r s h k e = absurd (no_feed y b k (sym (ap (λ l. get_or l 0 0) e)))
cut_at (x ∷ a) [] r s h k e = absurd (no_feed x a h (ap (λ l. get_or l 0 0) e))
cut_at (x ∷ a) (y ∷ b) r s h k e =
    let rest = cut_at a b r s (and_parts (not (x == 10)) (is_line a) h).1 (and_parts (not (y == 10)) (is_line b) k).1 (ap (drop 1) e) in
    let first : x ≡ y = ap (λ l. get_or l 0 0) e in
    (rw first (ap (λ l. y ∷ l) rest.0), rest.1)

pub line_cut : (a b r s : List ℕ) → is_line a ≡ true → is_line b ≡ true → fed a ++ r ≡ fed b ++ s → (a ≡ b) × (r ≡ s)
line_cut a b r s h k e = cut_at a b r s h k (sym (fed_before a r) ∙ e ∙ fed_before b s)

pub has_feed : (a r : List ℕ) → is_line (a ++ 10 ∷ r) ≡ false
has_feed [] r = refl
has_feed (b ∷ a) r = rw (has_feed a r) (and_right (not (b == 10)) false refl)

not_nothing : (a r : List ℕ) → a ++ 10 ∷ r ≡ [] → ⊥
not_nothing [] r e = cc e
not_nothing (b ∷ a) r e = cc e

-- ---- texts of lists of lines

pub text_join : (xs ys : List (List ℕ)) → text_of_lines (xs ++ ys) ≡ text_of_lines xs ++ text_of_lines ys
text_join [] ys = refl
text_join (x ∷ xs) ys = ap (λ r. fed x ++ r) (text_join xs ys) ∙ sym (append_assoc (fed x) (text_of_lines xs) (text_of_lines ys))

pub text_push : (lines : List (List ℕ)) (line : List ℕ) → text_of_lines (lines ++ line ∷ []) ≡ text_of_lines lines ++ fed line
text_push lines line = text_join lines (line ∷ []) ∙ ap (λ r. text_of_lines lines ++ r) (append-nil (fed line))

-- lines more than a front of a text has
pub record Front (lines more : List (List ℕ)) (rest : List ℕ) : Type 0 where
  pub tail : List (List ℕ)
  pub split : more ≡ lines ++ tail
  pub left : rest ≡ text_of_lines tail

-- a text that begins with whole lines has these lines as its first ones
pub front_cut : (lines more : List (List ℕ)) (rest : List ℕ) → AreLines lines → AreLines more → text_of_lines lines ++ rest ≡ text_of_lines more → Front lines more rest
front_cut [] more rest h k e = record { tail = more; split = refl; left = e }
front_cut (x ∷ lines) [] rest h k e =
    absurd (not_nothing x (text_of_lines lines ++ rest) (sym (fed_before x (text_of_lines lines ++ rest)) ∙ sym (append_assoc (fed x) (text_of_lines lines) rest) ∙ e))
front_cut (x ∷ lines) (y ∷ more) rest h k e =
    let one = line_cut x y (text_of_lines lines ++ rest) (text_of_lines more) h.0 k.0 (sym (append_assoc (fed x) (text_of_lines lines) rest) ∙ e) in
    let less = front_cut lines more rest h.1 k.1 one.1 in
    record { tail = less.tail; split = ap₂ (λ l r. l ∷ r) (sym one.0) less.split; left = less.left }

-- what has no line feed and is the text of lines is nothing, and the lines are none
pub nothing_left : (rest : List ℕ) (tail : List (List ℕ)) → is_line rest ≡ true → rest ≡ text_of_lines tail → (tail ≡ []) × (rest ≡ [])
nothing_left rest [] h e = (refl, e)
nothing_left rest (y ∷ tail) h e = absurd (false≢true (sym (has_feed y (text_of_lines tail)) ∙ ap is_line (sym (e ∙ fed_before y (text_of_lines tail))) ∙ h))

-- ---- texts without a line feed

pub line_join : (xs ys : List ℕ) → is_line xs ≡ true → is_line ys ≡ true → is_line (xs ++ ys) ≡ true
line_join [] ys h k = k
line_join (x ∷ xs) ys h k =
    let parts = and_parts (not (x == 10)) (is_line xs) h in
    rw parts.0 (line_join xs ys parts.1 k)

digit_is_none : (b : ℕ) → is_ascii_digit b ≡ true → not (b == 10) ≡ true
digit_is_none b h = grind (arith, tests)

pub number_line : (n : ℕ) → n < 2 ^ 64 → is_line (decimal n) ≡ true
number_line n small = weaker is_ascii_digit (λ b. not (b == 10)) digit_is_none (decimal n) (digits_decimal own n small)

above_is_none : (b : ℕ) → nat_lt 10 b ≡ true → not (b == 10) ≡ true
above_is_none b h = grind (arith, tests)

pub text_line : (text : List ℕ) → has_no_feed text ≡ true → is_line text ≡ true
text_line text h = weaker (λ b. nat_lt 10 b) (λ b. not (b == 10)) above_is_none text h

abbrev AreBytes : List ℕ → Type 0
AreBytes bytes = (i : ℕ) → slice_index bytes i < 256

all_small : (xs : List ℕ) → ((i : ℕ) → i < length xs → slice_index_or xs i 0 < 256) → AreBytes xs
all_small [] h i = omega arith
all_small (x ∷ xs) h zero = h 0 (omega arith)
all_small (x ∷ xs) h (suc i) = all_small xs (λ k low. h (suc k) (omega (arith, low))) i

digits_line : (bytes : List ℕ) → AreBytes bytes → is_line (encode_lower bytes) ≡ true
unfolding encode_with
digits_line [] h = refl
digits_line (b ∷ bytes) h =
    let low : b < 256 = h 0 in
    let high_digit = AllPass-from_list_all (λ b. not (b == 10)) lower_digits refl (b / 16) 0 (omega (arith, low)) in
    let low_digit = AllPass-from_list_all (λ b. not (b == 10)) lower_digits refl (b % 16) 0 (omega (arith, low)) in
    rw (high_digit, low_digit) (digits_line bytes (λ i. h (suc i)))

pub block_line : (bytes : List ℕ) → IsBlock bytes → is_line (encode_lower bytes) ≡ true
block_line bytes h = digits_line bytes (all_small bytes (λ i low. h.bytes i (omega (arith, low, h.length))))
