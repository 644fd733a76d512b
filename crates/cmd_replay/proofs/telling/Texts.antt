-- Parts of a listing's line: where each of them ends, and that it tells what it was written from.
use Rattle.std.proofs.Common.{◌≡◌, sym, ap, refl, ◌∙◌, ◌⊎◌, inl, inr, arith, tests, ℕ, zero, suc, ◌+◌, ◌<◌, ◌≤◌, ◌/◌, ◌%◌, ◌==◌, Bool, true, false, not, if◌then◌else◌, List, [], ◌∷◌, ◌++◌, drop, get_or, unwrap_or, decimal, nat_lt, codes, slice_index}
use Rattle.std.proofs.lemmas.Bool.{and_parts, false≢true, and_from}
use Rattle.std.proofs.lemmas.Bool.Decides.{Decides-ltb}
use Rattle.std.specs.Fmt.{digits, digits_onto, digit_glyph}
use Rattle.std.specs.List.{list_all}
use Rattle.std.proofs.lemmas.List.Folds.{list_all-append}
use Rattle.hex.specs.Hex.{encode_lower, encode_with, lower_digits, hex_digit_value}
use Rattle.base_types.specs.Name.{is_name, is_name_byte}
use Rattle.lang_tree.specs.Listing.{slashed, path_text, digits_behind_blank}
use Rattle.lang_script.specs.Shared.{name_bytes, weaker}

-- ---- parts, and what ends them

-- a part of a line: each byte is above the blank
abbrev pub Part : List ℕ → Type 0
Part xs = list_all (nat_lt 32) xs ≡ true

-- nothing, or it begins with a blank or a line feed
abbrev pub Low : List ℕ → Type 0
Low [] = Unit {0}
Low (b ∷ r) = b ≤ 32

above : (b : ℕ) → nat_lt 32 b ≡ true → 32 < b
above b h = (Decides-ltb 32 b).0 h

pub cut : (xs ys r s : List ℕ) → Part xs → Part ys → Low r → Low s → xs ++ r ≡ ys ++ s → (xs ≡ ys) × (r ≡ s)
cut [] [] r s p q low down e = (refl, e)
cut [] (y ∷ ys) (b ∷ r) s p q low down e =
    absurd (omega (arith, low, above y (and_parts (nat_lt 32 y) (list_all (nat_lt 32) ys) q).0, ap (λ l. get_or l 0 0) e))
cut (x ∷ xs) [] r (b ∷ s) p q low down e =
    absurd (omega (arith, down, above x (and_parts (nat_lt 32 x) (list_all (nat_lt 32) xs) p).0, ap (λ l. get_or l 0 0) e))
cut (x ∷ xs) (y ∷ ys) r s p q low down e =
    let rest = cut xs ys r s (and_parts (nat_lt 32 x) (list_all (nat_lt 32) xs) p).1 (and_parts (nat_lt 32 y) (list_all (nat_lt 32) ys) q).1 low down (ap (drop 1) e) in
    let head : x ≡ y = ap (λ l. get_or l 0 0) e in
    (rw head (ap (λ l. y ∷ l) rest.0), rest.1)
cut other rest r s p q low down e = absurd cc

-- ---- numbers

glyph_past : (d : ℕ) → nat_lt 32 (digit_glyph false d) ≡ true
glyph_past d = elim (nat_lt d 10) as (λ b. nat_lt 32 (if b then 48 + d else 87 + d) ≡ true) [ true ↦ (Decides-ltb 32 (48 + d)).1 (omega arith) | false ↦ (Decides-ltb 32 (87 + d)).1 (omega arith) ]

onto_part : (k n : ℕ) (acc : List ℕ) → Part acc → Part (digits_onto k 10 false n acc)
onto_part zero n acc h = h
onto_part (suc k) n acc h =
    let more : Part (digit_glyph false (n % 10) ∷ acc) = rw (glyph_past (n % 10)) h in
    elim (n / 10 == 0) as (λ b. Part (if b then digit_glyph false (n % 10) ∷ acc else digits_onto k 10 false (n / 10) (digit_glyph false (n % 10) ∷ acc))) [
      | true ↦ more
      | false ↦ onto_part k (n / 10) (digit_glyph false (n % 10) ∷ acc) more
    ]

-- the digits of a number are a part, however many there are
pub number_part : (n : ℕ) → Part (decimal n)
unfolding digits
number_part n = onto_part 64 n [] refl

-- ---- paths

abbrev no_slash : ℕ → Bool
no_slash b = not (b == 47)

byte_past : (b : ℕ) → is_name_byte b ≡ true → nat_lt 32 b ≡ true
byte_past b h = grind (arith, tests)

byte_no_slash : (b : ℕ) → is_name_byte b ≡ true → no_slash b ≡ true
byte_no_slash b h = grind (arith, tests)

pub name_part : (name : List ℕ) → is_name name ≡ true → Part name
name_part name h = weaker is_name_byte (nat_lt 32) byte_past name (name_bytes name h)

slashed_part : (p : List (List ℕ)) → list_all is_name p ≡ true → Part (slashed p)
slashed_part [] h = refl
slashed_part (name ∷ p) h =
    let parts = and_parts (is_name name) (list_all is_name p) h in
    list_all-append (nat_lt 32) name (slashed p) ∙ and_from (list_all (nat_lt 32) name) (list_all (nat_lt 32) (slashed p)) (name_part name parts.0) (slashed_part p parts.1)

pub path_part : (p : List (List ℕ)) → list_all is_name p ≡ true → Part (path_text p)
path_part [] h = refl
path_part (name ∷ p) h = slashed_part (name ∷ p) h

is_slash : (b : ℕ) → no_slash b ≡ true → b ≡ 47 → ⊥
is_slash b h e = false≢true (sym (ap no_slash e) ∙ h)

-- names end before a slash, or where the path does
cut_name : (xs ys : List ℕ) (p q : List (List ℕ)) → list_all no_slash xs ≡ true → list_all no_slash ys ≡ true
    → xs ++ slashed p ≡ ys ++ slashed q → (xs ≡ ys) × (slashed p ≡ slashed q)
cut_name [] [] p q h k e = (refl, e)
cut_name [] (y ∷ ys) (name ∷ p) q h k e = absurd (is_slash y (and_parts (no_slash y) (list_all no_slash ys) k).0 (sym (ap (λ l. get_or l 0 0) e)))
cut_name (x ∷ xs) [] p (name ∷ q) h k e = absurd (is_slash x (and_parts (no_slash x) (list_all no_slash xs) h).0 (ap (λ l. get_or l 0 0) e))
cut_name (x ∷ xs) (y ∷ ys) p q h k e =
    let rest = cut_name xs ys p q (and_parts (no_slash x) (list_all no_slash xs) h).1 (and_parts (no_slash y) (list_all no_slash ys) k).1 (ap (drop 1) e) in
    let head : x ≡ y = ap (λ l. get_or l 0 0) e in
    (rw head (ap (λ l. y ∷ l) rest.0), rest.1)
cut_name other rest p q h k e = absurd cc

slashed_same : (p q : List (List ℕ)) → list_all is_name p ≡ true → list_all is_name q ≡ true → slashed p ≡ slashed q → p ≡ q
slashed_same [] [] h k e = refl
slashed_same (x ∷ p) (y ∷ q) h k e =
    let here = and_parts (is_name x) (list_all is_name p) h in
    let there = and_parts (is_name y) (list_all is_name q) k in
    let one = cut_name x y p q (weaker is_name_byte no_slash byte_no_slash x (name_bytes x here.0)) (weaker is_name_byte no_slash byte_no_slash y (name_bytes y there.0)) (ap (drop 1) e) in
    rw one.0 (ap (λ l. y ∷ l) (slashed_same p q here.1 there.1 one.1))
slashed_same other rest h k e = absurd cc

-- the root's text is that of no other path
root_alone : (p : List (List ℕ)) (name : List ℕ) → is_name name ≡ true → codes "/" ≡ slashed (name ∷ p) → ⊥
root_alone p [] h e = cc h
root_alone p (b ∷ name) h e = cc e

-- the text of a path tells the path
pub path_same : (p q : List (List ℕ)) → list_all is_name p ≡ true → list_all is_name q ≡ true → path_text p ≡ path_text q → p ≡ q
path_same [] [] h k e = refl
path_same [] (y ∷ q) h k e = absurd (root_alone q y (and_parts (is_name y) (list_all is_name q) k).0 e)
path_same (x ∷ p) [] h k e = absurd (root_alone p x (and_parts (is_name x) (list_all is_name p) h).0 (sym e))
path_same (x ∷ p) (y ∷ q) h k e = slashed_same (x ∷ p) (y ∷ q) h k e

-- ---- bytes

abbrev pub AreBytes : List ℕ → Type 0
AreBytes bytes = list_all (λ b. nat_lt b 256) bytes ≡ true

abbrev value_of : ℕ → ℕ
value_of c = unwrap_or (hex_digit_value c) 16

-- a digit tells its value, and there are sixteen
back : (v : ℕ) → ((v < 16) × (value_of (slice_index lower_digits v) ≡ v)) ⊎ ((16 ≤ v) × (value_of (slice_index lower_digits v) ≡ 16))
back (suc (suc (suc (suc (suc (suc (suc (suc (suc (suc (suc (suc (suc (suc (suc (suc v)))))))))))))))) = inr (omega arith, refl)
back other = inl (omega arith, refl)

digit_same : (v w : ℕ) → v < 16 → slice_index lower_digits v ≡ slice_index lower_digits w → v ≡ w
digit_same v w low e = by (back v) (back w)
  where
    by : ((v < 16) × (value_of (slice_index lower_digits v) ≡ v)) ⊎ ((16 ≤ v) × (value_of (slice_index lower_digits v) ≡ 16))
        → ((w < 16) × (value_of (slice_index lower_digits w) ≡ w)) ⊎ ((16 ≤ w) × (value_of (slice_index lower_digits w) ≡ 16)) → v ≡ w
    by (inl h) (inl k) = sym h.1 ∙ ap value_of e ∙ k.1
    by (inl h) (inr k) = let same : v ≡ 16 = sym h.1 ∙ ap value_of e ∙ k.1 in absurd (omega (arith, low, same))
    by (inr h) k = absurd (omega (arith, low, h.0))

no_feeds : (xs : List ℕ) (v : ℕ) → list_all (λ b. not (b == 10)) xs ≡ true → not (slice_index xs v == 10) ≡ true
no_feeds [] v h = refl
no_feeds (x ∷ xs) zero h = (and_parts (not (x == 10)) (list_all (λ b. not (b == 10)) xs) h).0
no_feeds (x ∷ xs) (suc v) h = no_feeds xs v (and_parts (not (x == 10)) (list_all (λ b. not (b == 10)) xs) h).1

no_digit : (v : ℕ) → slice_index lower_digits v ≡ 10 → ⊥
no_digit v e = false≢true (sym (ap (λ b. not (b == 10)) e) ∙ no_feeds lower_digits v refl)

-- digits up to a line feed tell their bytes, where one side's are bytes
digits_same : (xs ys r s : List ℕ) → AreBytes xs → encode_lower xs ++ 10 ∷ r ≡ encode_lower ys ++ 10 ∷ s → (xs ≡ ys) × (r ≡ s)
unfolding encode_with
digits_same [] [] r s h e = (refl, ap (drop 1) e)
digits_same [] (y ∷ ys) r s h e = absurd (no_digit (y / 16) (sym (ap (λ l. get_or l 0 0) e)))
digits_same (x ∷ xs) [] r s h e = absurd (no_digit (x / 16) (ap (λ l. get_or l 0 0) e))
digits_same (x ∷ xs) (y ∷ ys) r s h e =
    let parts = and_parts (nat_lt x 256) (list_all (λ b. nat_lt b 256) xs) h in
    let low : x < 256 = (Decides-ltb x 256).0 parts.0 in
    let high_digit = digit_same (x / 16) (y / 16) (omega (arith, low)) (ap (λ l. get_or l 0 0) e) in
    let low_digit = digit_same (x % 16) (y % 16) (omega (arith, low)) (ap (λ l. get_or l 1 0) e) in
    let rest = digits_same xs ys r s parts.1 (ap (drop 2) e) in
    let same : x ≡ y = omega (arith, high_digit, low_digit) in
    (rw same (ap (λ l. y ∷ l) rest.0), rest.1)

pub bytes_same : (xs ys r s : List ℕ) → AreBytes xs → digits_behind_blank xs ++ 10 ∷ r ≡ digits_behind_blank ys ++ 10 ∷ s → (xs ≡ ys) × (r ≡ s)
bytes_same [] [] r s h e = (refl, ap (drop 1) e)
bytes_same (x ∷ xs) (y ∷ ys) r s h e = digits_same (x ∷ xs) (y ∷ ys) r s h (ap (drop 1) e)
bytes_same other rest r s h e = absurd cc

pub behind_low : (xs r : List ℕ) → Low (digits_behind_blank xs ++ 10 ∷ r)
behind_low [] r = omega arith
behind_low (x ∷ xs) r = omega arith
