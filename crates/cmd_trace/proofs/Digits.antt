-- The digits of a block, and what they are decoded to.
use Rattle.std.proofs.Common.{nat_lt, ◌≡◌, sym, ap, refl, ◌∙◌, arith, tests, ℕ, zero, suc, ◌+◌, ◌*◌, ◌/◌, ◌%◌, ◌<◌, Bool, true, false, not, List, [], ◌∷◌, slice_index, Option, Some, None, Result, Ok, Err}
use Rattle.std.specs.Prelude.{if◌then◌else◌, slice_index_or}
use Rattle.std.specs.List.{list_all}
use Rattle.std.proofs.lemmas.Bool.{and_parts}
use Rattle.std.proofs.lemmas.List.Sums.{AllPass-from_list_all}
use Rattle.hex.specs.Hex.{encode_lower, encode_with, lower_digits, decode_sized, decode_pairs, pair_value, value_at, digit_or_error, hex_digit_value, IsBytes, ◌>>=◌}
use Rattle.hex.specs.declared.error.FromHexError.{FromHexError}
use Rattle.hex.proofs.HexLemmas.{decode_sized-encode_lower, decode_sized-ok, decode_sized-twice, decode_of-ok, decode_of-even}
use Rattle.disk_contract.specs.Lawful.{IsBlock}
use Rattle.cmd_trace.specs.ReadFields.{is_upper, decoded, block_of}
use Rattle.cmd_trace.proofs.Bytes.{block_is_bytes}

-- ---- lower-case digits

abbrev is_lower_case : ℕ → Bool
is_lower_case b = not (is_upper b)

-- the digit of each value
table : (v : ℕ) → v < 16 → slice_index lower_digits v ≡ (if nat_lt v 10 then v + 48 else v + 87)
table (suc (suc (suc (suc (suc (suc (suc (suc (suc (suc (suc (suc (suc (suc (suc (suc v)))))))))))))))) low = absurd (omega (arith, low))
table other low = refl

value_is_small : (c v : ℕ) → hex_digit_value c ≡ Some v → v < 16
value_is_small c v h = grind (arith)

value_in_table : (c v : ℕ) → hex_digit_value c ≡ Some v → is_lower_case c ≡ true → (if nat_lt v 10 then v + 48 else v + 87) ≡ c
value_in_table c v h low = grind (arith, tests)

-- a digit that isn't upper case is that of its value
digit_of_value : (c v : ℕ) → hex_digit_value c ≡ Some v → is_lower_case c ≡ true → slice_index lower_digits v ≡ c
digit_of_value c v h low = table v (value_is_small c v h) ∙ value_in_table c v h low

bind_ok : {A B : Type 0} (r : Result A FromHexError) (f : A → Result B FromHexError) (y : B) → (r >>= f) ≡ Ok y → (x : A) × (r ≡ Ok x) × (f x ≡ Ok y)
bind_ok (Ok x) f y h = (x, refl, h)
bind_ok (Err e) f y h = cc h

value_read : (c i : ℕ) (o : Option ℕ) (v : ℕ) → digit_or_error c i o ≡ Ok v → o ≡ Some v
value_read c i o v h = grind arith

high_of : (a b : ℕ) → b < 16 → (a * 16 + b) / 16 ≡ a
high_of a b low = omega (arith, low)

low_of : (a b : ℕ) → b < 16 → (a * 16 + b) % 16 ≡ b
low_of a b low = omega (arith, low)

-- pairs of digits in lower case are those of their bytes
pairs_spell : (i : ℕ) (s bytes : List ℕ) → decode_pairs i s ≡ Ok bytes → list_all is_lower_case s ≡ true → encode_lower bytes ≡ s
unfolding decode_pairs encode_with
pairs_spell i [] bytes h low =
    let none : [] ≡ bytes = cc h in
    rw (← none) refl
pairs_spell i (a ∷ []) bytes h low = cc h
pairs_spell i (a ∷ b ∷ rest) bytes h low =
    let one = bind_ok (pair_value a b i) _ bytes h in
    let high = bind_ok (value_at a i) _ one.0 one.1 in
    let second = bind_ok (value_at b (i + 1)) _ one.0 high.2 in
    let more = bind_ok (decode_pairs (i + 2) rest) _ bytes one.2 in
    let a_value = value_read a i (hex_digit_value a) high.0 high.1 in
    let b_value = value_read b (i + 1) (hex_digit_value b) second.0 second.1 in
    let a_low = and_parts (is_lower_case a) (list_all is_lower_case (b ∷ rest)) low in
    let b_low = and_parts (is_lower_case b) (list_all is_lower_case rest) a_low.1 in
    let byte : high.0 * 16 + second.0 ≡ one.0 = cc second.2 in
    let all : one.0 ∷ more.0 ≡ bytes = cc more.2 in
    let rest_spelled = pairs_spell (i + 2) rest more.0 more.1 b_low.1 in
    let first : slice_index lower_digits (one.0 / 16) ≡ a =
    rw (← byte) (rw (high_of high.0 second.0 (value_is_small b second.0 b_value)) (digit_of_value a high.0 a_value a_low.0)) in
    let next : slice_index lower_digits (one.0 % 16) ≡ b =
    rw (← byte) (rw (low_of high.0 second.0 (value_is_small b second.0 b_value)) (digit_of_value b second.0 b_value b_low.0)) in
    rw (← all) (rw first (rw next (ap (λ l. a ∷ b ∷ l) rest_spelled)))

-- ---- the digits of a block

bytes_in : (xs : List ℕ) → IsBytes xs → (i : ℕ) → i < 1024 → slice_index_or xs i 0 < 256
bytes_in [] h i low = omega arith
bytes_in (x ∷ xs) h zero low = h 0
bytes_in (x ∷ xs) h (suc i) low = bytes_in xs (λ k. h (suc k)) i (omega (arith, low))

spelled_low : (bytes : List ℕ) → IsBytes bytes → list_all is_lower_case (encode_lower bytes) ≡ true
unfolding encode_with
spelled_low [] h = refl
spelled_low (b ∷ bytes) h =
    let low : b < 256 = h 0 in
    rw (AllPass-from_list_all is_lower_case lower_digits refl (b / 16) 0 (omega (arith, low)))
    (rw (AllPass-from_list_all is_lower_case lower_digits refl (b % 16) 0 (omega (arith, low))) (spelled_low bytes (λ i. h (suc i))))

-- a value that stands under a test
pub if_gave : {A : Type 0} (b : Bool) (o : Option A) (x : A) → (if b then o else None) ≡ Some x → (b ≡ true) × (o ≡ Some x)
if_gave true o x h = (refl, h)
if_gave false o x h = cc h

-- the digits of a block are read as its bytes
pub block_read : (bytes : List ℕ) → IsBlock bytes → block_of (encode_lower bytes) ≡ Some bytes
block_read bytes h =
    let small = block_is_bytes bytes h in
    rw (spelled_low bytes small) (ap decoded (decode_sized-encode_lower bytes 1024 h.length small))

decoded_is : (r : Result (List ℕ) FromHexError) (bytes : List ℕ) → decoded r ≡ Some bytes → r ≡ Ok bytes
decoded_is r bytes h = grind arith

spells_block : (text bytes : List ℕ) → list_all is_lower_case text ≡ true → decode_sized text 1024 ≡ Ok bytes → (encode_lower bytes ≡ text) × IsBlock bytes
spells_block text bytes low h =
    let twice = decode_sized-ok text 1024 bytes h in
    let whole = sym (decode_sized-twice text 1024 twice) ∙ h in
    let ok = decode_of-ok text bytes whole in
    let pairs = sym (decode_of-even text ok.0) ∙ whole in
    (pairs_spell 0 text bytes pairs low, record { length = omega (arith, ok.2, twice); bytes = bytes_in bytes ok.3 })

-- what is read as a block's bytes is their digits
pub block_is_read : (text bytes : List ℕ) → block_of text ≡ Some bytes → (encode_lower bytes ≡ text) × IsBlock bytes
block_is_read text bytes h =
    let found = if_gave (list_all is_lower_case text) (decoded (decode_sized text 1024)) bytes h in
    spells_block text bytes found.0 (decoded_is (decode_sized text 1024) bytes found.1)
