-- The bits of a word that is read from 8 bytes, and how many of them are set in a row.
use Rattle.std.proofs.Common.{◌≡◌, ℕ, zero, suc, ◌+◌, ◌-◌, ◌*◌, ◌/◌, ◌%◌, ◌^◌, ◌<◌, ◌≤◌, ◌==◌, true, false, ◌⊎◌, inl, inr, List, [], drop, slice_index, slice_index_or, refl, sym, ap, ◌∙◌, arith}
use Rattle.std.proofs.Math.Nat.{div-div-eq-div-mul, div-le_self}
use Rattle.std.proofs.lemmas.Bool.{cases_lt}
use Rattle.std.proofs.lemmas.List.{get_or-drop}
use Rattle.std.proofs.lemmas.Nat.{pow-add}
use Rattle.std.proofs.lemmas.Nat.Bits.{bit_at_cat_low, bit_at_cat_high, bit_at_ones, bit_at-trailing_ones}
use Rattle.std.specs.Int.{bit_at, trailing_ones, w64}
use lib.Count.{count_trailing_zeros}
use Rattle.byteorder.specs.Endian.{little_from, little_number}
use Rattle.base_types.specs.Seal.{Blocks, blocks_of}
use Rattle.layout_bitmap.specs.Bits.{bit_in}

-- bit k of a number whose lowest byte is before the rest
bit_of_split : (i k number byte rest : ℕ) (bytes : List ℕ) → number ≡ byte + 256 * rest → byte < 256 → byte ≡ slice_index bytes i
    → (8 ≤ k → bit_at rest (k - 8) ≡ bit_at (slice_index bytes (suc i + (k - 8) / 8)) ((k - 8) % 8)) → bit_at number k ≡ bit_at (slice_index bytes (i + k / 8)) (k % 8)
bit_of_split i k number byte rest bytes split small is later = by (cases_lt k 8)
  where
    parts : number ≡ rest * 2 ^ 8 + byte
    parts = omega (arith, split)

    by : (k < 8) ⊎ (8 ≤ k) → bit_at number k ≡ bit_at (slice_index bytes (i + k / 8)) (k % 8)
    by (inl l) =
        ap (λ x. bit_at x k) parts ∙ bit_at_cat_low rest 8 byte k l ∙ ap (λ x. bit_at x k) is
        ∙ ap (λ j. bit_at (slice_index bytes j) k) {x = i} {y = i + k / 8} (omega arith)
        ∙ ap (bit_at (slice_index bytes (i + k / 8))) {x = k} {y = k % 8} (omega arith)
    by (inr h) =
        ap (λ x. bit_at x k) parts ∙ bit_at_cat_high rest 8 byte k small h ∙ later h
        ∙ ap (λ j. bit_at (slice_index bytes j) ((k - 8) % 8)) {x = suc i + (k - 8) / 8} {y = i + k / 8} (omega arith)
        ∙ ap (bit_at (slice_index bytes (i + k / 8))) {x = (k - 8) % 8} {y = k % 8} (omega arith)

-- bit k of the number in n bytes from place i on is bit k % 8 of byte k / 8
bit_of_number : (i n k : ℕ) (bytes : List ℕ) → ((j : ℕ) → slice_index bytes j < 256) → k < 8 * n → bit_at (little_from i n bytes) k ≡ bit_at (slice_index bytes (i + k / 8)) (k % 8)
bit_of_number i zero k bytes small low = absurd (omega arith)
bit_of_number i (suc n) k bytes small low =
    bit_of_split i k (little_from i (suc n) bytes) (slice_index bytes i) (little_from (suc i) n bytes) bytes refl (small i) refl (λ h. bit_of_number (suc i) n (k - 8) bytes small (omega arith))

-- a word has 64 bits of the bitmap, from bit 64 w on
pub record IsWord (m : Blocks) (w word : ℕ) : Type 0 where
  pub bits : (i : ℕ) → i < 64 → (bit_at word i == 1) ≡ bit_in m (64 * w + i)

-- the number in the 8 bytes from byte `at` on
pub word_in_is : (bytes : List ℕ) (at word : ℕ) → ((j : ℕ) → slice_index bytes j < 256) → word ≡ little_number 8 (drop at bytes)
    → (i : ℕ) → i < 64 → bit_at word i ≡ bit_at (slice_index bytes (at + i / 8)) (i % 8)
word_in_is bytes at word small is i low =
    ap (λ x. bit_at x i) is
    ∙ bit_of_number 0 8 i (drop at bytes) (λ j. omega (arith, get_or-drop at bytes j 0, small (at + j))) (omega arith)
    ∙ ap (λ j. bit_at (slice_index (drop at bytes) j) (i % 8)) {x = 0 + i / 8} {y = i / 8} (omega arith)
    ∙ ap (λ x. bit_at x (i % 8)) (get_or-drop at bytes (i / 8) 0)

-- the bits of 8 bytes of a block are those of the bitmap
pub word_is : (map : List (List ℕ)) (w at word : ℕ) → at ≡ w % 128 * 8
    → ((i : ℕ) → i < 64 → bit_at word i ≡ bit_at (slice_index (slice_index_or map (w / 128) []) (at + i / 8)) (i % 8))
    → (i : ℕ) → i < 64 → (bit_at word i == 1) ≡ bit_in (blocks_of map) (64 * w + i)
word_is map w at word at_is bits i low = ap (λ x. x == 1) (bits i low ∙ place)
  where
    place : bit_at (slice_index (slice_index_or map (w / 128) []) (at + i / 8)) (i % 8) ≡ bit_at (slice_index (blocks_of map ((64 * w + i) / 8192)) ((64 * w + i) % 8192 / 8)) ((64 * w + i) % 8)
    place =
        ap (λ r. bit_at (slice_index (slice_index_or map (w / 128) []) r) (i % 8)) {x = at + i / 8} {y = (64 * w + i) % 8192 / 8} (omega (arith, at_is))
        ∙ ap (λ q. bit_at (slice_index (slice_index_or map q []) ((64 * w + i) % 8192 / 8)) (i % 8)) {x = w / 128} {y = (64 * w + i) / 8192} (omega arith)
        ∙ ap (bit_at (slice_index (blocks_of map ((64 * w + i) / 8192)) ((64 * w + i) % 8192 / 8))) {x = i % 8} {y = (64 * w + i) % 8} (omega arith)

-- a bit of a number that was shifted down
shifted : (word k i : ℕ) → bit_at (word / 2 ^ k) i ≡ bit_at word (k + i)
shifted word k i = ap (λ x. x % 2) (div-div-eq-div-mul word (2 ^ k) (2 ^ i) ∙ ap (λ d. word / d) (sym (pow-add 2 k i)))

-- so many bits are set, and the next is clear if it is one of the 64
pub record HasOnes (n count : ℕ) : Type 0 where
  pub ones : (i : ℕ) → i < count → bit_at n i ≡ 1
  pub clear : count < 64 → bit_at n count ≡ 0

all_ones : (n : ℕ) → n + 1 ≡ 2 ^ 64 → HasOnes n (trailing_ones w64 n)
unfolding count_trailing_zeros
all_ones n e = record {
  ones = λ i low. ap (λ x. bit_at x i) is ∙ bit_at_ones 64 i (omega (arith, low, count));
  clear = λ low. absurd (omega (arith, low, count));
}
  where
    is : n ≡ 2 ^ 64 - 1
    is = omega (arith, e)

    count : trailing_ones w64 n ≡ 64
    count = ap (trailing_ones w64) is

pub trailing_are_ones : (n : ℕ) → n < 2 ^ 64 → HasOnes n (trailing_ones w64 n)
trailing_are_ones n fits = by (cases_lt (n + 1) (2 ^ 64))
  where
    by : (n + 1 < 2 ^ 64) ⊎ (2 ^ 64 ≤ n + 1) → HasOnes n (trailing_ones w64 n)
    by (inl l) = let h = bit_at-trailing_ones w64 n l in record { ones = h.2; clear = λ low. h.1 }
    by (inr h) = all_ones n (omega (arith, h, fits))

-- the ones of a word from bit k on
pub ones_from_is : (word k count : ℕ) → word < 2 ^ 64 → count ≡ trailing_ones w64 (word / 2 ^ k)
    → ((i : ℕ) → i < count → bit_at word (k + i) ≡ 1) × (count < 64 - k → bit_at word (k + count) ≡ 0)
ones_from_is word k count fits is = (
  λ i low. sym (shifted word k i) ∙ h.ones i (omega (arith, low, is)),
  λ low. sym (shifted word k count) ∙ ap (bit_at (word / 2 ^ k)) is ∙ h.clear (omega (arith, low, is)),
)
  where
    h : HasOnes (word / 2 ^ k) (trailing_ones w64 (word / 2 ^ k))
    h = trailing_are_ones (word / 2 ^ k) (omega (arith, div-le_self word (2 ^ k), fits))

-- a bit of the bitmap is that of its word
pub bit_of_word : (m : Blocks) (word at b bit : ℕ) → IsWord m (at / 64) word → at ≤ b → b < at + (64 - at % 64) → bit_at word (at % 64 + (b - at)) ≡ bit → bit_in m b ≡ (bit == 1)
bit_of_word m word at b bit h from below is =
    ap (bit_in m) {x = b} {y = 64 * (at / 64) + (at % 64 + (b - at))} (omega (arith, from))
    ∙ sym (h.bits (at % 64 + (b - at)) (omega (arith, from, below))) ∙ ap (λ x. x == 1) is

-- the bits up to a place are set, and so many more of the place's word
pub set_before : (m : Blocks) (word from at ones b : ℕ) → IsWord m (at / 64) word → ((k : ℕ) → from ≤ k → k < at → bit_in m k ≡ true)
    → ((i : ℕ) → i < ones → bit_at word (at % 64 + i) ≡ 1) → ones ≤ 64 - at % 64 → from ≤ b → b < at + ones → bit_in m b ≡ true
set_before m word from at ones b h before set few low below = by (cases_lt b at)
  where
    by : (b < at) ⊎ (at ≤ b) → bit_in m b ≡ true
    by (inl l) = before b low l
    by (inr r) = bit_of_word m word at b 1 h r (omega (arith, below, few)) (set (b - at) (omega (arith, below, r)))

-- and the next one is clear
pub clear_there : (m : Blocks) (word at ones b : ℕ) → IsWord m (at / 64) word → (ones < 64 - at % 64 → bit_at word (at % 64 + ones) ≡ 0) → ones < 64 - at % 64 → b ≡ at + ones → bit_in m b ≡ false
clear_there m word at ones b h clear few is =
    bit_of_word m word at b 0 h (omega (arith, is)) (omega (arith, is, few)) (ap (λ i. bit_at word (at % 64 + i)) {x = b - at} {y = ones} (omega (arith, is)) ∙ clear few)
