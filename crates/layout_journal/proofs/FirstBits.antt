-- The blocks of a bitmap in which the first blocks are set, byte by byte and bit by bit.
use Rattle.std.proofs.Common.{◌≡◌, ℕ, ◌+◌, ◌-◌, ◌*◌, ◌/◌, ◌%◌, ◌<◌, min, ◌==◌, nat_lt, true, false, ◌⊎◌, inl, inr, List, length, map, get_or, sym, ap, ◌∙◌, arith}
use Rattle.std.proofs.lemmas.Bool.{cases_Bool, ltb-true, ltb-false}
use Rattle.std.proofs.lemmas.List.{ext_get_or}
use Rattle.std.proofs.lemmas.List.FromFn.{length-map-range_with_len, get_or-map-range_with_len}
use Rattle.std.proofs.lemmas.Nat.Bits.{bit_at_ones, bit_at_ones_above}
use Rattle.std.specs.Int.{bit_at}
use Rattle.std.specs.List.{range_with_len}
use Rattle.layout_bytes.specs.Bitmap.{first_bits, first_bits_block}

-- the first i bytes are those of block k of the bitmap
pub record HasBytes (block : List ℕ) (first k i : ℕ) : Type 0 where
  pub size : length block ≡ 1024
  pub bytes : (j : ℕ) → j < i → get_or block j 0 ≡ first_bits first (1024 * k + j)

-- a list of n numbers each of which is the value of its place
same_row : (f : ℕ → ℕ) (xs : List ℕ) (a n : ℕ) → length xs ≡ n → ((j : ℕ) → j < n → get_or xs j 0 ≡ f (a + j)) → xs ≡ map f (range_with_len a n)
same_row f xs a n size each =
    ext_get_or 0 xs (map f (range_with_len a n)) (size ∙ sym (length-map-range_with_len f a n))
    (λ j low. each j (omega (arith, low, size)) ∙ sym (get_or-map-range_with_len f a n j (a + j) 0 (omega (arith, low, size)) (omega arith)))

pub all_bytes : (block : List ℕ) (first k i : ℕ) → i ≡ 1024 → HasBytes block first k i → block ≡ first_bits_block first k
all_bytes block first k i e h = same_row (first_bits first) block (1024 * k) 1024 h.size (λ j low. h.bytes j (omega (arith, low, e)))

-- the byte in which the bit of block b stands
byte_is : (d b n : ℕ) → n ≡ 1024 → get_or (map (first_bits d) (range_with_len (1024 * (b / 8192)) n)) (b % 8192 / 8) 0 ≡ first_bits d (b / 8)
byte_is d b n e = get_or-map-range_with_len (first_bits d) (1024 * (b / 8192)) n (b % 8192 / 8) (b / 8) 0 (omega (arith, e)) (omega arith)

-- the bit of block b in that byte is set exactly where b is one of the first d
bit_is : (d b : ℕ) → (bit_at (first_bits d (b / 8)) (b % 8) == 1) ≡ nat_lt b d
bit_is d b = by (cases_Bool (nat_lt b d))
  where
    by : (nat_lt b d ≡ true) ⊎ (nat_lt b d ≡ false) → (bit_at (first_bits d (b / 8)) (b % 8) == 1) ≡ nat_lt b d
    by (inl e) = ap (λ x. x == 1) (bit_at_ones (min (d - 8 * (b / 8)) 8) (b % 8) (omega (arith, ltb-true _ _ e))) ∙ sym e
    by (inr e) = ap (λ x. x == 1) (bit_at_ones_above (min (d - 8 * (b / 8)) 8) (b % 8) (omega (arith, ltb-false _ _ e))) ∙ sym e

-- block b is set exactly where it is one of the first d
pub set_among_first : (d b : ℕ) → (bit_at (get_or (first_bits_block d (b / 8192)) (b % 8192 / 8) 0) (b % 8) == 1) ≡ nat_lt b d
set_among_first d b = ap (λ x. bit_at x (b % 8) == 1) (byte_is d b 1024 (omega arith)) ∙ bit_is d b
