-- The bits of the formatted bitmap and of the first record's payload: they are alike but for block 23.
use Rattle.std.proofs.Common.{◌≡◌, ◌≢◌, ◌⊎◌, inl, inr, ⊎_elim, ℕ, zero, suc, ◌+◌, ◌-◌, ◌*◌, ◌/◌, ◌%◌, ◌^◌, min, ◌<◌, ◌≤◌, ◌==◌, ◌||◌, true, false, nat_lt, nat_le, List, ◌∷◌, map, replicate, get_or, refl, sym, ◌∙◌, ap, arith}
use Rattle.std.proofs.lemmas.Bool.{cases_Bool, cases_lt, and_parts, and_from, or_cases, leb-true, ltb-true, le-leb, lt-ltb, le-ltb}
use Rattle.std.proofs.lemmas.List.{get_or-replicate}
use Rattle.std.proofs.lemmas.List.FromFn.{get_or-map-range_with_len}
use Rattle.std.proofs.lemmas.Nat.Bits.{bit_at_ones, bit_at_ones_above}
use Rattle.std.specs.Int.{bit_at}
use Rattle.std.specs.List.{range_with_len}
use Rattle.base_types.specs.Seal.{Blocks}
use Rattle.layout_bytes.specs.Bitmap.{is_set, first_bits, first_bits_block}
use Rattle.layout_journal.specs.Run.{is_live}
use Rattle.crash_example.specs.FirstRecord.{least, first_bitmap}

-- a byte of the formatted bitmap
byte_before : (d i n : ℕ) → i < n → get_or (map (first_bits d) (range_with_len 0 n)) i 0 ≡ first_bits d i
byte_before d i n lt = get_or-map-range_with_len (first_bits d) 0 n i i 0 lt (omega arith)

-- three bytes of ones and zeros behind them are those of the first 24 blocks
byte_after : (i n : ℕ) → i < 3 + n → get_or (255 ∷ 255 ∷ 255 ∷ replicate n 0) i 0 ≡ first_bits 24 i
byte_after zero n lt = refl
byte_after (suc zero) n lt = refl
byte_after (suc (suc zero)) n lt = refl
byte_after (suc (suc (suc k))) n lt = get_or-replicate n k 0 0 (omega arith) ∙ sym (ap (λ (s : ℕ). 2 ^ min s 8 - 1) {x = 24 - 8 * suc (suc (suc k))} {y = 0} (omega arith))

-- the bits of a disk of the least geometry, given its bitmap block's bytes
bits_are : (m : Blocks) (d b : ℕ) (bytes : List ℕ) → m 18 ≡ bytes → b < 64 → get_or bytes (b / 8) 0 ≡ first_bits d (b / 8) → is_set least m b ≡ nat_lt b d
bits_are m d b bytes is low byte =
    ap (λ k. bit_at (get_or (m k) (b % 8192 / 8) 0) (b % 8) == 1) {x = 18 + b / 8192} {y = 18} (omega arith)
    ∙ ap (λ i. bit_at (get_or (m 18) i 0) (b % 8) == 1) {x = b % 8192 / 8} {y = b / 8} (omega arith)
    ∙ ap (λ (xs : List ℕ). bit_at (get_or xs (b / 8) 0) (b % 8) == 1) is
    ∙ ap (λ x. bit_at x (b % 8) == 1) byte
    ∙ ⊎_elim
    (λ lt. ap (λ x. x == 1) (bit_at_ones (min (d - 8 * (b / 8)) 8) (b % 8) (omega (arith, lt))) ∙ sym (lt-ltb b d lt))
    (λ ge. ap (λ x. x == 1) (bit_at_ones_above (min (d - 8 * (b / 8)) 8) (b % 8) (omega (arith, ge))) ∙ sym (le-ltb b d ge)) (cases_lt b d)

-- before the record the bits are those of the first 23 blocks
pub set_before : (m : Blocks) → m 18 ≡ first_bits_block 23 0 → (b : ℕ) → b < 64 → is_set least m b ≡ nat_lt b 23
set_before m is b low = bits_are m 23 b _ is low (byte_before 23 (b / 8) 1024 (omega arith))

-- and after it, those of the first 24
pub set_after : (m : Blocks) → m 18 ≡ first_bitmap → (b : ℕ) → b < 64 → is_set least m b ≡ nat_lt b 24
unfolding first_bitmap
set_after m is b low = bits_are m 24 b _ is low (byte_after (b / 8) 1021 (omega arith))

-- what a live block keeps to
live_parts : (m : Blocks) (b : ℕ) → is_live least m b ≡ true → (18 ≤ b) × (b < 64) × ((b < 23) ⊎ (is_set least m b ≡ true))
live_parts m b live =
    let low = and_parts (nat_le 18 b) _ live in
    let high = and_parts (nat_lt b 64) _ low.1 in
    (leb-true 18 b low.0, ltb-true b 64 high.0, ⊎_elim (λ lt. inl (ltb-true b 23 lt)) inr (or_cases (nat_lt b 23) _ high.1))

-- before the record no data block is live
pub live_before : (m : Blocks) → m 18 ≡ first_bits_block 23 0 → (b : ℕ) → is_live least m b ≡ true → b < 23
live_before m is b live =
    let parts = live_parts m b live in
    ⊎_elim (λ lt. lt) (λ on. ltb-true b 23 (sym (set_before m is b parts.1) ∙ on)) parts.2

-- so every data block is dead
pub dead_before : (m : Blocks) → m 18 ≡ first_bits_block 23 0 → (b : ℕ) → 23 ≤ b → is_live least m b ≡ false
dead_before m is b from = ⊎_elim (λ live. absurd (omega (arith, live_before m is b live))) (λ dead. dead) (cases_Bool (is_live least m b))

-- what lies between the journal and the data is live
pub live_between : (m : Blocks) (b : ℕ) → 18 ≤ b → b < 23 → is_live least m b ≡ true
live_between m b low high = and_from (nat_le 18 b) _ (le-leb 18 b low) (and_from (nat_lt b 64) _ (lt-ltb b 64 (omega arith)) (ap (λ t. t || is_set least m b) (lt-ltb b 23 high)))

-- after it block 23 is live too, and no other data block
pub live_after : (m : Blocks) → m 18 ≡ first_bitmap → is_live least m 23 ≡ true
live_after m is = set_after m is 23 (omega arith)

-- and each other live block lies before the data, as it did
pub lived_before : (m : Blocks) → m 18 ≡ first_bitmap → (b : ℕ) → b ≢ 23 → is_live least m b ≡ true → (18 ≤ b) × (b < 23)
lived_before m is b apart live =
    let parts = live_parts m b live in
    (parts.0, ⊎_elim (λ lt. lt) (λ on. omega (arith, (ltb-true b 24 (sym (set_after m is b parts.1) ∙ on)))) parts.2)
