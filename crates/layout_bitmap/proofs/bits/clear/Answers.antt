-- The byte with the bit clear has its other bits.
use Rattle.std.proofs.Common.{◌≡◌, ℕ, ◌<◌, ◌/◌, ◌%◌, ◌==◌, [], length, slice_index_or, slice_index, ap, arith, false}
use Rattle.std.proofs.lemmas.Nat.Bits.{bit_at_clear_same, bit_at_clear_other}
use Rattle.std.specs.Int.{w8}
use Rattle.layout_bitmap.proofs.Written.{bit_becomes}
use Rattle.layout_bitmap.proofs.bits.clear.Goals as goal

pub returns-clause-bits : goal.returns-clause-bits
returns-clause-bits c =
    let size : (i : ℕ) → i < length c.args.map.now → length (slice_index_or c.args.map.now i []) ≡ 1024 = c.told-map in
    let low : c.args.b / 8192 < length c.args.map.now = omega (arith, c.requires) in
    let byte : ℕ = slice_index (slice_index_or c.args.map.now (c.args.b / 8192) []) (c.args.b % 8192 / 8) in
    bit_becomes c.args.map.now c.args.b _ false low (omega (arith, size (c.args.b / 8192) low))
    (ap (λ x. x == 1) (bit_at_clear_same w8 byte (c.args.b % 8) (omega arith)))
    (λ i in_byte apart. bit_at_clear_other w8 byte (c.args.b % 8) (omega arith) i in_byte apart)
