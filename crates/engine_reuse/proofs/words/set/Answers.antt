-- The word with the bit set has its other bits.
use Rattle.std.proofs.Common.{◌≡◌, ℕ, ◌<◌, ◌/◌, ◌%◌, length, slice_index, ap, ◌∙◌, arith}
use Rattle.std.proofs.lemmas.List.{get_or_read}
use Rattle.std.proofs.lemmas.Nat.Bits.{bit_at_set_same, bit_at_set_other}
use Rattle.std.specs.Int.{bit_at, w64}
use Rattle.engine_reuse.proofs.Bits.{bit_was_set}
use Rattle.engine_reuse.proofs.words.set.Goals as goal

pub returns-clause-bits : goal.returns-clause-bits
returns-clause-bits c =
    let word : ℕ = c.index_mut.result.now in
    let low : c.args.b / 64 < length c.args.words.now.items = omega (arith, c.requires) in
    let is : word ≡ slice_index c.args.words.now.items (c.args.b / 64) = get_or_read c.args.words.now.items (c.args.b / 64) word low c.index_mut.ensures.value 0 in
    bit_was_set c.args.words.now.items c.args.b _ low (bit_at_set_same w64 word (c.args.b % 64) (omega arith))
    (λ i _ apart. bit_at_set_other w64 word (c.args.b % 64) (omega arith) i apart ∙ ap (λ x. bit_at x i) is)
