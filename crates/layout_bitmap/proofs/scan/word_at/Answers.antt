-- The 8 bytes are those in which the 64 bits stand.
use Rattle.std.proofs.Common.{◌+◌, ◌*◌, ◌/◌, ◌%◌, slice_index, refl, ap, ◌∙◌}
use Rattle.std.specs.Int.{bit_at}
use Rattle.layout_bitmap.proofs.Words.{word_is}
use Rattle.layout_bitmap.proofs.scan.word_at.Goals as goal

pub returns : goal.returns
returns c =
    word_is c.args.map.now c.args.w (c.args.w % 128 * 8) c.word_in.result refl
    (λ i low. c.word_in.ensures i low ∙ ap (λ bytes. bit_at (slice_index bytes (c.args.w % 128 * 8 + i / 8)) (i % 8)) c.as_slice.ensures)
