-- The bits of a number are those of its bytes.
use Rattle.std.proofs.Common.{arith}
use Rattle.layout_bitmap.proofs.Words.{word_in_is}
use Rattle.layout_bitmap.proofs.scan.word_in.Goals as goal

pub returns : goal.returns
returns c = word_in_is c.args.bytes.now c.args.at c.number_8.result (λ j. omega (arith, c.type_inv.bytes j)) c.number_8.ensures
