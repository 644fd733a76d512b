-- The zeros at the end of a word stand before its first bit.
use Rattle.std.proofs.lemmas.Nat.Bits.{bit_at-trailing_zeros}
use Rattle.std.specs.Int.{w64}
use Rattle.engine_reuse.proofs.words.first_in_word.Goals as goal

pub returns-clause-set : goal.returns-clause-set
returns-clause-set c = let h = bit_at-trailing_zeros w64 c.args.word c.requires c.ranges.word.fits in (h.0, h.1)

pub returns-clause-before : goal.returns-clause-before
returns-clause-before c = (bit_at-trailing_zeros w64 c.args.word c.requires c.ranges.word.fits).2
