-- The first bit of the word, shifted down, is its first from k on.
use Rattle.engine_reuse.proofs.Bits.{none_from_zero, next_bit}
use Rattle.engine_reuse.proofs.words.next_in_word.Goals as goal

pub returns-then-rest-eq0-clause-none : goal.returns-then-rest-eq0-clause-none
returns-then-rest-eq0-clause-none c = λ i low _. none_from_zero c.args.word c.args.k i c.if-rest-eq0.true low

pub returns-clause-set : goal.returns-clause-set
returns-clause-set c = let h = next_bit c.args.word c.args.k c.first_in_word.result c.ranges.word.fits c.first_in_word.ensures.set.1 c.first_in_word.ensures.before in (h.low, h.within, h.set)

pub returns-clause-before : goal.returns-clause-before
returns-clause-before c = let h = next_bit c.args.word c.args.k c.first_in_word.result c.ranges.word.fits c.first_in_word.ensures.set.1 c.first_in_word.ensures.before in h.before
