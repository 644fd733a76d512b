-- The bits of a word that was shifted down are those from bit k on.
use Rattle.layout_bitmap.proofs.Words.{ones_from_is}
use Rattle.layout_bitmap.proofs.scan.ones_from.Goals as goal

pub returns-clause-ones : goal.returns-clause-ones
returns-clause-ones c = (ones_from_is c.args.word c.args.k c.trailing_ones.result c.ranges.word.fits c.trailing_ones.ensures).0

pub returns-clause-clear : goal.returns-clause-clear
returns-clause-clear c = (ones_from_is c.args.word c.args.k c.trailing_ones.result c.ranges.word.fits c.trailing_ones.ensures).1
