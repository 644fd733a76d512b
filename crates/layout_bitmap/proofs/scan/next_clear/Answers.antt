-- The bits of a word that are set in a row follow those before.
use Rattle.std.proofs.Common.{◌-◌, ◌%◌, arith}
use Rattle.base_types.specs.Seal.{blocks_of}
use Rattle.layout_bitmap.proofs.Words.{set_before, clear_there}
use Rattle.layout_bitmap.proofs.scan.next_clear.Goals as goal

pub returns-then-ones-skipped-clause-before : goal.returns-then-ones-skipped-clause-before
returns-then-ones-skipped-clause-before c = λ b from below.
    set_before (blocks_of c.args.map.now) c.word_at.result c.args.from c.loop-at.at c.ones_from-ones.result b (record { bits = c.word_at.ensures }) c.loop-at.invariant.1
    c.ones_from-ones.ensures.ones (omega (arith, c.if-ones-skipped.true)) from (omega (arith, below, c.min.ensures))

pub returns-then-ones-skipped-clause-here : goal.returns-then-ones-skipped-clause-here
returns-then-ones-skipped-clause-here c = λ low.
    clear_there (blocks_of c.args.map.now) c.word_at.result c.loop-at.at c.ones_from-ones.result c.min.result (record { bits = c.word_at.ensures })
    c.ones_from-ones.ensures.clear c.if-ones-skipped.true (omega (arith, low, c.min.ensures))

pub loop-at-preserved : goal.loop-at-preserved
loop-at-preserved c = (
  omega (arith, c.loop-at.invariant.0),
  λ b from below.
      set_before (blocks_of c.args.map.now) c.word_at.result c.args.from c.loop-at.at (64 - c.loop-at.at % 64) b (record { bits = c.word_at.ensures }) c.loop-at.invariant.1
      (λ i low. c.ones_from-ones.ensures.ones i (omega (arith, low, c.if-ones-skipped.false))) (omega arith) from below,
)
