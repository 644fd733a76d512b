use Rattle.layout_journal.proofs.FirstBits.{HasBytes}
use Rattle.layout_journal.proofs.block.first_bits_block.Given as goal

abbrev pub invariant-loop-i : goal.invariant-loop-i
invariant-loop-i l = HasBytes l.block l.first l.k l.i
