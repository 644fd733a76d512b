use Rattle.std.proofs.Common.{arith}
use Rattle.layout_journal.proofs.FirstBits.{all_bytes}
use Rattle.layout_journal.proofs.block.first_bits_block.Goals as goal

pub returns : goal.returns
returns c = all_bytes _ _ _ c.loop-i.i (omega (arith, c.loop-i.auto.i-end, c.loop-i-test.false)) c.loop-i.invariant
