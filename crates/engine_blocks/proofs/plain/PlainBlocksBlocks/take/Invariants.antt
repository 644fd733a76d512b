use Rattle.std.proofs.Common.{take}
use Rattle.engine_blocks.proofs.HasTaken.{HasTaken}
use Rattle.engine_blocks.proofs.plain.PlainBlocksBlocks.take.Given as goal

abbrev pub invariant-loop-b : goal.invariant-loop-b
invariant-loop-b l = HasTaken l.fn.self l.self (take l.b-index l.list)
