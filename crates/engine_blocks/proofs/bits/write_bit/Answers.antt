use Rattle.std.proofs.Common.{arith}
use Rattle.engine_blocks.proofs.BitWrites.{bits_written}
use Rattle.engine_blocks.proofs.bits.write_bit.Goals as goal

pub returns-clause-bits : goal.returns-clause-bits
returns-clause-bits c = bits_written c.args.geom.now c.args.history.now.now c.set.new.self.now c.args.b c.args.bit c.block.result.now c.with_bit-block.result c.bit_block-at.result
    c.set.ensures.now c.bit_block-at.ensures.value (omega (arith, c.bit_block-at.ensures.within, c.requires.size)) c.block.ensures c.with_bit-block.ensures
