use Rattle.std.proofs.Common.{◌∙◌, sym}
use Rattle.base_types.specs.Seal.{blocks_of}
use Rattle.engine_blocks.specs.PlainOf.{books_of}
use Rattle.engine_blocks.specs.Defined.{defined_at}
use Rattle.engine_blocks.proofs.plain.PlainBlocksBlocks.get.Goals as goal

pub returns-clause-block : goal.returns-clause-block
returns-clause-block c = λ tells counts. c.block.ensures ∙ sym (defined_at (books_of c.args.self.now) (blocks_of c.args.self.now.history.now) c.args.b counts)
