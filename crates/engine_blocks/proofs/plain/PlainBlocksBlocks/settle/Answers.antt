use Rattle.engine_blocks.proofs.PlainServes.{same_served}
use Rattle.engine_blocks.proofs.plain.PlainBlocksBlocks.settle.Goals as goal

pub returns-clause-serves : goal.returns-clause-serves
returns-clause-serves c = same_served c.args.self.now
