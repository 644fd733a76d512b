use Rattle.engine_store.proofs.Forgetting.{number_gone}
use Rattle.std.specs.FinMap.{get}
use Rattle.engine_store.proofs.syncing.forget_blocks.Goals as goal

pub loop-block-preserved : goal.loop-block-preserved
loop-block-preserved c = λ b. number_gone c.args.blocks.now c.loop-block.block-index 0 b (get c.args.cache.now.kept b) c.loop-block.cache c.forget.new.self c.loop-block-test.true c.forget.ensures (c.loop-block.invariant b)
