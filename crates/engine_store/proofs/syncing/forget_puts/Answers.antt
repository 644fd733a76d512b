use Rattle.engine_store.proofs.Forgetting.{put_gone}
use Rattle.std.specs.FinMap.{get}
use Rattle.engine_store.proofs.syncing.forget_puts.Goals as goal

pub loop-put-preserved : goal.loop-put-preserved
loop-put-preserved c = λ b. put_gone c.args.puts.now c.loop-put.put-index b c.put-item.result (get c.args.cache.now.kept b) c.loop-put.cache c.forget.new.self c.loop-put-test.true c.put-item.is c.forget.ensures (c.loop-put.invariant b)
