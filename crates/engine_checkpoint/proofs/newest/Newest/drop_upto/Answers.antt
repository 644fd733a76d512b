-- Each turn drops one block more.
use Rattle.std.proofs.Common.{arith}
use Rattle.engine_checkpoint.specs.Newest.{spot_of}
use Rattle.engine_checkpoint.proofs.Spots.{drop_push}
use Rattle.engine_checkpoint.proofs.newest.Newest.drop_upto.Goals as goal

pub loop-put-preserved : goal.loop-put-preserved
loop-put-preserved c = record {
  at = λ b. drop_push c.args.number (spot_of c.args.self.now b) (spot_of c.loop-put.self b) (spot_of c.drop_one.new.self b) c.args.payloads.now c.loop-put.put-index b c.put-item.result c.loop-put-test.true c.put-item.is (c.loop-put.invariant.at b) (c.drop_one.ensures.at b);
  count = omega (arith, c.drop_one.ensures.count, c.loop-put.invariant.count);
  spare = omega (arith, c.drop_one.ensures.spare, c.loop-put.invariant.spare);
}
