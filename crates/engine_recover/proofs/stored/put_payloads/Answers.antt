use Rattle.std.proofs.Common.{◌<◌, ◌-◌, length, get_or, refl, arith}
use Rattle.std.specs.Ordering.{nat_cmp}
use Rattle.std.specs.BTreeMap.{get}
use Rattle.engine_recover.proofs.Wholes.{blank}
use Rattle.engine_recover.proofs.Puts.{one_more}
use Rattle.engine_recover.proofs.stored.put_payloads.Goals as goal

pub loop-left-preserved : goal.loop-left-preserved
loop-left-preserved c =
    let more : c.loop-left.left - 1 < length c.args.payloads.now = omega (arith, c.loop-left.invariant.at, c.loop-left-test.true) in
    record {
      at = omega (arith, c.loop-left.invariant.at);
      each = λ b. one_more c.args.geom c.args.first (c.loop-left.left - 1) c.loop-left.left b c.ring_block-at.result c.args.payloads.now (get_or c.args.payloads.now (c.loop-left.left - 1) blank)
          (get nat_cmp c.loop-left.stored b) (get nat_cmp c.put.new.stored b) (get nat_cmp c.args.stored.now b)
          more (omega (arith, c.loop-left-test.true)) refl c.ring_block-at.ensures (c.in_ok-put.ensures b) (c.loop-left.invariant.each b);
    }
