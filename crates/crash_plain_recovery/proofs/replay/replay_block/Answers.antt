use Rattle.std.proofs.Common.{◌<◌, length, arith}
use Rattle.base_types.specs.Seal.{blocks_of}
use Rattle.crash_plain_recovery.proofs.Replays.{at_first, step}
use Rattle.crash_plain_recovery.proofs.replay.replay_block.Goals as goal

pub loop-each-init : goal.loop-each-init
loop-each-init c = (omega arith, at_first c.args.geom (blocks_of c.args.image.now) c.args.number c.args.run.now c.args.block.now c.requires.same)

pub loop-each-preserved : goal.loop-each-preserved
loop-each-preserved c =
    let more : c.loop-each.each-index < length c.args.run.now = omega (arith, c.loop-each-test.true, c.loop-each.auto.each-index-end) in (
      omega (arith, more),
      step c.args.geom (blocks_of c.args.image.now) c.args.number c.args.run.now c.loop-each.each-index c.each-item.result c.loop-each.block c.replay_record.new.block _
          more c.each-item.is c.replay_record.ensures c.loop-each.invariant.1,
    )
