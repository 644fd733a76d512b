use Rattle.std.proofs.Common.{subst, arith}
use Rattle.std.proofs.lemmas.Result.{err_from_is_err_and}
use Rattle.base_types.specs.Seal.{blocks_of}
use Rattle.fs_check.specs.Meeting.{HasMet}
use Rattle.fs_check.proofs.sound.Meets.{meet_more, unmeetable}
use Rattle.fs_check.proofs.sound.Nodes.{data_at}
use Rattle.fs_check.proofs.meeting.meet_places.Goals as goal

pub returns-in_err-meet_block-clause-damage : goal.returns-in_err-meet_block-clause-damage
returns-in_err-meet_block-clause-damage c = λ m are node begun.
    let p = err_from_is_err_and c.from_residual.result c.from_residual.ensures.1 in
    let is = data_at c.args.geom.now c.args.places.now c.loop-i.i c.place.result c.requires.data c.place.ensures.value in
    rw (p.1, p.2) (unmeetable c.args.geom.now m c.args.bits.now c.args.places.now (blocks_of c.loop-i.met) c.args.node c.loop-i.i c.place.result c.in_err-meet_block.field-0.0
    are node (c.loop-i.invariant m are node begun) c.place.ensures.value is.below (omega (arith, is.below)) c.in_err-meet_block.ensures.damage)

pub loop-i-preserved : goal.loop-i-preserved
loop-i-preserved c = λ m are node begun.
    let is = data_at c.args.geom.now c.args.places.now c.loop-i.i c.place.result c.requires.data c.place.ensures.value in
    meet_more c.args.geom.now m c.args.bits.now c.args.places.now (blocks_of c.loop-i.met) (blocks_of c.meet_block.new.met) c.args.node c.loop-i.i c.place.result
    are node (c.loop-i.invariant m are node begun) c.place.ensures.value is.below (omega (arith, is.below)) c.in_ok-meet_block.ensures.marked c.in_ok-meet_block.ensures.unmet c.in_ok-meet_block.ensures.met

pub returns-clause-met : goal.returns-clause-met
returns-clause-met c = λ m are node begun.
    subst (λ i. HasMet c.args.geom.now m c.args.node i (blocks_of c.loop-i.met)) (omega (arith, c.loop-i-test.false, c.loop-i.auto.i-end, c.count-i-end.ensures.value)) (c.loop-i.invariant m are node begun)
