use Rattle.std.proofs.Common.{◌∙◌, arith}
use Rattle.base_types.specs.Seal.{blocks_of}
use Rattle.fs_check.proofs.keeping.Firm.{sets_all, sets_more}
use Rattle.fs_check.proofs.sound.Nodes.{data_at}
use Rattle.fs_check.proofs.firm.set_places.Goals as goal

pub set-requires : goal.set-requires
set-requires c =
    let is = data_at c.args.geom.now c.args.places.now c.loop-i.i c.place.result c.requires.data c.place.ensures in
    omega (arith, is.below, c.loop-i.invariant.0, c.requires.room)

pub loop-i-preserved : goal.loop-i-preserved
loop-i-preserved c = (
  c.set.auto.map ∙ c.loop-i.invariant.0,
  sets_more c.args.places.now c.loop-i.i c.place.result (blocks_of c.args.firm.now) (blocks_of c.loop-i.firm) (blocks_of c.set.new.map) c.place.ensures c.set.ensures.bits c.loop-i.invariant.1,
)

pub returns-clause-bits : goal.returns-clause-bits
returns-clause-bits c =
    sets_all c.args.places.now c.loop-i.i (blocks_of c.args.firm.now) (blocks_of c.loop-i.firm) (omega (arith, c.loop-i-test.false, c.loop-i.auto.i-end, c.count-i-end.ensures.value)) c.loop-i.invariant.1
