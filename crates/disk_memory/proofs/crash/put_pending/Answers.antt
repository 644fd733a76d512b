use Rattle.std.proofs.Common.{◌∙◌, sym, ap, subst, length, take, ◌+◌, arith, length-take}
use Rattle.base_types.specs.Seal.{blocks_of}
use Rattle.disk_memory.proofs.crash_images.PutWalk.{AreLeft, walk_start, walk_end}
use Rattle.disk_memory.proofs.crash_images.PutLoop.{puts_count, over_put, over_none}
use Rattle.disk_memory.proofs.crash.put_pending.Goals as goal
use Rattle.disk_memory.proofs.crash.put_pending.Goals.{in-Some+in_ok-put_event, in_default}

pub loop-place-init : goal.loop-place-init
loop-place-init c = (c.requires.size, λ choice are. walk_start (length c.args.base.now) choice (blocks_of c.args.base.now) (take (length c.args.fates.now) c.args.log.now.events) c.args.image.now c.requires.settled)

pub put_event-requires-clause-size : goal.put_event-requires-clause-size
put_event-requires-clause-size c = c.loop-place.invariant.0

pub loop-place-preserved : goal.loop-place-preserved
loop-place-preserved c = elim c.match-fates-place.branch [
  | in-Some+in_ok-put_event w ↦ (
    ap length w.image-is ∙ puts_count (length c.args.base.now) (blocks_of c.args.base.now) c.args.log.now.events c.args.places.now (length c.args.fates.now) c.loop-place.place w.in-Some.fate c.loop-place.image w.put_event.new.image
        c.requires.there c.loop-place-test.true c.requires.places w.in_ok-put_event.ensures ∙ c.loop-place.invariant.0,
    λ choice are. subst (λ image. AreLeft (length c.args.base.now) choice (blocks_of c.args.base.now) (take (length c.args.fates.now) c.args.log.now.events) image (c.loop-place.place + 1)) (sym w.image-is)
        (over_put (length c.args.base.now) choice (blocks_of c.args.base.now) c.args.log.now.events c.args.places.now c.args.fates.now c.loop-place.place w.in-Some.fate c.loop-place.image w.put_event.new.image
        c.requires.lawful c.requires.within c.requires.there c.loop-place-test.true c.requires.places w.in-Some.is w.in_ok-put_event.ensures are (c.loop-place.invariant.1 choice are)),
  )
  | in_default w ↦ (
    ap length w.image-is ∙ c.loop-place.invariant.0,
    λ choice are. subst (λ image. AreLeft (length c.args.base.now) choice (blocks_of c.args.base.now) (take (length c.args.fates.now) c.args.log.now.events) image (c.loop-place.place + 1)) (sym w.image-is)
        (over_none (length c.args.base.now) choice (blocks_of c.args.base.now) c.args.log.now.events c.args.places.now c.args.fates.now c.loop-place.place c.loop-place.image
        c.requires.lawful c.requires.within c.requires.there c.loop-place-test.true c.requires.places w.in_default.is are (c.loop-place.invariant.1 choice are)),
  )
]

pub returns : goal.returns
returns c = λ choice are.
    walk_end (length c.args.base.now) choice (blocks_of c.args.base.now) (take (length c.args.fates.now) c.args.log.now.events) c.loop-place.image c.loop-place.place
    (omega (arith, length-take (length c.args.fates.now) c.args.log.now.events, c.loop-place-test.false)) (c.loop-place.invariant.1 choice are)
