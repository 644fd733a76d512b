use Rattle.std.proofs.Common.{◌≤◌, refl, length, arith}
use Rattle.base_types.specs.Seal.{blocks_of}
use Rattle.disk_memory.proofs.crash_images.PutImage.{settled_there, whole, can}
use Rattle.disk_memory.proofs.crash.image_at.Goals as goal
use Rattle.disk_memory.proofs.crash_images.FateEach.{fates_count}

pub put_pending-requires-clause-size : goal.put_pending-requires-clause-size
put_pending-requires-clause-size c =
    (settled_there (length c.args.base.now) _ (blocks_of c.args.base.now) c.args.log.now.events c.args.moment c.args.moment c.in_ok-places.places.items _ c.in_ok-image.image refl c.blocks-2.ensures c.as_slice-2.ensures.value c.in_ok-places.ensures c.in_ok-image.ensures).count

pub put_pending-requires-clause-settled : goal.put_pending-requires-clause-settled
put_pending-requires-clause-settled c =
    let inside : c.args.moment ≤ length c.args.log.now.events = omega (arith, c.if-moment-events.false, c.len-events.ensures) in
    settled_there (length c.args.base.now) _ (blocks_of c.args.base.now) c.args.log.now.events c.args.moment _ c.in_ok-places.places.items _ c.in_ok-image.image
    (fates_count c.args.log.now.events c.args.moment _ _ c.in_ok-fates.fates.items c.as_slice-4.result.now inside c.as_slice-4.ensures.value c.in_ok-fates.ensures.fates)
    c.blocks-2.ensures c.as_slice-2.ensures.value c.in_ok-places.ensures c.in_ok-image.ensures

pub returns : goal.returns
returns c =
    let inside : c.args.moment ≤ length c.args.log.now.events = omega (arith, c.if-moment-events.false, c.len-events.ensures) in (
      can c.args.choice.now c.args.moment c.args.log.now.events inside c.in_ok-fates.ensures.pending,
      whole (length c.args.base.now) c.args.choice.now (blocks_of c.args.base.now) c.args.log.now.events c.args.moment c.in_ok-fates.fates.items c.as_slice-4.result.now c.put_pending.new.image
          (fates_count c.args.log.now.events c.args.moment _ _ c.in_ok-fates.fates.items c.as_slice-4.result.now inside c.as_slice-4.ensures.value c.in_ok-fates.ensures.fates)
          c.as_slice-4.ensures.value c.in_ok-fates.ensures.fates c.in_ok-put_pending.ensures,
    )
