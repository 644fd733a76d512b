use Rattle.std.proofs.Common.{◌+◌, refl, sym, subst, arith}
use Rattle.base_types.specs.Seal.{blocks_of}
use Rattle.disk_memory.proofs.settled_places.SettledBytes.{bytes_zero}
use Rattle.disk_memory.proofs.settled_places.SettledImages.{AreSettledTo, image_start, image_more, image_kept, image_whole}
use Rattle.disk_memory.proofs.settled.settled_image.Goals as goal
use Rattle.disk_memory.proofs.settled.settled_image.Goals.{then-place-gt0+in_ok-set, else-place-gt0}

pub loop-block-init : goal.loop-block-init
loop-block-init c = image_start c.args.base.now c.args.log.now.events c.args.places.now c.in_ok-image.image c.in_ok-image.ensures

pub set-requires : goal.set-requires
set-requires c = omega (arith, c.loop-block.invariant.size)

-- a block whose place isn't 0 is set, and any other has the base's bytes already
pub loop-block-preserved : goal.loop-block-preserved
loop-block-preserved c = elim c.if-place-gt0.branch [
  | then-place-gt0+in_ok-set w ↦ subst (λ image. AreSettledTo c.args.base.now c.args.log.now.events c.args.places.now image (c.loop-block.block + 1)) (sym w.image-is)
      (image_more c.args.base.now c.args.log.now.events c.args.places.now c.loop-block.image w.set.new.self c.loop-block.block w.settled_bytes-bytes.result.now (omega arith) w.in_ok-set.ensures.done w.settled_bytes-bytes.ensures.bytes c.loop-block.invariant)
  | else-place-gt0 w ↦ subst (λ image. AreSettledTo c.args.base.now c.args.log.now.events c.args.places.now image (c.loop-block.block + 1)) (sym w.image-is)
      (image_kept c.args.base.now c.args.log.now.events c.args.places.now c.loop-block.image c.loop-block.block (omega arith)
      (λ moment settled. bytes_zero c.settled_is_the_newest_noticed.ensures.noticed c.settled_is_the_newest_noticed.ensures.none (blocks_of c.args.base.now) c.args.log.now.events moment c.loop-block.block _ _ c.lawful.ensures.lawful (omega (arith, w.if-place-gt0.false)) refl settled) c.loop-block.invariant)
]

pub returns : goal.returns
returns c = λ moment settled. image_whole c.args.base.now c.args.log.now.events c.args.places.now c.loop-block.image c.loop-block.block moment (omega arith) c.loop-block.invariant settled
