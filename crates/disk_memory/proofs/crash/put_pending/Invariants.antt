use Rattle.std.proofs.Common.{◌≡◌, length, take}
use Rattle.base_types.specs.Seal.{blocks_of}
use Rattle.disk_memory.specs.Choice.{ChoiceState}
use Rattle.disk_memory.specs.Settled.{AreFates}
use Rattle.disk_memory.proofs.crash_images.PutWalk.{AreLeft}
use Rattle.disk_memory.proofs.crash.put_pending.Given as goal

abbrev pub invariant-loop-place : goal.invariant-loop-place
invariant-loop-place l =
    (length l.image ≡ length l.base)
    × ((c : ChoiceState) → AreFates (take (length l.fates) l.log.events) c.all c.named l.fates → AreLeft (length l.base) c (blocks_of l.base) (take (length l.fates) l.log.events) l.image l.place)
