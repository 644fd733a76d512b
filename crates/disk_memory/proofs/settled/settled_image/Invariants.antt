use Rattle.disk_memory.proofs.settled_places.SettledImages.{AreSettledTo}
use Rattle.disk_memory.proofs.settled.settled_image.Given as goal

abbrev pub invariant-loop-block : goal.invariant-loop-block
invariant-loop-block l = AreSettledTo l.base l.log.events l.places l.image l.block
