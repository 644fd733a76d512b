use Rattle.std.proofs.Common.{take}
use Rattle.disk_memory.specs.Settled.{AreSettledPlaces}
use Rattle.disk_memory.proofs.settled.settled_places.Given as goal

abbrev pub invariant-loop-place : goal.invariant-loop-place
invariant-loop-place l = AreSettledPlaces l.blocks (take l.place l.log.events) l.places.items
