use Rattle.std.proofs.Common.{take}
use Rattle.disk_memory.proofs.disk_calls.LastFound.{AreFound}
use Rattle.disk_memory.proofs.disk.last_places.Given as goal

abbrev pub invariant-loop-place : goal.invariant-loop-place
invariant-loop-place l = AreFound l.blocks (take l.place l.log) l.last.items
