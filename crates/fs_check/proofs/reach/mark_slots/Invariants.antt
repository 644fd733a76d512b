use Rattle.std.proofs.Common.{take}
use Rattle.fs_check.specs.Marks.{Marks, targets}
use Rattle.fs_check.proofs.reach.mark_slots.Given as goal

abbrev pub invariant-loop-place : goal.invariant-loop-place
invariant-loop-place l = Marks l.nodes (targets (take l.place l.slots)) l.fn.marks l.marks l.fn.queue.items l.queue.items
