use Rattle.std.proofs.Common.{◌-◌}
use Rattle.disk_memory.proofs.count_trees.Way.{IsOnWay}
use Rattle.disk_memory.proofs.counts.leaf_at.Given as goal

abbrev pub invariant-loop-place : goal.invariant-loop-place
invariant-loop-place l = IsOnWay l.counts l.size l.rank l.place l.left

abbrev pub decreases-loop-place : goal.decreases-loop-place
decreases-loop-place l = l.size - l.place
