use Rattle.std.proofs.Common.{◌-◌}
use Rattle.disk_mirror.proofs.Trees.{IsOnWay}
use Rattle.disk_mirror.proofs.ripe.first_ripe.Given as goal

abbrev pub invariant-loop-place : goal.invariant-loop-place
invariant-loop-place l = IsOnWay l.first l.second l.nodes l.size l.place

abbrev pub decreases-loop-place : goal.decreases-loop-place
decreases-loop-place l = l.size - l.place
