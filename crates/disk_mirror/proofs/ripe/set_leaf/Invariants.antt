use Rattle.disk_mirror.proofs.Trees.{IsChanging}
use Rattle.disk_mirror.proofs.ripe.set_leaf.Given as goal

abbrev pub invariant-loop-place : goal.invariant-loop-place
invariant-loop-place l = IsChanging l.fn.nodes l.nodes l.size l.leaf l.fn.ripe l.place

abbrev pub decreases-loop-place : goal.decreases-loop-place
decreases-loop-place l = l.place
