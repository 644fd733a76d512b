use Rattle.disk_memory.proofs.count_trees.Change.{IsChanging}
use Rattle.disk_memory.proofs.counts.set_leaf.Given as goal

abbrev pub invariant-loop-place : goal.invariant-loop-place
invariant-loop-place l = IsChanging l.fn.counts l.counts l.size l.leaf l.mark l.place

abbrev pub decreases-loop-place : goal.decreases-loop-place
decreases-loop-place l = l.place
