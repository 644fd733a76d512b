use Rattle.disk_memory.proofs.count_trees.Way.{way_first, way_second, way_end}
use Rattle.disk_memory.proofs.counts.leaf_at.Goals as goal

pub loop-place-preserved-then-left-counts : goal.loop-place-preserved-then-left-counts
loop-place-preserved-then-left-counts c = way_first _ _ _ _ _ c.requires.sums c.loop-place-test.true c.if-left-counts.true c.loop-place.invariant

pub loop-place-preserved : goal.loop-place-preserved
loop-place-preserved c = way_second _ _ _ _ _ c.requires.sums c.loop-place-test.true c.if-left-counts.false c.loop-place.invariant

pub returns : goal.returns
returns c =
    let e = way_end _ _ _ _ _ c.requires.marks c.loop-place-test.false c.loop-place.invariant in
    record { within = e.within; marked = e.marked; before = e.before }
