-- What is to come can only raise what was found.
use Rattle.std.proofs.Common.{◌≡◌, length, ◌-◌, max, drop}
use Rattle.lang_tree.specs.Points.{floor}
use Rattle.cmd_replay.proofs.points.floor_by.Given as goal

abbrev pub invariant-loop-i : goal.invariant-loop-i
invariant-loop-i l = max l.greatest (floor l.fn.moment (drop l.i l.fn.replies) (drop l.i l.fn.marks)) ≡ floor l.fn.moment l.fn.replies l.fn.marks

abbrev pub decreases-loop-i : goal.decreases-loop-i
decreases-loop-i l = length l.replies - l.i
