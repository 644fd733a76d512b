-- The walk has come so far.
use Rattle.std.proofs.Common.{length, ◌-◌}
use Rattle.cmd_replay.specs.Walking.{HasCome}
use Rattle.cmd_replay.proofs.points.search.Given as goal

abbrev pub invariant-loop-i : goal.invariant-loop-i
invariant-loop-i l = HasCome l.fn.text l.fn.low l.fn.moment l.fn.trace l.i l.begun l.walk

abbrev pub decreases-loop-i : goal.decreases-loop-i
decreases-loop-i l = length l.cmds - l.i
