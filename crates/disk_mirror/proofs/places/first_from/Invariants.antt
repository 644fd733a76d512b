use Rattle.std.proofs.Common.{◌-◌}
use Rattle.disk_mirror.proofs.Ascending.{IsBetween}
use Rattle.disk_mirror.proofs.places.first_from.Given as goal

abbrev pub invariant-loop-low : goal.invariant-loop-low
invariant-loop-low l = IsBetween l.side l.pairs l.ticket l.low l.high

abbrev pub decreases-loop-low : goal.decreases-loop-low
decreases-loop-low l = l.high - l.low
