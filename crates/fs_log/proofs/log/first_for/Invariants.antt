use Rattle.std.proofs.Common.{◌<◌, ◌≤◌, drop, length}
use Rattle.std.specs.List.{AllByRecursion}
use Rattle.fs_log.proofs.log.first_for.Given as goal

abbrev pub invariant-loop-left : goal.invariant-loop-left
invariant-loop-left l = (l.left ≤ length l.firsts) × AllByRecursion (λ n. l.number < n) (drop l.left l.firsts)

abbrev pub decreases-loop-left : goal.decreases-loop-left
decreases-loop-left l = l.left
