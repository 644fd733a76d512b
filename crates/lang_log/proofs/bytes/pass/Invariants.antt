use Rattle.std.proofs.Common.{◌-◌, ◌≤◌}
use Rattle.lang_log.specs.Spelling.{HasPassed}
use Rattle.lang_log.proofs.bytes.pass.Given as goal

abbrev pub invariant-loop-passed : goal.invariant-loop-passed
invariant-loop-passed l = HasPassed l.bytes l.passed.appends l.passed.bytes × (l.passed.appends ≤ l.most)

abbrev pub decreases-loop-passed : goal.decreases-loop-passed
decreases-loop-passed l = l.most - l.passed.appends
