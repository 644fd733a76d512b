use Rattle.std.proofs.Common.{arith}
use Rattle.crash_argument.proofs.steps.WindowSteps.{between_start}
use Rattle.crash_argument.proofs.points.a_call_begins_safe.Goals as goal

pub returns : goal.returns
returns c = λ s base log l t floor safe. record { keeps = safe.keeps; points = safe.points; low = omega arith; window = between_start c.the_journal_is_lawful.ensures s base log l safe.keeps safe.points }
