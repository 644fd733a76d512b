use Rattle.crash_argument.proofs.steps.WindowSteps.{crash_holds, crash_each}
use Rattle.crash_argument.proofs.points.a_crash_leaves_a_point.Goals as goal

pub returns : goal.returns
returns c = record { holds = crash_holds; each = crash_each c.the_journal_is_lawful.ensures }
