use Rattle.crash_argument.proofs.pipe.BetweenSteps.{knows_later}
use Rattle.crash_argument.proofs.pipeline.fewer_may_wait.Goals as goal

pub returns : goal.returns
returns c = knows_later
