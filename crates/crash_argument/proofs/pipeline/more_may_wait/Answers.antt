use Rattle.crash_argument.proofs.pipe.BetweenSteps.{knows_more}
use Rattle.crash_argument.proofs.pipeline.more_may_wait.Goals as goal

pub returns : goal.returns
returns c = knows_more
