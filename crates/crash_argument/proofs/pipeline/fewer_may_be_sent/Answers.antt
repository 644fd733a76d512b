use Rattle.crash_argument.proofs.pipe.BetweenSteps.{knows_less_sent}
use Rattle.crash_argument.proofs.pipeline.fewer_may_be_sent.Goals as goal

pub returns : goal.returns
returns c = knows_less_sent
