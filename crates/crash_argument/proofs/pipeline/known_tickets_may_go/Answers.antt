use Rattle.crash_argument.proofs.pipe.BetweenSteps.{knows_fewer}
use Rattle.crash_argument.proofs.pipeline.known_tickets_may_go.Goals as goal

pub returns : goal.returns
returns c = knows_fewer
