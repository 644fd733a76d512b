use Rattle.crash_argument.proofs.steps.PointSteps.{point_stays, point_was}
use Rattle.crash_argument.proofs.points.a_point_is_for_ever.Goals as goal

pub returns : goal.returns
returns c = record { stays = point_stays; was = point_was }
