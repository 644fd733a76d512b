use Rattle.crash_argument.proofs.pipe.BetweenSteps.{record_at, ring_apart}
use Rattle.crash_argument.proofs.log.Places.{behind_free}
use Rattle.crash_argument.proofs.between.records_stand_in_order.Goals as goal

pub returns : goal.returns
returns c = record { numbers = λ base log l k w keeps is. (record_at base log l k w keeps is).0; places = λ base log l k w keeps is. (record_at base log l k w keeps is).1; behind = λ base log l k keeps small. behind_free base log l keeps k small; apart = ring_apart }
