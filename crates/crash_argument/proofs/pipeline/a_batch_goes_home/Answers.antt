use Rattle.crash_argument.proofs.pipe.Homing.{knows_batch, knows_home, knows_sent}
use Rattle.crash_argument.proofs.pipeline.a_batch_goes_home.Goals as goal

pub returns : goal.returns
returns c = record { taken = λ base log l p count keeps k. knows_batch base log l keeps p k count; written = λ base log l p t b x keeps k. knows_home base log l keeps p k t b x; sent = λ base log l p n keeps k. knows_sent base log l keeps p k n }
