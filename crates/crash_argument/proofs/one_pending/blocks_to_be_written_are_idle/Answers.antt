use Rattle.crash_argument.proofs.pipe.OnePendingSteps.{fresh_idle, home_idle}
use Rattle.crash_argument.proofs.one_pending.blocks_to_be_written_are_idle.Goals as goal

pub returns : goal.returns
returns c = record { fresh = λ base log l p uw b o. fresh_idle base log l p uw o b; home = λ base log l p uw b x o k. home_idle base log l p uw o k b x }
