use Rattle.crash_argument.proofs.pipe.OnePendingSteps.{one_under_way, one_header, one_home}
use Rattle.crash_argument.proofs.one_pending.a_write_to_an_idle_block_is_the_one.Goals as goal

pub returns : goal.returns
returns c = record { under_way = λ base log l p uw t b x o. one_under_way base log l p uw o t b x; header = λ base log l p uw t x h o. one_header base log l p uw o t x h; home = λ base log l p uw t b x o. one_home base log l p uw o t b x }
