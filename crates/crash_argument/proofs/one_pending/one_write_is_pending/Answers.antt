use Rattle.crash_argument.proofs.pipe.OnePendingSteps.{one_begins, one_notice, one_lost}
use Rattle.crash_argument.proofs.one_pending.one_write_is_pending.Goals as goal

pub returns : goal.returns
returns c = record { begins = one_begins; notice = λ base log l p uw t o. one_notice base log l p uw o t; lost = one_lost }
