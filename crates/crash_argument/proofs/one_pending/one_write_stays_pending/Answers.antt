use Rattle.crash_argument.proofs.pipe.OnePendingSteps.{one_known, one_durable, one_batch, one_sent, one_placed, one_joins}
use Rattle.crash_argument.proofs.one_pending.one_write_stays_pending.Goals as goal

pub returns : goal.returns
returns c = record {
  known = λ base log l p uw number o. one_known base log l p uw o number;
  durable = λ base log l p uw h o keeps new. one_durable base log l p uw o keeps new h;
  batch = λ base log l p uw count o. one_batch base log l p uw o count;
  sent = λ base log l p uw n o. one_sent base log l p uw o n;
  placed = λ base log l p uw o. one_placed base log l p uw o;
  joins = λ base log l p uw w m tickets freed o. one_joins base log l p uw o w m tickets freed;
}
