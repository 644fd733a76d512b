use Rattle.engine_store.proofs.NextRecord.{may_be_committed, next_is}
use Rattle.engine_store.proofs.commits.a_running_transaction_may_be_committed.Goals as goal

pub returns : goal.returns
returns c = record {
  is = may_be_committed c.a_running_transaction_may_be_the_next_record.ensures.is;
  taken = c.a_running_transaction_may_be_the_next_record.ensures.taken;
  freed = λ v l kept began geom. record { killed = c.a_running_transaction_may_be_the_next_record.ensures.killed v l began geom; dead = c.a_running_transaction_may_be_the_next_record.ensures.dead v l kept began geom };
  number = next_is;
}
