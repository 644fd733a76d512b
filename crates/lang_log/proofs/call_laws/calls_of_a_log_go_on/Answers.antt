use Rattle.lang_log.proofs.Calls.{one_call_more}
use Rattle.lang_log.proofs.call_laws.calls_of_a_log_go_on.Goals as goal

pub returns-clause-more : goal.returns-clause-more
returns-clause-more c = one_call_more
