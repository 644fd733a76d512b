use Rattle.lang_log.proofs.OneLog.{one_log}
use Rattle.lang_log.proofs.log_laws.a_tree_has_one_log.Goals as goal

pub returns : goal.returns
returns c = one_log
