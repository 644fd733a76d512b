use Rattle.lang_log.proofs.Rising.{names_rise}
use Rattle.lang_log.proofs.question_laws.names_in_a_log_rise.Goals as goal

pub returns : goal.returns
returns c = names_rise
