use Rattle.lang_log.proofs.Questions.{name_read, name_stat}
use Rattle.lang_log.proofs.question_laws.what_is_in_a_log_is_told.Goals as goal

pub returns-clause-stat : goal.returns-clause-stat
returns-clause-stat c = name_stat

pub returns-clause-read : goal.returns-clause-read
returns-clause-read c = name_read
