use Rattle.lang_log.proofs.Questions.{log_list, log_none, log_stat}
use Rattle.lang_log.proofs.question_laws.the_directory_of_a_log_is_told.Goals as goal

pub returns-clause-none : goal.returns-clause-none
returns-clause-none c = log_none

pub returns-clause-stat : goal.returns-clause-stat
returns-clause-stat c = log_stat

pub returns-clause-list : goal.returns-clause-list
returns-clause-list c = log_list
