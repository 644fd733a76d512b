use Rattle.lang_log.proofs.NoLog.{directory_in_it, file_there, no_row, other_name, past_the_end, torn_bytes, two_names}
use Rattle.lang_log.proofs.log_laws.a_tree_has_no_log_where.Goals as goal

pub returns-clause-file : goal.returns-clause-file
returns-clause-file c = file_there

pub returns-clause-directory : goal.returns-clause-directory
returns-clause-directory c = directory_in_it

pub returns-clause-name : goal.returns-clause-name
returns-clause-name c = other_name

pub returns-clause-shared : goal.returns-clause-shared
returns-clause-shared c = two_names

pub returns-clause-torn : goal.returns-clause-torn
returns-clause-torn c = torn_bytes

pub returns-clause-row : goal.returns-clause-row
returns-clause-row c = no_row

pub returns-clause-end : goal.returns-clause-end
returns-clause-end c = past_the_end
