use Rattle.lang_log.proofs.ShortRuns.{a_directory, a_file, a_gap, a_short_name, a_torn_append, past_numbers, two_of_one_node}
use Rattle.lang_log.proofs.examples.spoiled_trees_have_no_log.Goals as goal

pub returns-clause-file : goal.returns-clause-file
returns-clause-file c = a_file

pub returns-clause-directory : goal.returns-clause-directory
returns-clause-directory c = a_directory

pub returns-clause-shared : goal.returns-clause-shared
returns-clause-shared c = two_of_one_node

pub returns-clause-torn : goal.returns-clause-torn
returns-clause-torn c = a_torn_append

pub returns-clause-gap : goal.returns-clause-gap
returns-clause-gap c = a_gap

pub returns-clause-name : goal.returns-clause-name
returns-clause-name c = a_short_name

pub returns-clause-end : goal.returns-clause-end
returns-clause-end c = past_numbers
