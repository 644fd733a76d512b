use Rattle.lang_tree.proofs.runs.Examples.{one_node, first_reasons, dir_moves, onto_file, long_refused, long_taken}
use Rattle.lang_tree.proofs.laws.short_runs_are_answered_so.Goals as goal

pub returns-clause-one_node : goal.returns-clause-one_node
returns-clause-one_node c = one_node

pub returns-clause-reasons : goal.returns-clause-reasons
returns-clause-reasons c = first_reasons

pub returns-clause-directory : goal.returns-clause-directory
returns-clause-directory c = dir_moves

pub returns-clause-onto : goal.returns-clause-onto
returns-clause-onto c = onto_file

pub returns-clause-long : goal.returns-clause-long
returns-clause-long c = long_refused

pub returns-clause-taken : goal.returns-clause-taken
returns-clause-taken c = long_taken
