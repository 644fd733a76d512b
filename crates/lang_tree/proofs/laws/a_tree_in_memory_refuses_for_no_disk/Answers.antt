use Rattle.lang_tree.proofs.runs.Outside.{memory_alone, memory_exact}
use Rattle.lang_tree.proofs.laws.a_tree_in_memory_refuses_for_no_disk.Goals as goal

pub returns-clause-alone : goal.returns-clause-alone
returns-clause-alone c = memory_alone

pub returns-clause-exact : goal.returns-clause-exact
returns-clause-exact c = memory_exact
