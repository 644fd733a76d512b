use Rattle.lang_tree.proofs.runs.Examples.{three_blocks, first_name}
use Rattle.lang_tree.proofs.laws.small_changes_cost_so.Goals as goal

pub returns-clause-blocks : goal.returns-clause-blocks
returns-clause-blocks c = three_blocks

pub returns-clause-first_name : goal.returns-clause-first_name
returns-clause-first_name c = first_name
