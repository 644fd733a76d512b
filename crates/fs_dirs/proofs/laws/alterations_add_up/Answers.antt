use Rattle.fs_dirs.proofs.writing.Alterings.{alters_both, alters_node, altered_price}
use Rattle.fs_dirs.proofs.laws.alterations_add_up.Goals as goal

pub returns-clause-both : goal.returns-clause-both
returns-clause-both c = alters_both

pub returns-clause-node : goal.returns-clause-node
returns-clause-node c = alters_node

pub returns-clause-price : goal.returns-clause-price
returns-clause-price c = altered_price
