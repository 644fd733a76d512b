use Rattle.fs_inodes.proofs.scanning.Lawful.{tree_by_rules, rules_of_tree}
use Rattle.fs_inodes.proofs.scan.the_rules_make_a_tree.Goals as goal

pub returns-clause-tree : goal.returns-clause-tree
returns-clause-tree c = λ limit m rules. tree_by_rules c.the_tree_is_lawful.ensures limit m rules

pub returns-clause-rules : goal.returns-clause-rules
returns-clause-rules c = λ limit m t is. rules_of_tree c.the_tree_is_lawful.ensures limit m t is
