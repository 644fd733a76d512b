use Rattle.std.proofs.Common.{sym}
use Rattle.fs_inodes.proofs.agreement.Agree.{agrees}
use Rattle.fs_inodes.proofs.sums.Costs.{figures_given, blocks_change}
use Rattle.fs_inodes.proofs.sums.Totals.{blocks_given, directories_given}
use Rattle.fs_inodes.proofs.figures.the_map_gives_the_figures.Goals as goal

pub returns-clause-blocks : goal.returns-clause-blocks
returns-clause-blocks c = λ limit m t is. blocks_given c.the_tree_is_lawful.ensures limit.nodes m t (agrees c.the_tree_is_lawful.ensures limit.nodes m t is) limit.layout

pub returns-clause-directories : goal.returns-clause-directories
returns-clause-directories c = λ limit m t is. sym (directories_given c.the_tree_is_lawful.ensures limit.nodes m t (agrees c.the_tree_is_lawful.ensures limit.nodes m t is) limit.layout)

pub returns-clause-over : goal.returns-clause-over
returns-clause-over c = λ bitmap shared alone s m cmd is. figures_given c.the_tree_is_lawful.ensures bitmap shared alone s m (agrees c.the_tree_is_lawful.ensures s.limit.nodes m s.tree is) cmd

pub returns-clause-change : goal.returns-clause-change
returns-clause-change c = λ bitmap s m new cmd live is after. blocks_change c.the_tree_is_lawful.ensures c.the_figures_are_the_blocks.ensures bitmap s m new cmd live is after
