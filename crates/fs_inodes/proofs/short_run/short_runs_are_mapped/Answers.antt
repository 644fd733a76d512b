use Rattle.fs_inodes.proofs.commands.Examples.{short_map, moves_map}
use Rattle.fs_inodes.proofs.short_run.short_runs_are_mapped.Goals as goal

pub returns-clause-map : goal.returns-clause-map
returns-clause-map c = short_map c.the_tree_is_lawful.ensures

pub returns-clause-moves : goal.returns-clause-moves
returns-clause-moves c = moves_map c.the_tree_is_lawful.ensures
