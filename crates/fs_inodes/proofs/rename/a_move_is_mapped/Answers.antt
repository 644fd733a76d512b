use Rattle.fs_inodes.proofs.commands.Commands.{rename_shown}
use Rattle.fs_inodes.proofs.rename.a_move_is_mapped.Goals as goal

pub returns : goal.returns
returns c = record { rename = λ s m new up to name other from into node is accepts leads leads_to ch. rename_shown c.the_tree_is_lawful.ensures s m new is up to name other from into node accepts leads leads_to ch }
