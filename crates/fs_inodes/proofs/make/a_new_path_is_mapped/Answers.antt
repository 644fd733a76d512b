use Rattle.fs_inodes.proofs.commands.Commands.{link_shown}
use Rattle.fs_inodes.proofs.make.a_new_path_is_mapped.Goals as goal

pub returns : goal.returns
returns c = record { link = λ s m new path up name dir node links bytes is accepts to_file file leads ch. link_shown c.the_tree_is_lawful.ensures s m new is path up name dir node links bytes accepts to_file file leads ch }
