use Rattle.fs_inodes.proofs.commands.Commands.{unlink_shown, rmdir_shown}
use Rattle.fs_inodes.proofs.remove.a_lost_path_is_mapped.Goals as goal

pub returns-clause-unlink : goal.returns-clause-unlink
returns-clause-unlink c = λ s m new up name dir node is accepts leads ch. unlink_shown c.the_tree_is_lawful.ensures s m new is up name dir node accepts leads ch

pub returns-clause-rmdir : goal.returns-clause-rmdir
returns-clause-rmdir c = λ s m new up name dir node is accepts leads ch. rmdir_shown c.the_tree_is_lawful.ensures s m new is up name dir node accepts leads ch
