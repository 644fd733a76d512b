use Rattle.fs_inodes.proofs.commands.Commands.{write_shown, fill_shown, truncate_shown}
use Rattle.fs_inodes.proofs.bytes.new_bytes_are_mapped.Goals as goal

pub returns-clause-write : goal.returns-clause-write
returns-clause-write c = λ s m new path offset bytes node links old is accepts some leads file ch. write_shown c.the_tree_is_lawful.ensures s m new is path offset bytes node links old accepts some leads file ch

pub returns-clause-fill : goal.returns-clause-fill
returns-clause-fill c = λ s m new path offset count byte node links old is accepts some leads file ch. fill_shown c.the_tree_is_lawful.ensures s m new is path offset count byte node links old accepts some leads file ch

pub returns-clause-truncate : goal.returns-clause-truncate
returns-clause-truncate c = λ s m new path size node links old is accepts differs leads file ch. truncate_shown c.the_tree_is_lawful.ensures s m new is path size node links old accepts differs leads file ch
