use Rattle.fs_inodes.proofs.tree.the_tree_is_lawful.Goals as goal

pub returns : goal.returns
returns c = assumption
