use Rattle.fs_inodes.proofs.tree.the_slots_are_lawful.Goals as goal

pub returns : goal.returns
returns c = assumption
