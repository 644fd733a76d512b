use Rattle.std.proofs.Common.{refl}
use Rattle.fs_inodes.proofs.slots.DirBytes.{parts_of, others_of, new_dir}
use Rattle.fs_inodes.proofs.dir_bytes.a_file_reads_as_itself.Goals as goal

pub returns-clause-parts : goal.returns-clause-parts
returns-clause-parts c = parts_of

pub returns-clause-others : goal.returns-clause-others
returns-clause-others c = others_of

pub returns-clause-directory : goal.returns-clause-directory
returns-clause-directory c = new_dir

pub returns-clause-file : goal.returns-clause-file
returns-clause-file c = λ l. refl
