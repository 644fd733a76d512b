use Rattle.fs_dirs.proofs.writing.Nodes.{still_read}
use Rattle.fs_dirs.proofs.laws.directories_are_read.Goals as goal

pub returns : goal.returns
returns c = still_read
