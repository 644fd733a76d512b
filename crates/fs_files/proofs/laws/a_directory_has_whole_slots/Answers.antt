use Rattle.fs_files.specs.Drafts.{drafted}
use Rattle.fs_files.proofs.calling.Reads.{file_slots}
use Rattle.fs_files.proofs.laws.a_directory_has_whole_slots.Goals as goal

pub returns : goal.returns
returns g c = λ s d k x tells draft file dir.
    file_slots (g.S.Blocks.state s).books.geom (draft.sound tells).live (drafted d (g.S.Blocks.state s).map) k x (draft.sound tells).blocks file dir
