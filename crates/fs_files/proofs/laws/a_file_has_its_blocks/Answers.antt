use Rattle.fs_files.specs.Drafts.{drafted}
use Rattle.fs_files.proofs.frames.Places.{file_places}
use Rattle.fs_files.proofs.laws.a_file_has_its_blocks.Goals as goal

pub returns : goal.returns
returns g c = λ s d k x tells draft file.
    file_places (g.S.Blocks.state s).books.geom (draft.sound tells).live (drafted d (g.S.Blocks.state s).map) k x (draft.sound tells).blocks file
