use Rattle.lang_tree.proofs.soundness.PathLaws.{unlink_finds, rmdir_finds, source_there, move_finds}
use Rattle.lang_tree.proofs.path_laws.what_goes_holds_nothing.Goals as goal

pub returns-clause-unlinked : goal.returns-clause-unlinked
returns-clause-unlinked c = unlink_finds

pub returns-clause-removed : goal.returns-clause-removed
returns-clause-removed c = rmdir_finds

pub returns-clause-there : goal.returns-clause-there
returns-clause-there c = source_there

pub returns-clause-moved : goal.returns-clause-moved
returns-clause-moved c = move_finds
