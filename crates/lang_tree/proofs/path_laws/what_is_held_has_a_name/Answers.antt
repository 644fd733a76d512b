use Rattle.lang_tree.proofs.soundness.PathLaws.{held_by, first_name}
use Rattle.lang_tree.proofs.path_laws.what_is_held_has_a_name.Goals as goal

pub returns-clause-held : goal.returns-clause-held
returns-clause-held c = held_by

pub returns-clause-holds : goal.returns-clause-holds
returns-clause-holds c = first_name
