use Rattle.lang_tree.proofs.soundness.Numbered.{named}
use Rattle.lang_tree.proofs.soundness.Snapshots.{numbered}
use Rattle.lang_tree.proofs.snapshot_laws.numbers_of_snapshots_are_in_the_map.Goals as goal

pub returns-clause-number : goal.returns-clause-number
returns-clause-number c = numbered

pub returns-clause-name : goal.returns-clause-name
returns-clause-name c = named
