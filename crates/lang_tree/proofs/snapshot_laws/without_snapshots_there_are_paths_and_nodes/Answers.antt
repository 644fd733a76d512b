use Rattle.lang_tree.proofs.soundness.Snapshots.{none_sound, none_unused, none_listed}
use Rattle.lang_tree.proofs.snapshot_laws.without_snapshots_there_are_paths_and_nodes.Goals as goal

pub returns-clause-sound : goal.returns-clause-sound
returns-clause-sound c = none_sound

pub returns-clause-unused : goal.returns-clause-unused
returns-clause-unused c = none_unused

pub returns-clause-listing : goal.returns-clause-listing
returns-clause-listing c = none_listed
