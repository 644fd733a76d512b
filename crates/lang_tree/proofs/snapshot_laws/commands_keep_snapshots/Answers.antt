use Rattle.std.proofs.Common.{refl}
use Rattle.lang_tree.proofs.soundness.Snapshots.{step_same, step_sound}
use Rattle.lang_tree.proofs.snapshot_laws.commands_keep_snapshots.Goals as goal

pub returns-clause-start : goal.returns-clause-start
returns-clause-start c = λ limit. refl

pub returns-clause-same : goal.returns-clause-same
returns-clause-same c = step_same

pub returns-clause-sound : goal.returns-clause-sound
returns-clause-sound c = step_sound
