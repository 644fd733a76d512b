use Rattle.fs_check.proofs.sound.Broken.{broken_unsound}
use Rattle.fs_check.proofs.laws.broken_blocks_are_not_sound.Goals as goal

pub returns-clause-sound : goal.returns-clause-sound
returns-clause-sound c = broken_unsound

pub returns-clause-tree : goal.returns-clause-tree
returns-clause-tree c = λ g m damage t broken stands. broken_unsound g m damage broken stands.sound
