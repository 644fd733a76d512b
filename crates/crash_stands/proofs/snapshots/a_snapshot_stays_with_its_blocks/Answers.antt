use Rattle.crash_stands.proofs.KeptSame.{stays_the_same, keeps_so, sound_so, kept_there, kept_here}
use Rattle.crash_stands.proofs.Living.{rests_on_marks}
use Rattle.crash_stands.proofs.snapshots.a_snapshot_stays_with_its_blocks.Goals as goal

pub returns-clause-files : goal.returns-clause-files
returns-clause-files c = stays_the_same

pub returns-clause-tree : goal.returns-clause-tree
returns-clause-tree c = λ g m n places k fits same keeps. keeps_so g m n places fits same k keeps

pub returns-clause-sound : goal.returns-clause-sound
returns-clause-sound c = sound_so

pub returns-clause-blocks : goal.returns-clause-blocks
returns-clause-blocks c = λ g m n places fits same k i b. (kept_there g m n places fits same k i b, kept_here g m n places fits same k i b)

pub returns-clause-marked : goal.returns-clause-marked
returns-clause-marked c = rests_on_marks
