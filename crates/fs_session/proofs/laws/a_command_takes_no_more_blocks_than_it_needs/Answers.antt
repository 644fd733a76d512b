use Rattle.fs_session.proofs.rooms.Taking.{takes}
use Rattle.fs_session.proofs.laws.a_command_takes_no_more_blocks_than_it_needs.Goals as goal

pub returns-clause-keeps : goal.returns-clause-keeps
returns-clause-keeps c = λ g f next old new cmd reply answers before. (takes g f reply next cmd old new before answers).0

pub returns-clause-few : goal.returns-clause-few
returns-clause-few c = λ g f next old new cmd reply answers before. (takes g f reply next cmd old new before answers).1
