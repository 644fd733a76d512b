use Rattle.lang_tree.proofs.soundness.Sound.{start_sound, step_sound, step_limit}
use Rattle.lang_tree.proofs.laws.commands_keep_a_tree_sound.Goals as goal

pub returns-clause-start : goal.returns-clause-start
returns-clause-start c = start_sound

pub returns-clause-step : goal.returns-clause-step
returns-clause-step c = step_sound

pub returns-clause-limit : goal.returns-clause-limit
returns-clause-limit c = step_limit
