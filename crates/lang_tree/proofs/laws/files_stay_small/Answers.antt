use Rattle.lang_tree.proofs.soundness.Sizes.{start_small, step_small}
use Rattle.lang_tree.proofs.laws.files_stay_small.Goals as goal

pub returns-clause-start : goal.returns-clause-start
returns-clause-start c = start_small

pub returns-clause-step : goal.returns-clause-step
returns-clause-step c = step_small
