use Rattle.lang_log.proofs.Making.{none_logged, mkdir_step}
use Rattle.lang_log.proofs.laws.a_log_begins_empty.Goals as goal

pub returns-clause-before : goal.returns-clause-before
returns-clause-before c = none_logged

pub returns-clause-made : goal.returns-clause-made
returns-clause-made c = mkdir_step
