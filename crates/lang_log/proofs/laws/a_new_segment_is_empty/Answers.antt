use Rattle.lang_log.proofs.Making.{create_step}
use Rattle.lang_log.proofs.laws.a_new_segment_is_empty.Goals as goal

pub returns : goal.returns
returns c = create_step
