use Rattle.lang_log.proofs.Questions.{read_step}
use Rattle.lang_log.proofs.laws.a_segment_is_read.Goals as goal

pub returns : goal.returns
returns c = read_step
