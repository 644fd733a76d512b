use Rattle.lang_log.proofs.Changes.{append_step}
use Rattle.lang_log.proofs.laws.a_segment_grows_by_an_append.Goals as goal

pub returns : goal.returns
returns c = append_step
