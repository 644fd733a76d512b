use Rattle.lang_log.proofs.Removing.{unlink_step}
use Rattle.lang_log.proofs.laws.the_first_segment_goes.Goals as goal

pub returns : goal.returns
returns c = unlink_step
