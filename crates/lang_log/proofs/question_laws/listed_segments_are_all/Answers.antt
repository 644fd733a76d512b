use Rattle.lang_log.proofs.Listed.{all_listed}
use Rattle.lang_log.proofs.question_laws.listed_segments_are_all.Goals as goal

pub returns : goal.returns
returns c = all_listed
