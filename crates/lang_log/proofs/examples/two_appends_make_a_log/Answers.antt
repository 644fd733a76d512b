use Rattle.lang_log.proofs.ShortRuns.{two_make_a_log}
use Rattle.lang_log.proofs.examples.two_appends_make_a_log.Goals as goal

pub returns : goal.returns
returns c = two_make_a_log
