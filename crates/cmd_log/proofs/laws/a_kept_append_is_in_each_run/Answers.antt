use Rattle.cmd_log.proofs.Moments.{is_in_run}
use Rattle.cmd_log.proofs.laws.a_kept_append_is_in_each_run.Goals as goal

pub returns : goal.returns
returns c = is_in_run
