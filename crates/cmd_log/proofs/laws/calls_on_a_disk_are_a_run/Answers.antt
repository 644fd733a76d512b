use Rattle.cmd_log.proofs.Moments.{is_run}
use Rattle.cmd_log.proofs.laws.calls_on_a_disk_are_a_run.Goals as goal

pub returns : goal.returns
returns c = is_run
