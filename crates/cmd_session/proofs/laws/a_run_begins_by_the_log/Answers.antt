use Rattle.cmd_session.proofs.Stepping.{goes_at_first}
use Rattle.cmd_session.proofs.laws.a_run_begins_by_the_log.Goals as goal

pub returns : goal.returns
returns g c = λ told mount base m t s begins. goes_at_first mount base m t (g.S.Blocks.state s) (g.met.S.Blocks.is_told s told).awaits begins
