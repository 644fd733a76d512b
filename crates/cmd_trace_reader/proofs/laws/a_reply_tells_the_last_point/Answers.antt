use Rattle.cmd_trace_reader.proofs.Steps.{step_points}
use Rattle.cmd_trace_reader.proofs.laws.a_reply_tells_the_last_point.Goals as goal

pub returns : goal.returns
returns c = λ s cmd low. step_points s cmd low
