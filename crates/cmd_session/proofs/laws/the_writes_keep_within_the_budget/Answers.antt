use Rattle.cmd_session.proofs.Moments.{within_budget}
use Rattle.cmd_session.proofs.laws.the_writes_keep_within_the_budget.Goals as goal

pub returns : goal.returns
returns g c = λ s k t begun owed mounted cmds replies keeps at_first. within_budget k t begun owed mounted cmds replies (g.S.Blocks.state s) keeps at_first
