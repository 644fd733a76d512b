use Rattle.fs_session.proofs.applying.Waiting.{begun_writes}
use Rattle.fs_session.proofs.laws.a_command_that_needs_no_wait_makes_none.Goals as goal

pub returns : goal.returns
returns g c = λ told old new f cmd reply good going unspent h needs applies. begun_writes g.S.Blocks.tells g.S.Blocks.state told f cmd reply old new good going h needs (applies.began good going unspent)
