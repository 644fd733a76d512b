use Rattle.fs_session.proofs.applying.Ticking.{ticked_first}
use Rattle.fs_session.proofs.laws.a_command_begins_with_a_tick.Goals as goal

pub returns : goal.returns
returns g c = λ cmd reply old new meant going unspent applies. ticked_first g.S.Blocks.tells g.S.Blocks.state cmd reply old new (applies.began meant going unspent)
