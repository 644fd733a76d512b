use Rattle.fs_session.proofs.applying.Turning.{few_turns}
use Rattle.fs_session.proofs.laws.a_command_raises_the_numbers_little.Goals as goal

pub returns : goal.returns
returns g c = λ old new cmd reply applies. few_turns g.S.Blocks.tells g.S.Blocks.state cmd reply old new applies
