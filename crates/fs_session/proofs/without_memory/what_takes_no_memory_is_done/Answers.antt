use Rattle.fs_session.proofs.applying.Again.{done, never}
use Rattle.fs_session.proofs.without_memory.what_takes_no_memory_is_done.Goals as goal

pub returns-clause-never : goal.returns-clause-never
returns-clause-never g c = λ old new cmd reply none applies is. never g.S.Blocks.tells g.S.Blocks.state cmd old new reply none applies is

pub returns-clause-done : goal.returns-clause-done
returns-clause-done g c = λ old new cmd reply none applies there well. done g.S.Blocks.tells g.S.Blocks.state cmd old new reply none there applies well
