use Rattle.fs_session.proofs.applying.Again.{again, first, keeps}
use Rattle.fs_session.proofs.without_memory.a_sync_without_memory_may_be_given_again.Goals as goal

pub returns-clause-keeps : goal.returns-clause-keeps
returns-clause-keeps g c = λ old new cmd is applies. keeps g.S.Blocks.tells g.S.Blocks.state cmd is old new applies

pub returns-clause-first : goal.returns-clause-first
returns-clause-first g c = λ old new cmd reply is some applies well. first g.S.Blocks.tells g.S.Blocks.state cmd is old new reply some applies well

pub returns-clause-again : goal.returns-clause-again
returns-clause-again g c = λ old mid new cmd reply is refused applies well. again g.S.Blocks.tells g.S.Blocks.state cmd is old mid new reply refused applies well
