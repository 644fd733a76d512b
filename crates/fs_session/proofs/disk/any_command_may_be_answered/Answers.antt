use Rattle.fs_session.proofs.rooms.Quiet.{quiet_answer, stopped_answer}
use Rattle.fs_session.proofs.disk.any_command_may_be_answered.Goals as goal

pub returns-clause-memory : goal.returns-clause-memory
returns-clause-memory c = λ g f r cmd is upto. quiet_answer g f r is upto cmd

pub returns-clause-stopped : goal.returns-clause-stopped
returns-clause-stopped c = stopped_answer
