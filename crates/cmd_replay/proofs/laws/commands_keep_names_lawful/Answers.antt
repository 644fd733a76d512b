use Rattle.cmd_replay.proofs.lawful.Changes.{start_names, start_bytes, step_names, step_bytes}
use Rattle.cmd_replay.proofs.laws.commands_keep_names_lawful.Goals as goal

pub returns-clause-start : goal.returns-clause-start
returns-clause-start c = start_names

pub returns-clause-step : goal.returns-clause-step
returns-clause-step c = step_names

pub returns-clause-start_bytes : goal.returns-clause-start_bytes
returns-clause-start_bytes c = start_bytes

pub returns-clause-step_bytes : goal.returns-clause-step_bytes
returns-clause-step_bytes c = step_bytes
