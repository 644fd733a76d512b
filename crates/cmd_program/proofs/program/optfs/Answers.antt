-- Each request is served, words that ask for nothing are told the usage, and memory may be wanting.
use Rattle.std.proofs.Common.{sym, ◌∙◌}
use Rattle.cmd_program.proofs.Requests.{completes_memory, completes_none, does_memory, does_usage}
use Rattle.cmd_program.proofs.program.optfs.Goals as goal

pub returns-in-Err-clause-does : goal.returns-in-Err-clause-does
returns-in-Err-clause-does g c = does_memory _ _ _ _ _ _ _

pub returns-in-Err-clause-completes : goal.returns-in-Err-clause-completes
returns-in-Err-clause-completes g c = completes_memory _ _

pub returns-in-Ok-None-clause-does : goal.returns-in-Ok-None-clause-does
returns-in-Ok-None-clause-does g c = does_usage _ _ _ _ (sym c.in-Ok-None.ensures.exact ∙ c.in-Ok-None.field-0-is) c.tell.ensures.told

pub returns-in-Ok-None-clause-completes : goal.returns-in-Ok-None-clause-completes
returns-in-Ok-None-clause-completes g c = completes_none _ _ _ (sym c.in-Ok-None.ensures.exact ∙ c.in-Ok-None.field-0-is)
