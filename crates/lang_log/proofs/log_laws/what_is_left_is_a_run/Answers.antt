use Rattle.lang_log.proofs.Runs.{appended_of, opened_of, synced_of, trimmed_of}
use Rattle.lang_log.proofs.log_laws.what_is_left_is_a_run.Goals as goal

pub returns-clause-opened : goal.returns-clause-opened
returns-clause-opened c = opened_of

pub returns-clause-appended : goal.returns-clause-appended
returns-clause-appended c = appended_of

pub returns-clause-trimmed : goal.returns-clause-trimmed
returns-clause-trimmed c = trimmed_of

pub returns-clause-synced : goal.returns-clause-synced
returns-clause-synced c = synced_of
