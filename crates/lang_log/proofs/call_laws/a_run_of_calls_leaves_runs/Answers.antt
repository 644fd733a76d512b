use Rattle.lang_log.proofs.Calls.{appends_more, leave, opened_leave, synced_stays}
use Rattle.lang_log.proofs.call_laws.a_run_of_calls_leaves_runs.Goals as goal

pub returns-clause-opened : goal.returns-clause-opened
returns-clause-opened c = opened_leave

pub returns-clause-later : goal.returns-clause-later
returns-clause-later c = leave

pub returns-clause-appends : goal.returns-clause-appends
returns-clause-appends c = appends_more

pub returns-clause-kept : goal.returns-clause-kept
returns-clause-kept c = synced_stays
