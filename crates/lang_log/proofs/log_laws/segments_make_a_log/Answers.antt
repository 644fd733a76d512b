use Rattle.lang_log.proofs.Made.{grown_made, joined_made, lone_made, new_made, trimmed_made}
use Rattle.lang_log.proofs.log_laws.segments_make_a_log.Goals as goal

pub returns-clause-grown : goal.returns-clause-grown
returns-clause-grown c = grown_made

pub returns-clause-new : goal.returns-clause-new
returns-clause-new c = new_made

pub returns-clause-trimmed : goal.returns-clause-trimmed
returns-clause-trimmed c = trimmed_made

pub returns-clause-lone : goal.returns-clause-lone
returns-clause-lone c = lone_made

pub returns-clause-joined : goal.returns-clause-joined
returns-clause-joined c = joined_made
