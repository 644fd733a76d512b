use Rattle.lang_log.proofs.Listed.{all_held, held_leads}
use Rattle.lang_log.proofs.question_laws.names_in_a_log_lead_somewhere.Goals as goal

pub returns-clause-held : goal.returns-clause-held
returns-clause-held c = held_leads

pub returns-clause-all : goal.returns-clause-all
returns-clause-all c = all_held
