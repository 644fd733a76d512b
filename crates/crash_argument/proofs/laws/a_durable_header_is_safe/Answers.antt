use Rattle.crash_argument.proofs.steps.Safe.{safe_turned}
use Rattle.crash_argument.proofs.laws.a_durable_header_is_safe.Goals as goal

pub returns : goal.returns
returns c = record { turns = λ s base log l t floor h d safe. safe_turned c.the_journal_is_lawful.ensures s base log l t floor safe h d }
