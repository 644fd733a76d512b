use Rattle.crash_argument.proofs.steps.Safe.{safe_known}
use Rattle.crash_argument.proofs.laws.noticed_records_are_known.Goals as goal

pub returns : goal.returns
returns c = record { known = λ s base log l t floor number n safe. safe_known c.the_journal_is_lawful.ensures s base log l t floor safe number n }
