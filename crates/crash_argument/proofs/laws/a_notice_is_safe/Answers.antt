use Rattle.crash_argument.proofs.steps.Safe.{safe_notice}
use Rattle.crash_argument.proofs.laws.a_notice_is_safe.Goals as goal

pub returns : goal.returns
returns c = record { safe = λ s base log l t floor n safe. safe_notice c.the_journal_is_lawful.ensures s base log l t floor safe n }
