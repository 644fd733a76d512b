use Rattle.crash_argument.proofs.steps.Safe.{safe_wrote_header, safe_lost_header}
use Rattle.crash_argument.proofs.laws.a_header_is_safe.Goals as goal

pub returns : goal.returns
returns c = record { accepted = λ s base log l t floor n x h may safe. safe_wrote_header c.the_journal_is_lawful.ensures s base log l t floor safe n x h may; lost = λ s base log l t floor x h may safe. safe_lost_header c.the_journal_is_lawful.ensures s base log l t floor safe x h may }
