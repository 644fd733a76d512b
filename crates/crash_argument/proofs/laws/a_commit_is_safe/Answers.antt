use Rattle.crash_argument.proofs.steps.Safe.{safe_wrote_commit, safe_lost_commit}
use Rattle.crash_argument.proofs.laws.a_commit_is_safe.Goals as goal

pub returns : goal.returns
returns c = record { accepted = λ s base log l t floor n w m ready safe. safe_wrote_commit c.the_journal_is_lawful.ensures s base log l t floor safe n w m ready; lost = λ s base log l t floor w m ready safe. safe_lost_commit c.the_journal_is_lawful.ensures s base log l t floor safe w m ready }
