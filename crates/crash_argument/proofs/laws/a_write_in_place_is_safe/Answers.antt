use Rattle.crash_argument.proofs.steps.Safe.{safe_wrote_in_place, safe_lost_in_place}
use Rattle.crash_argument.proofs.laws.a_write_in_place_is_safe.Goals as goal

pub returns : goal.returns
returns c = record { accepted = λ s base log l t floor n b x may safe. safe_wrote_in_place c.the_journal_is_lawful.ensures s base log l t floor safe n b x may; lost = λ s base log l t floor b x may safe. safe_lost_in_place c.the_journal_is_lawful.ensures s base log l t floor safe b x may }
