use Rattle.crash_argument.proofs.steps.Safe.{safe_wrote_ring, safe_lost_ring}
use Rattle.crash_argument.proofs.laws.a_ring_write_is_safe.Goals as goal

pub returns : goal.returns
returns c = record { accepted = λ s base log l t floor n place x may safe. safe_wrote_ring c.the_journal_is_lawful.ensures s base log l t floor safe n place x may; lost = λ s base log l t floor place x may safe. safe_lost_ring c.the_journal_is_lawful.ensures s base log l t floor safe place x may }
