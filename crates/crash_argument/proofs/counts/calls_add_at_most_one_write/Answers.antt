use Rattle.crash_argument.proofs.pipe.CountSteps.{one_write, no_write_polled, no_write_waited}
use Rattle.crash_argument.proofs.counts.calls_add_at_most_one_write.Goals as goal

pub returns : goal.returns
returns c = record { write = λ b x r old new. one_write b x r old new; poll = λ r old new. no_write_polled r old new; wait = no_write_waited }
