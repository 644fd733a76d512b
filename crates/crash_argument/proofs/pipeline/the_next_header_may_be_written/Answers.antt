use Rattle.crash_argument.proofs.pipe.NextHeader.{next_header_may_be, knows_next_header}
use Rattle.crash_argument.proofs.pipeline.the_next_header_may_be_written.Goals as goal

pub returns : goal.returns
returns c = record { may = next_header_may_be; knows = knows_next_header }
