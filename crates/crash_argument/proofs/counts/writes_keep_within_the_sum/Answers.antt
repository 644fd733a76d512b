use Rattle.crash_argument.proofs.pipe.CountSteps.{counts_begin, counts_point, counts_part, counts_home, counts_fewer, counts_header}
use Rattle.crash_argument.proofs.counts.writes_keep_within_the_sum.Goals as goal

pub returns : goal.returns
returns c = record { begins = counts_begin; point = counts_point; part = counts_part; home = counts_home; fewer = counts_fewer; header = counts_header }
