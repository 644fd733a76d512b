use Rattle.crash_example.proofs.Counted.{keeps_count}
use Rattle.crash_example.proofs.one_record.serve_one_record.Goals as goal

pub returns-clause-counts : goal.returns-clause-counts
returns-clause-counts g c = λ tells mounted counts late none within counted.
    keeps_count c.writes_keep_within_the_sum.ensures.point c.writes_keep_within_the_sum.ensures.part c.writes_keep_within_the_sum.ensures.home c.writes_keep_within_the_sum.ensures.header c.the_counts_are_of_the_log.ensures.more c.the_counts_are_of_the_log.ensures.within
    mounted counts c.args.«record».now c.args.settling.now c.settle_one_record.result _ _ late none within counted (c.settle_one_record.ensures.log tells)
