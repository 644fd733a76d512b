use Rattle.crash_argument.proofs.log.Rows.{none_written, one_more, all_written, front_lost}
use Rattle.crash_argument.proofs.writes.writes_join_a_log_one_by_one.Goals as goal

pub returns : goal.returns
returns c = record { none = none_written; more = one_more; all = all_written; failed = front_lost }
