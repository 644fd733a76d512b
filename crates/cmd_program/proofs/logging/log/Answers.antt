-- What was served is as the engine says, and then the line of its answer was told.
use Rattle.cmd_program.proofs.LogEndings.{log_counts, log_ends, log_fault}
use Rattle.cmd_program.proofs.logging.log.Goals as goal

pub returns-clause-logs : goal.returns-clause-logs
returns-clause-logs g c = record {
  answer = c.run_log-answer.result;
  between = g.K.Sink.taken c.run_log-answer.new.out;
  sink_between = g.K.Sink.faults c.run_log-answer.new.out;
  comes = c.run_log-answer.ensures.comes;
  counts = c.run_log-answer.ensures.counts;
  cause = c.run_log-answer.ensures.cause;
  reason = c.run_log-answer.ensures.reason;
  ends = log_ends _ _ _ _ _ _ c.end_log.ensures.tells;
}

pub returns-clause-faults : goal.returns-clause-faults
returns-clause-faults g c = log_fault _ _ _ _ _ _ _ _ _ _ c.run_log-answer.ensures.comes c.run_log-answer.ensures.counts c.end_log.ensures.tells c.end_log.ensures.counts

pub returns-clause-counts : goal.returns-clause-counts
returns-clause-counts g c = log_counts _ _ _ _ c.run_log-answer.ensures.counts c.end_log.ensures.counts
