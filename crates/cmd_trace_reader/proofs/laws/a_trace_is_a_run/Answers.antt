use Rattle.cmd_trace_reader.proofs.AsRuns.{trace_runs, trace_stops}
use Rattle.cmd_trace_reader.proofs.laws.a_trace_is_a_run.Goals as goal

pub returns-clause-run : goal.returns-clause-run
returns-clause-run c = trace_runs record { session = c.a_reply_tells_the_session.ensures }

pub returns-clause-stops : goal.returns-clause-stops
returns-clause-stops c = trace_stops
