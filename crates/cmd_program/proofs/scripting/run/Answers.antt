-- What was run is as the engine says, and then the line of its answer was told.
use Rattle.cmd_program.proofs.Scripts.{script_counts, script_ends, script_fault}
use Rattle.cmd_program.proofs.scripting.run.Goals as goal

pub returns-clause-runs : goal.returns-clause-runs
returns-clause-runs g c = record {
  answer = c.run_script-answer.result;
  between = g.K.Sink.taken c.run_script-answer.new.out;
  sink_between = g.K.Sink.faults c.run_script-answer.new.out;
  comes = c.run_script-answer.ensures.comes;
  counts = c.run_script-answer.ensures.counts;
  cause = c.run_script-answer.ensures.cause;
  reason = c.run_script-answer.ensures.reason;
  ends = script_ends _ _ _ _ _ _ c.end_script.ensures.tells;
}

pub returns-clause-faults : goal.returns-clause-faults
returns-clause-faults g c = script_fault _ _ _ _ _ _ _ _ _ _ c.run_script-answer.ensures.comes c.run_script-answer.ensures.counts c.end_script.ensures.tells c.end_script.ensures.counts

pub returns-clause-counts : goal.returns-clause-counts
returns-clause-counts g c = script_counts _ _ _ _ c.run_script-answer.ensures.counts c.end_script.ensures.counts
