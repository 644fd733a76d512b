-- What was run on two images is as the engine says, and then the line of its answer was told.
use Rattle.cmd_program.proofs.Scripts.{mirrored_counts, mirrored_ends, mirrored_fault}
use Rattle.cmd_program.proofs.mirroring.run_mirrored.Goals as goal

pub returns-clause-runs : goal.returns-clause-runs
returns-clause-runs g c = record {
  answer = c.run_mirrored-answer.result;
  between = g.K.Sink.taken c.run_mirrored-answer.new.out;
  sink_between = g.K.Sink.faults c.run_mirrored-answer.new.out;
  comes = c.run_mirrored-answer.ensures.comes;
  counts = c.run_mirrored-answer.ensures.counts;
  cause = c.run_mirrored-answer.ensures.cause;
  reason = c.run_mirrored-answer.ensures.reason;
  ends = mirrored_ends _ _ _ _ _ _ c.end_mirrored.ensures.tells;
}

pub returns-clause-faults : goal.returns-clause-faults
returns-clause-faults g c = mirrored_fault _ _ _ _ _ _ _ _ _ _ _ c.run_mirrored-answer.ensures.comes c.run_mirrored-answer.ensures.counts c.end_mirrored.ensures.tells c.end_mirrored.ensures.counts

pub returns-clause-counts : goal.returns-clause-counts
returns-clause-counts g c = mirrored_counts _ _ _ _ c.run_mirrored-answer.ensures.counts c.end_mirrored.ensures.counts
