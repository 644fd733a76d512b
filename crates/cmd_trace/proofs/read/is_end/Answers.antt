use Rattle.cmd_trace.proofs.ReadPromises.{ends}
use Rattle.cmd_trace.proofs.read.is_end.Goals as goal

pub returns : goal.returns
returns c = rw c.eq.ensures (rw c.as_slice.ensures (ends c.args.line.now))
