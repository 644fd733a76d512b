use Rattle.cmd_record.proofs.EventLines.{IsWritten}
use Rattle.cmd_record.proofs.events.write_events.Given as goal

abbrev pub invariant-loop-place : goal.invariant-loop-place
invariant-loop-place g l = IsWritten l.fn.from l.place l.fn.disk.log (g.K.Sink.taken l.fn.out) (g.K.Sink.taken l.out) (g.K.Sink.faults l.fn.out) (g.K.Sink.faults l.out)
