use Rattle.std.proofs.Common.{Ok}
use Rattle.engine_checkpoint.proofs.WaitRows.{Waits}
use Rattle.engine_checkpoint.specs.Waits.{IsOfRecord}
use Rattle.engine_checkpoint.proofs.Hears.{AreClosedRecords}
use Rattle.engine_checkpoint.proofs.waits.wait_upto.Given as goal

abbrev pub invariant-loop-at : goal.invariant-loop-at
invariant-loop-at g l = record {
  waits : Waits {A = Unit {0}} g.D.Disk.tells (IsOfRecord l.fn.pipeline l.fn.upto) (Ok tt) (g.D.Disk.state l.fn.disk) (g.D.Disk.state l.disk) l.fn.pipeline l.pipeline;
  upto : AreClosedRecords l.at l.fn.pipeline.committed.items l.pipeline.notes.notes;
}
