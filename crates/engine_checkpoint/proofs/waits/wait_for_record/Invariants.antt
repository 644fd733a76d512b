use Rattle.std.proofs.Common.{◌≡◌, slice_get, Some, true, Ok}
use Rattle.engine_checkpoint.proofs.WaitRows.{Waits}
use Rattle.engine_running.specs.declared.commit.Committed.{Committed}
use Rattle.crash_argument.specs.HomeTest.{is_one_of}
use Rattle.engine_checkpoint.proofs.Hears.{AreClosedUpto}
use Rattle.engine_checkpoint.proofs.waits.wait_for_record.Given as goal

abbrev pub invariant-loop-k : goal.invariant-loop-k
invariant-loop-k g l = record {
  waits : Waits {A = Unit {0}} g.D.Disk.tells (λ u. (c : Committed) × (slice_get l.fn.pipeline.committed.items l.at ≡ Some c) × (is_one_of u c.tickets.items ≡ true)) (Ok tt) (g.D.Disk.state l.fn.disk) (g.D.Disk.state l.disk) l.fn.pipeline l.pipeline;
  upto : (c : Committed) → slice_get l.fn.pipeline.committed.items l.at ≡ Some c → AreClosedUpto l.k c.tickets.items l.pipeline.notes.notes;
}
