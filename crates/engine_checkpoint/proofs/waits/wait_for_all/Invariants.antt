use Rattle.std.proofs.Common.{◌≡◌, true, Ok}
use Rattle.engine_checkpoint.proofs.WaitRows.{Waits}
use Rattle.engine_notes.specs.Notes.{is_open}
use Rattle.engine_checkpoint.proofs.Hears.{AreNoticedUpto}
use Rattle.engine_checkpoint.proofs.waits.wait_for_all.Given as goal

abbrev pub invariant-loop-at : goal.invariant-loop-at
invariant-loop-at g l = record {
  waits : Waits {A = Unit {0}} g.D.Disk.tells (λ u. is_open u l.fn.pipeline.notes.notes ≡ true) (Ok tt) (g.D.Disk.state l.fn.disk) (g.D.Disk.state l.disk) l.fn.pipeline l.pipeline;
  upto : AreNoticedUpto l.at l.fn.pipeline.notes.notes l.pipeline.notes.notes;
}
