use Rattle.std.proofs.Common.{Ok, false}
use Rattle.disk_contract.specs.declared.disk.DiskFault.{DiskFault}
use Rattle.engine_checkpoint.specs.Calls.{GoesOn}
use Rattle.engine_checkpoint.specs.Stages.{IsAtStage}
use Rattle.engine_checkpoint.specs.Waits.{WaitsSome}
use Rattle.engine_checkpoint.proofs.pipeline.Pipeline.drain.Given as goal

abbrev pub invariant-loop-round : goal.invariant-loop-round
invariant-loop-round g l = record {
  goes : GoesOn {A = Unit {0}} {E = DiskFault} g.D.Disk.tells l.round (Ok tt) (g.D.Disk.state l.fn.disk) (g.D.Disk.state l.disk) l.fn.self l.self l.fn.ring l.ring l.fn.reuse l.reuse;
  stage : IsAtStage l.round l.self;
  spends : WaitsSome false (g.D.Disk.state l.fn.disk) (g.D.Disk.state l.disk);
}
