use Rattle.engine_mount.proofs.Replays.{IsOnItsWay}
use Rattle.engine_mount.proofs.replay.replay_run.Given as goal

abbrev pub invariant-loop-b : goal.invariant-loop-b
invariant-loop-b g l = IsOnItsWay g.D.Disk.tells l.fn.run.header l.fn.run.records (g.D.Disk.state l.fn.disk) (g.D.Disk.state l.disk) l.b
