use Rattle.std.proofs.Common.{false, ◌+◌, ◌≤◌, length}
use Rattle.base_types.specs.Seal.{Blocks}
use Rattle.engine_recover.specs.Reading.{Gives, Searches}
use Rattle.crash_record.specs.Found.{IsFront}
use Rattle.engine_recover.proofs.run.recoverable_run.Given as goal

-- so many ring places are left
abbrev pub decreases-loop-run : goal.decreases-loop-run
decreases-loop-run g l = l.left

-- the records so far are a front of the run
abbrev pub invariant-loop-run : goal.invariant-loop-run
invariant-loop-run g l = record {
  only : Searches g.D.Disk.tells false (g.D.Disk.state l.fn.disk) (g.D.Disk.state l.disk);
  room : length l.run + l.left ≤ l.header.geom.j;
  front : (img : Blocks) → Gives g.D.Disk.tells (g.D.Disk.state l.fn.disk) img → IsFront img l.header l.run l.place l.left;
}
