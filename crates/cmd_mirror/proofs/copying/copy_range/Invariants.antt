use Rattle.std.proofs.Common.{◌≤◌, ◌-◌, Ok}
use Rattle.cmd_mirror.specs.Copies.{CopiesPart}
use Rattle.cmd_mirror.proofs.copying.copy_range.Given as goal

abbrev pub invariant-loop-first : goal.invariant-loop-first
invariant-loop-first g l = record {
  from : l.start ≤ l.first;
  upto : l.first ≤ l.end;
  part : CopiesPart g.D.Disk.tells l.start l.first (Ok tt) (g.D.Disk.state l.fn.original) (g.D.Disk.state l.original) (g.D.Disk.state l.fn.copy) (g.D.Disk.state l.copy);
}

-- the blocks that are left
abbrev pub decreases-loop-first : goal.decreases-loop-first
decreases-loop-first g l = l.end - l.first
