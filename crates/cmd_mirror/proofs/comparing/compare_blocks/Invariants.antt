use Rattle.cmd_mirror.specs.Comparing.{ComparedBelow}
use Rattle.cmd_mirror.proofs.comparing.compare_blocks.Given as goal

-- the blocks below this one are alike, or one of them differs
abbrev pub invariant-loop-b : goal.invariant-loop-b
invariant-loop-b g l = ComparedBelow g.D.Disk.tells l.b l.alike (g.D.Disk.state l.fn.first) (g.D.Disk.state l.first) (g.D.Disk.state l.fn.second) (g.D.Disk.state l.second)
