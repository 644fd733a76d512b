use Rattle.std.proofs.Common.{◌≤◌, length, Ok}
use Rattle.cmd_mirror.specs.Copies.{SendsStretch}
use Rattle.cmd_mirror.proofs.copying.send_stretch.Given as goal

abbrev pub invariant-loop-i : goal.invariant-loop-i
invariant-loop-i g l = record {
  upto : l.i ≤ l.count;
  room : l.count ≤ length l.tickets;
  sends : SendsStretch g.D.Disk.tells l.first l.i l.tickets (Ok tt) (g.D.Disk.state l.fn.original) (g.D.Disk.state l.original) (g.D.Disk.state l.fn.copy) (g.D.Disk.state l.copy);
}
