use Rattle.std.proofs.Common.{◌≤◌, Ok}
use Rattle.cmd_mirror.specs.Copies.{WaitsForStretch}
use Rattle.cmd_mirror.proofs.copying.wait_for_stretch.Given as goal

abbrev pub invariant-loop-i : goal.invariant-loop-i
invariant-loop-i g l = record {
  upto : l.i ≤ l.count;
  waits : WaitsForStretch g.D.Disk.tells l.i l.count l.tickets (Ok tt) (g.D.Disk.state l.fn.copy) (g.D.Disk.state l.copy);
}
