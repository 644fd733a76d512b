use Rattle.std.proofs.Common.{◌≡◌, ◌-◌, ◌≤◌, false, [], IsTrue, vec_len, vec_capacity}
use Rattle.disk_contract.specs.Disk.{OnlyWrites}
use Rattle.crash_argument.specs.Writes.{HasWritten}
use Rattle.engine_store.specs.Formatting.{content_of, row_of, WritesBelow}
use Rattle.engine_store.proofs.formatting.write_row.Given as goal

abbrev pub invariant-loop-b : goal.invariant-loop-b
invariant-loop-b g l = record {
  from : l.first ≤ l.b;
  upto : l.b ≤ l.end;
  spent : OnlyWrites false (g.D.Disk.state l.fn.disk) (g.D.Disk.state l.disk);
  taken : vec_len l.tickets ≡ l.b - l.first;
  capacity : vec_capacity l.tickets ≡ vec_capacity l.fn.tickets;
  log : IsTrue g.D.Disk.tells → HasWritten (row_of (content_of l.geom l.content) l.first (l.end - l.first)) (l.b - l.first) [] l.tickets.items (g.D.Disk.state l.fn.disk).log (g.D.Disk.state l.disk).log;
  below : IsTrue g.D.Disk.tells → WritesBelow l.end (g.D.Disk.state l.fn.disk).log (g.D.Disk.state l.disk).log;
}
