use Rattle.std.proofs.Common.{false, take, IsTrue}
use Rattle.disk_contract.specs.Disk.{AddsNotices, Spends}
use Rattle.crash_argument.specs.PipelineData.{AllNoticed}
use Rattle.engine_store.proofs.formatting.wait_for_all.Given as goal

abbrev pub invariant-loop-ticket : goal.invariant-loop-ticket
invariant-loop-ticket g l = record {
  spent : Spends false l.ticket-index 0 (g.D.Disk.state l.fn.disk) (g.D.Disk.state l.disk);
  notices : IsTrue g.D.Disk.tells → AddsNotices (g.D.Disk.state l.fn.disk).log (g.D.Disk.state l.disk).log;
  noticed : IsTrue g.D.Disk.tells → AllNoticed (g.D.Disk.state l.disk).log (take l.ticket-index l.tickets);
}
