use Rattle.std.proofs.Common.{ℕ, false, [], take, IsTrue}
use Rattle.disk_contract.specs.Disk.{SpendsUpTo}
use Rattle.crash_argument.specs.Ledger.{Ledger, IsConsistentWith}
use Rattle.crash_argument.specs.PipelineData.{PipelineData, DataAgree, AllNoticed}
use Rattle.crash_argument.specs.Points.{MountedSession, IsSafe}
use Rattle.crash_example.specs.OneRecord.{AddsAmidNotices}
use Rattle.crash_example.proofs.one_record.make_known.Given as goal

abbrev pub invariant-loop-ticket : goal.invariant-loop-ticket
invariant-loop-ticket g l = record {
  log : IsTrue g.D.Disk.tells → AddsAmidNotices [] [] (g.D.Disk.state l.fn.disk).log (g.D.Disk.state l.disk).log;
  spent : SpendsUpTo false l.ticket-index (g.D.Disk.state l.fn.disk) (g.D.Disk.state l.disk);
  safe : IsTrue g.D.Disk.tells → (s : MountedSession) (k : Ledger) (t floor : ℕ)
      → IsSafe s (g.D.Disk.state l.fn.disk).base (g.D.Disk.state l.fn.disk).log k t floor → IsSafe s (g.D.Disk.state l.disk).base (g.D.Disk.state l.disk).log k t floor;
  knows : IsTrue g.D.Disk.tells → (k : Ledger) (p : PipelineData) → IsConsistentWith (g.D.Disk.state l.fn.disk).base (g.D.Disk.state l.fn.disk).log k × DataAgree (g.D.Disk.state l.fn.disk).base (g.D.Disk.state l.fn.disk).log k p
      → IsConsistentWith (g.D.Disk.state l.disk).base (g.D.Disk.state l.disk).log k × DataAgree (g.D.Disk.state l.disk).base (g.D.Disk.state l.disk).log k p;
  noticed : IsTrue g.D.Disk.tells → AllNoticed (g.D.Disk.state l.disk).log (take l.ticket-index l.tickets);
}
