use Rattle.std.proofs.Common.{◌≡◌, ◌≤◌, ◌<◌, ◌+◌, ℕ, IsTrue, length, map, vec_len, vec_capacity, false}
use Rattle.base_types.specs.Seal.{Blocks}
use Rattle.layout_journal.specs.Run.{places}
use Rattle.crash_argument.specs.Ledger.{Ledger, WrittenRecord}
use Rattle.crash_argument.specs.Points.{MountedSession, IsSafe}
use Rattle.crash_argument.specs.LastWrites.{FreshAreNew}
use Rattle.crash_argument.specs.PipelineData.{PipelineData}
use Rattle.crash_argument.specs.Recording.{IsNextRecord, IsPartlyWritten}
use Rattle.engine_running.specs.Record.{AreParts, stored_put}
use Rattle.disk_contract.specs.Disk.{OnlyWrites}
use Rattle.crash_argument.specs.Writes.{HasWritten}
use Rattle.engine_running.specs.Writes.{ring_writes}
use Rattle.engine_running.proofs.writes.issue_payloads.Given as goal

abbrev pub invariant-loop-put : goal.invariant-loop-put
invariant-loop-put g l = record {
  at : l.at ≡ l.first + l.put-index;
  spends : OnlyWrites false (g.D.Disk.state l.fn.disk) (g.D.Disk.state l.disk);
  taken : vec_len l.tickets ≡ vec_len l.fn.tickets + l.put-index;
  capacity : vec_capacity l.fn.tickets ≤ vec_capacity l.tickets;
  log : IsTrue g.D.Disk.tells → HasWritten (ring_writes l.geom l.first (map stored_put l.paid)) l.put-index l.fn.tickets.items l.tickets.items (g.D.Disk.state l.fn.disk).log (g.D.Disk.state l.disk).log;
  under_way : IsTrue g.D.Disk.tells → (s : MountedSession) (k : Ledger) (p : PipelineData) (w : WrittenRecord) (m : Blocks) (t floor laid from : ℕ) → FreshAreNew k → IsNextRecord k w m
      → l.geom ≡ k.geom → l.first ≡ w.says.place + from → 0 < from → from + length l.paid ≤ places w.says → AreParts w from (map stored_put l.paid)
      → IsSafe s (g.D.Disk.state l.fn.disk).base (g.D.Disk.state l.fn.disk).log k t floor → IsPartlyWritten (g.D.Disk.state l.fn.disk).base (g.D.Disk.state l.fn.disk).log k p w l.fn.tickets.items laid from
      → IsSafe s (g.D.Disk.state l.disk).base (g.D.Disk.state l.disk).log k t floor × IsPartlyWritten (g.D.Disk.state l.disk).base (g.D.Disk.state l.disk).log k p w l.tickets.items laid (from + l.put-index);
}
