use Rattle.std.proofs.Common.{◌≡◌, ◌≤◌, ◌+◌, ℕ, IsTrue, map, vec_len, vec_capacity, false}
use Rattle.base_types.specs.Seal.{Blocks}
use Rattle.crash_argument.specs.Ledger.{Ledger, WrittenRecord}
use Rattle.crash_argument.specs.Points.{MountedSession, IsSafe}
use Rattle.crash_argument.specs.LastWrites.{FreshAreNew}
use Rattle.crash_argument.specs.PipelineData.{PipelineData}
use Rattle.crash_argument.specs.Recording.{IsNextRecord, IsPartlyWritten}
use Rattle.engine_running.specs.Record.{AreLaid}
use Rattle.disk_contract.specs.Disk.{OnlyWrites}
use Rattle.crash_argument.specs.Writes.{HasWritten}
use Rattle.engine_running.specs.Writes.{fresh_write}
use Rattle.engine_running.proofs.writes.issue_fresh.Given as goal

abbrev pub invariant-loop-put : goal.invariant-loop-put
invariant-loop-put g l = record {
  spends : OnlyWrites false (g.D.Disk.state l.fn.disk) (g.D.Disk.state l.disk);
  taken : vec_len l.tickets ≡ vec_len l.fn.tickets + l.put-index;
  capacity : vec_capacity l.fn.tickets ≤ vec_capacity l.tickets;
  log : IsTrue g.D.Disk.tells → HasWritten (map fresh_write l.laid) l.put-index l.fn.tickets.items l.tickets.items (g.D.Disk.state l.fn.disk).log (g.D.Disk.state l.disk).log;
  under_way : IsTrue g.D.Disk.tells → (s : MountedSession) (k : Ledger) (p : PipelineData) (w : WrittenRecord) (m : Blocks) (t floor issued : ℕ) → FreshAreNew k → IsNextRecord k w m → AreLaid l.laid w
      → IsSafe s (g.D.Disk.state l.fn.disk).base (g.D.Disk.state l.fn.disk).log k t floor → IsPartlyWritten (g.D.Disk.state l.fn.disk).base (g.D.Disk.state l.fn.disk).log k p w l.fn.tickets.items 0 issued
      → IsSafe s (g.D.Disk.state l.disk).base (g.D.Disk.state l.disk).log k t floor × IsPartlyWritten (g.D.Disk.state l.disk).base (g.D.Disk.state l.disk).log k p w l.tickets.items l.put-index issued;
}
