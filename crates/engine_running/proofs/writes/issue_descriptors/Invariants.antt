use Rattle.std.proofs.Common.{◌≡◌, ◌≤◌, ◌+◌, ℕ, IsTrue, length, vec_len, vec_capacity, false}
use Rattle.base_types.specs.Seal.{Blocks}
use Rattle.layout_journal.specs.Layout.{descriptor_count}
use Rattle.layout_journal.specs.Run.{places}
use Rattle.crash_argument.specs.Ledger.{Ledger, WrittenRecord}
use Rattle.crash_argument.specs.Points.{MountedSession, IsSafe}
use Rattle.crash_argument.specs.LastWrites.{FreshAreNew}
use Rattle.crash_argument.specs.PipelineData.{PipelineData}
use Rattle.crash_argument.specs.Recording.{IsNextRecord, IsPartlyWritten}
use Rattle.engine_running.specs.Record.{AreParts, record_of, descriptor_blocks}
use Rattle.disk_contract.specs.Disk.{OnlyWrites}
use Rattle.crash_argument.specs.Writes.{HasWritten}
use Rattle.engine_running.specs.Writes.{ring_writes}
use Rattle.engine_running.proofs.writes.issue_descriptors.Given as goal

abbrev pub invariant-loop-index : goal.invariant-loop-index
invariant-loop-index g l = record {
  spends : OnlyWrites false (g.D.Disk.state l.fn.disk) (g.D.Disk.state l.disk);
  taken : vec_len l.tickets ≡ vec_len l.fn.tickets + l.index;
  capacity : vec_capacity l.fn.tickets ≤ vec_capacity l.tickets;
  log : IsTrue g.D.Disk.tells → HasWritten (ring_writes l.geom (l.place + 1) (descriptor_blocks l.epoch (record_of l.number 0 l.paid l.laid))) l.index l.fn.tickets.items l.tickets.items (g.D.Disk.state l.fn.disk).log (g.D.Disk.state l.disk).log;
  under_way : IsTrue g.D.Disk.tells → (s : MountedSession) (k : Ledger) (p : PipelineData) (w : WrittenRecord) (m : Blocks) (t floor laid_so_far : ℕ) → FreshAreNew k → IsNextRecord k w m
      → l.geom ≡ k.geom → l.place ≡ w.says.place → AreParts w 1 (descriptor_blocks l.epoch (record_of l.number 0 l.paid l.laid)) → 1 + descriptor_count (length l.paid + length l.laid) ≤ places w.says
      → IsSafe s (g.D.Disk.state l.fn.disk).base (g.D.Disk.state l.fn.disk).log k t floor → IsPartlyWritten (g.D.Disk.state l.fn.disk).base (g.D.Disk.state l.fn.disk).log k p w l.fn.tickets.items laid_so_far 1
      → IsSafe s (g.D.Disk.state l.disk).base (g.D.Disk.state l.disk).log k t floor × IsPartlyWritten (g.D.Disk.state l.disk).base (g.D.Disk.state l.disk).log k p w l.tickets.items laid_so_far (1 + l.index);
}
