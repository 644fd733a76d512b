use Rattle.std.proofs.Common.{◌≡◌, ◌≤◌, ◌+◌, ◌||◌, ℕ, List, [], take, map, IsTrue, vec_len, vec_capacity, false}
use Rattle.crash_argument.specs.HomeTest.{is_one_of}
use Rattle.crash_argument.specs.Ledger.{Ledger}
use Rattle.crash_argument.specs.Points.{MountedSession, IsSafe}
use Rattle.crash_argument.specs.PipelineData.{PipelineData}
use Rattle.engine_running.specs.declared.put.Put.{Put}
use Rattle.engine_running.specs.Record.{block_of}
use Rattle.engine_running.specs.Rows.{put_of}
use Rattle.engine_notes.specs.Notes.{is_expected, is_noticed}
use Rattle.disk_contract.specs.Disk.{OnlyWrites}
use Rattle.crash_argument.specs.Writes.{HasWritten}
use Rattle.engine_running.specs.Writes.{fresh_write}
use Rattle.engine_checkpoint.specs.Agree.{home_pair, home_ticket}
use Rattle.engine_checkpoint.specs.Batch.{IsHomeRow, home_block}
use Rattle.engine_checkpoint.specs.HomeState.{HomeState, home_of, with_homes, sent_behind}
use Rattle.engine_checkpoint.specs.Kept.{of_sure}
use Rattle.engine_checkpoint.proofs.batch.write_batch.Given as goal

abbrev pub invariant-loop-block : goal.invariant-loop-block
invariant-loop-block g l = record {
  spends : OnlyWrites false (g.D.Disk.state l.fn.disk) (g.D.Disk.state l.disk);
  taken : vec_len l.home ≡ l.block-index;
  capacity : vec_capacity l.fn.home ≤ vec_capacity l.home;
  room : l.fn.notes.room ≤ l.notes.room + l.block-index;
  listed : map home_block l.home.items ≡ take l.block-index l.blocks;
  expected : (u : ℕ) → is_expected u l.notes.notes ≡ (is_one_of u (map home_ticket l.home.items) || is_expected u l.fn.notes.notes);
  noticed : (u : ℕ) → is_noticed u l.notes.notes ≡ is_noticed u l.fn.notes.notes;
  log : IsTrue g.D.Disk.tells → (row : List Put) → IsHomeRow (map of_sure l.records.items) row → map block_of row ≡ l.blocks → HasWritten (map fresh_write row) l.block-index [] (map home_ticket l.home.items) (g.D.Disk.state l.fn.disk).log (g.D.Disk.state l.disk).log;
  home : IsTrue g.D.Disk.tells → (row : List Put) → IsHomeRow (map of_sure l.records.items) row → map block_of row ≡ l.blocks → (s : MountedSession) (k : Ledger) (p : PipelineData) (freed : List (List ℕ)) (taken : List ℕ) (t floor : ℕ) → IsSafe s (g.D.Disk.state l.fn.disk).base (g.D.Disk.state l.fn.disk).log k t floor → HomeState (g.D.Disk.state l.fn.disk).base (g.D.Disk.state l.fn.disk).log k p freed taken
      → p.sent ≡ 0 → p.home ≡ [] → ((b : ℕ) → home_of k p freed b ≡ put_of b row)
      → IsSafe s (g.D.Disk.state l.disk).base (g.D.Disk.state l.disk).log k t floor × HomeState (g.D.Disk.state l.disk).base (g.D.Disk.state l.disk).log k (with_homes p (map home_pair l.home.items) (sent_behind 0 (take l.block-index row))) freed taken;
}
