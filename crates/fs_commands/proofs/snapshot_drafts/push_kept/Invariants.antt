use Rattle.std.proofs.Common.{◌≡◌, ◌++◌}
use Rattle.std.specs.List.{range_with_len}
use Rattle.crash_stands.specs.Files.{joined}
use Rattle.fs_commands.specs.Gathering.{kept_at_rank}
use Rattle.fs_commands.proofs.snapshot_drafts.push_kept.Given as goal

abbrev pub invariant-loop-rank : goal.invariant-loop-rank
invariant-loop-rank l = record {
  bytes : l.bytes.items ≡ l.fn.bytes.items ++ joined (kept_at_rank l.layout l.table) (range_with_len 0 l.rank);
}
