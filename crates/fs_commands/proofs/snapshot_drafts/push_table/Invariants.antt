use Rattle.std.proofs.Common.{◌≡◌, ◌≤◌, ◌++◌, IsTrue, false}
use Rattle.std.specs.List.{flat_map}
use Rattle.crash_snapshots.specs.Making.{kept_blocks}
use Rattle.fs_files.specs.Effects.{LooksOnly}
use Rattle.fs_commands.proofs.snapshot_drafts.push_table.Given as goal

abbrev pub invariant-loop-slot : goal.invariant-loop-slot
invariant-loop-slot g l = record {
  looks : LooksOnly g.S.Blocks.tells false (g.S.Blocks.state l.fn.blocks) (g.S.Blocks.state l.blocks);
  bytes : IsTrue g.S.Blocks.tells → l.bytes.items ≡ l.fn.bytes.items ++ flat_map (λ block. block) (kept_blocks (g.S.Blocks.state l.fn.blocks).books.geom (g.S.Blocks.state l.fn.blocks).map 0 l.slot);
}
