use Rattle.std.proofs.Common.{◌≡◌, ◌++◌, All, IsTrue, false, length, take}
use Rattle.std.specs.List.{flat_map}
use Rattle.crash_snapshots.specs.Making.{blocks_at}
use Rattle.fs_files.specs.Effects.{LooksOnly}
use Rattle.fs_commands.proofs.snapshot_drafts.push_dirs.Given as goal

abbrev pub invariant-loop-b : goal.invariant-loop-b
invariant-loop-b g l = record {
  looks : LooksOnly g.S.Blocks.tells false (g.S.Blocks.state l.fn.blocks) (g.S.Blocks.state l.blocks);
  bytes : IsTrue g.S.Blocks.tells → All (λ b. length ((g.S.Blocks.state l.fn.blocks).map b) ≡ 1024) l.dirs
      → l.bytes.items ≡ l.fn.bytes.items ++ flat_map (λ block. block) (blocks_at (g.S.Blocks.state l.fn.blocks).map (take l.b-index l.dirs));
}
