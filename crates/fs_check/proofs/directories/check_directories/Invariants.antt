use Rattle.std.proofs.Common.{◌≡◌, false, IsTrue, length}
use Rattle.crash_stands.specs.Inodes.{inodes_of}
use Rattle.fs_files.specs.Effects.{LooksOnly}
use Rattle.fs_check.specs.Slots.{WentUpTo}
use Rattle.fs_check.proofs.directories.check_directories.Given as goal

abbrev pub invariant-loop-dir : goal.invariant-loop-dir
invariant-loop-dir g l = record {
  looks : LooksOnly g.S.Blocks.tells false (g.S.Blocks.state l.fn.blocks) (g.S.Blocks.state l.blocks);
  count : length l.named.items ≡ length l.nodes;
  went : IsTrue g.S.Blocks.tells → WentUpTo l.nodes (inodes_of (g.S.Blocks.state l.fn.blocks).books.geom.layout (g.N.Nodes.nodes (g.S.Blocks.state l.fn.blocks) l.files).files) l.dir l.named.items;
}
