use Rattle.std.proofs.Common.{◌-◌, false, IsTrue, length}
use Rattle.crash_stands.specs.Inodes.{inodes_of}
use Rattle.fs_files.specs.Effects.{LooksOnly}
use Rattle.fs_check.specs.Marks.{IsQueue, Searches}
use Rattle.fs_check.proofs.reach.reach.Given as goal

abbrev pub invariant-loop-at : goal.invariant-loop-at
invariant-loop-at g l = record {
  looks : LooksOnly g.S.Blocks.tells false (g.S.Blocks.state l.fn.blocks) (g.S.Blocks.state l.blocks);
  queued : IsQueue l.nodes l.marks.items l.queue.items;
  search : IsTrue g.S.Blocks.tells → Searches l.nodes (inodes_of (g.S.Blocks.state l.fn.blocks).books.geom.layout (g.N.Nodes.nodes (g.S.Blocks.state l.fn.blocks) l.files).files) l.marks.items l.queue.items l.at;
}

abbrev pub decreases-loop-at : goal.decreases-loop-at
decreases-loop-at g l = length l.nodes - l.at
