use Rattle.std.proofs.Common.{◌≡◌, [], false, IsTrue}
use Rattle.crash_stands.specs.Inodes.{Inodes}
use Rattle.lang_tree.specs.Tree.{Tree}
use Rattle.fs_inodes.specs.Listing.{at_and_below}
use Rattle.fs_files.specs.Effects.{LooksOnly}
use Rattle.fs_commands.specs.Listing.{HaveNumbers, IsMapIn, HasWritten, turns_left}
use Rattle.fs_commands.proofs.listing.list_from_root.Given as goal

abbrev pub invariant-loop-frame : goal.invariant-loop-frame
invariant-loop-frame g l = record {
  looks : LooksOnly g.S.Blocks.tells false (g.S.Blocks.state l.fn.blocks) (g.S.Blocks.state l.blocks);
  faults : g.K.Sink.faults l.out ≡ g.K.Sink.faults l.fn.out;
  numbers : HaveNumbers (g.S.Blocks.state l.fn.blocks).books.geom.i l.walk.frames.items;
  text : IsTrue g.S.Blocks.tells → (m : Inodes) (t : Tree) → IsMapIn (g.S.Blocks.state l.fn.blocks) (g.N.Nodes.nodes (g.S.Blocks.state l.fn.blocks) l.files) m t
      → HasWritten m t (at_and_below t []) l.walk (g.K.Sink.taken l.fn.out) (g.K.Sink.taken l.out);
}

abbrev pub decreases-loop-frame : goal.decreases-loop-frame
decreases-loop-frame g l = turns_left l.walk
