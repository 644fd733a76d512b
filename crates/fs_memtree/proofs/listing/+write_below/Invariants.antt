use Rattle.std.proofs.Common.{◌≡◌, ◌-◌, length}
use Rattle.std.specs.FinMap.{len}
use Rattle.fs_inodes.specs.Listing.{lines_below}
use Rattle.fs_memtree.specs.Kept.{tree_of}
use Rattle.fs_memtree.specs.Trails.{path_on}
use Rattle.fs_memtree.proofs.outputs.Lines.{AllFound, below}
use Rattle.fs_memtree.proofs.outputs.Pieces.{Wrote}
use Rattle.fs_memtree.proofs.listing.+write_below.Given as goal

abbrev pub decreases-write_below : goal.decreases-write_below
decreases-write_below g l = len l.nodes.now - length (path_on l.path.now)

abbrev pub invariant-loop-name : goal.invariant-loop-name
invariant-loop-name g l = record {
  text : Wrote (g.K.Sink.taken l.fn.out) (g.K.Sink.taken l.out) (below (tree_of l.nodes) (path_on l.path) l.name-iterator) (lines_below (tree_of l.nodes) (path_on l.path));
  faults : g.K.Sink.faults l.out ≡ g.K.Sink.faults l.fn.out;
  found : AllFound l.nodes l.number l.name-iterator;
}
