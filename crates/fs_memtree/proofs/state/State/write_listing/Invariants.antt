use Rattle.std.proofs.Common.{◌≡◌, Some}
use Rattle.std.specs.List.{AllByRecursion}
use Rattle.std.specs.FinMap.{get}
use Rattle.lang_tree.specs.Listing.{listing}
use Rattle.fs_memtree.specs.Serving.{whole_tree}
use Rattle.fs_memtree.proofs.outputs.Pieces.{Wrote}
use Rattle.fs_memtree.proofs.outputs.SnapshotLines.{kept_lines}
use Rattle.fs_memtree.proofs.state.State.write_listing.Given as goal

abbrev pub invariant-loop-name : goal.invariant-loop-name
invariant-loop-name g l = record {
  text : Wrote (g.K.Sink.taken l.fn.out) (g.K.Sink.taken l.out) (kept_lines l.name-iterator) (listing (whole_tree l.self));
  faults : g.K.Sink.faults l.out ≡ g.K.Sink.faults l.fn.out;
  found : AllByRecursion (λ e. get l.self.kept e.0 ≡ Some e.1) l.name-iterator;
}
