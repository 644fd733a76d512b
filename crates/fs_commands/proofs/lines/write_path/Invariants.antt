use Rattle.std.proofs.Common.{◌≡◌, drop}
use Rattle.lang_tree.specs.Listing.{slashed, path_text}
use Rattle.fs_commands.proofs.listed.Texts.{Wrote}
use Rattle.fs_commands.proofs.lines.write_path.Given as goal

abbrev pub invariant-loop-name : goal.invariant-loop-name
invariant-loop-name g l = record {
  text : Wrote (g.K.Sink.taken l.fn.out) (g.K.Sink.taken l.out) (slashed (drop l.name-index l.path)) (path_text l.path);
  faults : g.K.Sink.faults l.out ≡ g.K.Sink.faults l.fn.out;
}
