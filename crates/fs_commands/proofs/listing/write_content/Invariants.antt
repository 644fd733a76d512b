use Rattle.std.proofs.Common.{◌≡◌, ◌≤◌, ◌-◌, false, IsTrue, length, drop, Some}
use Rattle.hex.specs.Hex.{encode_lower}
use Rattle.crash_stands.specs.Files.{FileNode}
use Rattle.lang_tree.specs.Listing.{digits_behind_blank}
use Rattle.fs_files.specs.Effects.{LooksOnly}
use Rattle.fs_commands.proofs.listed.Texts.{Wrote}
use Rattle.fs_commands.proofs.listing.write_content.Given as goal

abbrev pub invariant-loop-at : goal.invariant-loop-at
invariant-loop-at g l = record {
  looks : LooksOnly g.S.Blocks.tells false (g.S.Blocks.state l.fn.blocks) (g.S.Blocks.state l.blocks);
  faults : g.K.Sink.faults l.out ≡ g.K.Sink.faults l.fn.out;
  within : l.at ≤ l.size;
  text : IsTrue g.S.Blocks.tells → (x : FileNode) → (g.N.Nodes.nodes (g.S.Blocks.state l.fn.blocks) l.files).files l.number ≡ Some x → l.size ≡ length x.bytes
      → Wrote (g.K.Sink.taken l.fn.out) (g.K.Sink.taken l.out) (encode_lower (drop l.at x.bytes)) (digits_behind_blank x.bytes);
}

abbrev pub decreases-loop-at : goal.decreases-loop-at
decreases-loop-at g l = l.size - l.at
