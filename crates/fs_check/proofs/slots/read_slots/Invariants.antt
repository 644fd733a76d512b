use Rattle.std.proofs.Common.{◌≡◌, ◌-◌, min, false, IsTrue, length, Some}
use Rattle.base_types.specs.Layouts.{slots_before, slots_held}
use Rattle.layout_bytes.specs.declared.node.NodeKind.TheVariants.{Dir}
use Rattle.layout_bytes.specs.Slot.{slots_in}
use Rattle.crash_stands.specs.Files.{FileNode}
use Rattle.fs_files.specs.Effects.{LooksOnly}
use Rattle.fs_check.proofs.slots.read_slots.Given as goal

abbrev pub invariant-loop-block : goal.invariant-loop-block
invariant-loop-block g l = record {
  looks : LooksOnly g.S.Blocks.tells false (g.S.Blocks.state l.fn.blocks) (g.S.Blocks.state l.blocks);
  left : l.left ≡ slots_held l.layout l.size - slots_before l.layout l.block;
  slots : IsTrue g.S.Blocks.tells → (x : FileNode) → (g.N.Nodes.nodes (g.S.Blocks.state l.fn.blocks) l.files).files l.node ≡ Some x → x.kind ≡ Dir → length x.bytes ≡ l.size
      → slots_in l.layout (min (slots_before l.layout l.block) (slots_held l.layout l.size)) x.bytes ≡ Some l.slots.items;
}
