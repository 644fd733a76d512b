use Rattle.std.proofs.Common.{◌≡◌, ℕ, ◌<◌, false, IsTrue, length}
use Rattle.fs_files.specs.Effects.{LooksOnly}
use Rattle.fs_check.specs.declared.looked.Looked.TheVariants.{Unused}
use Rattle.fs_check.specs.Looked.{seen, IsSeen}
use Rattle.fs_check.proofs.census.look_at_nodes.Given as goal

abbrev pub invariant-loop-node : goal.invariant-loop-node
invariant-loop-node g l = record {
  looks : LooksOnly g.S.Blocks.tells false (g.S.Blocks.state l.fn.blocks) (g.S.Blocks.state l.blocks);
  count : length l.nodes.items ≡ l.node;
  zero : seen l.nodes.items 0 ≡ Unused;
  seen : IsTrue g.S.Blocks.tells → (k : ℕ) → k < l.node → IsSeen ((g.N.Nodes.nodes (g.S.Blocks.state l.fn.blocks) l.files).files k) (seen l.nodes.items k);
}
