use Rattle.std.proofs.Common.{◌≡◌, ℕ, ◌≤◌, max, ap, subst, ◌∙◌, arith, List}
use Rattle.std.proofs.lemmas.Result.{on_ok_weaker}
use Rattle.base_types.specs.declared.words.Class.TheVariants.{Meta}
use Rattle.base_types.specs.Layouts.{node_byte}
use Rattle.layout_geometry.specs.Geometry.{Geometry}
use Rattle.layout_bytes.specs.declared.node.Node.{Node}
use Rattle.layout_bytes.specs.Node.{node_spelling, FitsAs}
use Rattle.fs_files.specs.declared.nodes.OpenNode.{OpenNode}
use Rattle.fs_files.specs.Bytes.{overwrite}
use Rattle.fs_files.specs.Drafts.{DraftState, PutsBlock}
use Rattle.fs_files.specs.Frames.{ReadsBack}
use Rattle.fs_files.specs.Nodes.{node_block}
use Rattle.fs_files.specs.Writing.{KeepsSize, with_size}
use Rattle.fs_files.proofs.write.keep_size.Goals as goal
use Rattle.fs_files.proofs.write.keep_size.Goals.{else-size-node-via-then-size-node+else-need-eq0, else-size-node-via-else-size-node}

-- a node that was stored with the size that it has then
stored_size : (g : Geometry) (number size need : ℕ) (node : OpenNode) (new : Node) (table : List ℕ) (d e : DraftState) → (size ≤ node.size → need ≡ 0 → ⊥) → new ≡ with_size g.layout node (max node.size size)
    → (FitsAs g new new.kind → ReadsBack g new) → PutsBlock (node_block g number) (record { class = Meta; bytes = overwrite (node_byte g.layout number) (node_spelling g.layout new) table }) d e → KeepsSize g number size need node table d e
stored_size g number size need node new table d e not_both is back puts = record {
  same = λ low none. absurd (not_both low none);
  puts = λ either. subst (λ (n : Node). PutsBlock (node_block g number) (record { class = Meta; bytes = overwrite (node_byte g.layout number) (node_spelling g.layout n) table }) d e) is puts;
  back = λ either. subst (λ (n : Node). FitsAs g n n.kind → ReadsBack g n) is back;
}

pub returns : goal.returns
returns c =
    let not_both : c.args.size ≤ c.args.node.now.size → c.args.need ≡ 0 → ⊥ =
    λ low none.
    elim c.else-size-node.branch [
      | else-size-node-via-then-size-node+else-need-eq0 w ↦ omega (arith, none, w.if-need-eq0.false)
      | else-size-node-via-else-size-node w ↦ omega (arith, low, w.if-size-node.false)
    ] in
    let wide : c.max-node.result ≡ max c.args.node.now.size c.args.size = omega (arith, c.max-node.ensures) in
    on_ok_weaker c.store.result (λ puts.
    stored_size c.args.geom.now c.args.number c.args.size c.args.need c.args.node.now c.to_node-node.result c.args.table.now c.args.draft.now c.store.new.draft not_both (c.to_node-node.ensures ∙ ap (λ l. with_size l c.args.node.now c.max-node.result) c.layout.ensures ∙ ap (with_size c.args.geom.now.layout c.args.node.now) wide) c.store.ensures.back puts) c.store.ensures.ok
