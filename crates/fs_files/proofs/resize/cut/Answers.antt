use Rattle.std.proofs.Common.{length, ap, arith}
use Rattle.base_types.specs.Layouts.{most_runs}
use Rattle.layout_geometry.specs.Geometry.{Geometry}
use Rattle.layout_extent.specs.Runs.{stretches}
use Rattle.layout_bytes.specs.declared.node.Node.{Node}
use Rattle.engine_blocks.specs.State.{State}
use Rattle.fs_files.specs.declared.nodes.OpenNode.{OpenNode}
use Rattle.fs_files.proofs.calling.Cuts.{CutsNode, cut_steps, cut_draft, cut_file, cut_kept, cut_places, cut_shrinks, cut_changes, file_looks}
use Rattle.fs_files.proofs.growing.Stretches.{stretches_cut}
use Rattle.fs_files.proofs.resize.cut.Goals as goal

pub store-requires-clause-few : goal.store-requires-clause-few
store-requires-clause-few g c = omega (
  arith,
  ap (λ (n : Node). length n.runs) c.to_node.ensures,
  c.a_list_has_its_runs.ensures.count c.shrink.new.node.places,
  ap (λ (o : OpenNode). stretches o.places) c.in_ok-shrink.ensures.node,
  stretches_cut c.blocks_for.result c.args.node.now.places,
  c.requires.loaded.fits.runs,
  ap (λ (h : Geometry). most_runs h.layout) c.geom-geom.ensures,
)

module _ (g : _) (c : goal.In_ok-store g) where
  abbrev s : State
  s = g.S.Blocks.state c.args.blocks.now

  abbrev t : State
  t = g.S.Blocks.state c.clear_rest.new.blocks

  steps : CutsNode g.S.Blocks.tells s c.args.number c.args.size c.args.node.now c.to_node.result c.args.table.now c.args.draft.now c.shrink.new.draft c.clear_rest.new.draft c.store.new.draft
  steps = cut_steps g.S.Blocks.tells s c.args.number c.args.size c.blocks_for.result c.args.node.now c.shrink.new.node c.to_node.result c.args.table.now c.args.draft.now c.shrink.new.draft c.clear_rest.new.draft c.store.new.draft c.geom-geom.result c.layout-layout.result
      c.geom-geom.ensures c.layout-layout.ensures c.lawful.ensures.limits c.requires.loaded c.requires.less c.requires.size c.requires.slots c.blocks_for.ensures c.in_ok-shrink.ensures
      c.in_ok-clear_rest.ensures.clears c.in_ok-clear_rest.ensures.bytes c.to_node.ensures c.in_ok-store.ensures.ok c.in_ok-store.ensures.back
      c.a_list_has_its_runs.ensures.places c.a_list_has_its_runs.ensures.count c.a_list_has_its_runs.ensures.tidy

pub returns : goal.returns
returns g c = record {
  file = λ known x at.
      file_looks g.S.Blocks.tells (s g c) (t g c) c.store.new.draft _ c.args.number _ c.in_ok-clear_rest.ensures.looks known
      (cut_file g.S.Blocks.tells (s g c) c.args.number c.args.size c.args.node.now c.to_node.result c.args.table.now c.args.draft.now c.shrink.new.draft c.clear_rest.new.draft c.store.new.draft (steps g c) known x at);
  places = λ known. cut_places g.S.Blocks.tells (s g c) c.args.number c.args.size c.args.node.now c.to_node.result c.args.table.now c.args.draft.now c.shrink.new.draft c.clear_rest.new.draft c.store.new.draft (steps g c) known (t g c) c.in_ok-clear_rest.ensures.looks;
  draft = cut_draft g.S.Blocks.tells (s g c) (t g c) c.args.number c.args.size c.args.node.now c.to_node.result c.args.table.now c.args.draft.now c.shrink.new.draft c.clear_rest.new.draft c.store.new.draft (steps g c) c.in_ok-clear_rest.ensures.looks;
  kept = cut_kept g.S.Blocks.tells (s g c) c.args.number c.args.size c.args.node.now c.to_node.result c.args.table.now c.args.draft.now c.shrink.new.draft c.clear_rest.new.draft c.store.new.draft (steps g c);
  shrinks = λ known x at. cut_shrinks g.S.Blocks.tells (s g c) c.args.number c.args.size c.args.node.now c.to_node.result c.args.table.now c.args.draft.now c.shrink.new.draft c.clear_rest.new.draft c.store.new.draft (steps g c) known (t g c) c.in_ok-clear_rest.ensures.looks x;
  among = λ known x at. cut_changes g.S.Blocks.tells (s g c) c.args.number c.args.size c.args.node.now c.to_node.result c.args.table.now c.args.draft.now c.shrink.new.draft c.clear_rest.new.draft c.store.new.draft (steps g c) known x at;
  refused = tt;
  looks = c.in_ok-clear_rest.ensures.looks;
}
