use Rattle.std.proofs.Common.{◌≡◌, length, sym, ap, ◌∙◌}
use Rattle.std.specs.Prelude.{option_map}
use Rattle.base_types.specs.Layouts.{node_size}
use Rattle.layout_geometry.specs.Geometry.{Geometry}
use Rattle.fs_files.specs.Drafts.{drafted}
use Rattle.fs_files.specs.Nodes.{node_block, node_of_open}
use Rattle.fs_files.proofs.drafts.Opening.{loaded}
use Rattle.fs_files.proofs.nodes.load.Goals as goal

pub returns-clause-node : goal.returns-clause-node
returns-clause-node g c = λ tells has.
    let s = g.S.Blocks.state c.args.blocks.now in
    let there : c.node_place-block.result.0 ≡ node_block s.books.geom c.args.number =
    c.node_place-block.ensures.block ∙ ap (λ x. node_block x c.args.number) c.geom-geom.ensures in
    loaded (option_map (node_of_open s.books.geom.layout) c.open_node.result) s.books.geom c.geom-geom.result (drafted c.args.draft.now s.map) c.args.number c.node_place-block.result.1 c.node_length.result c.read.new.into
    c.geom-geom.ensures c.node_place-block.ensures.byte (c.node_length.ensures ∙ ap node_size c.layout.ensures) c.requires.above_zero c.requires.in_table
    (c.in_ok-read.ensures.block tells (ap (λ b. length (drafted c.args.draft.now s.map b)) there ∙ has) ∙ ap (drafted c.args.draft.now s.map) there)
    (ap (λ (h : Geometry). option_map (node_of_open h.layout) c.open_node.result) (sym c.geom-geom.ensures) ∙ c.open_node.ensures.node)
