use Rattle.std.proofs.Common.{◌≡◌, ◌+◌, ◌-◌, length, subst, ap, ◌∙◌, arith}
use Rattle.std.proofs.lemmas.Result.{on_ok_weaker}
use borrow.Rule.Slice.PartMut.{mid_len, put_mid}
use Rattle.base_types.specs.declared.words.Class.TheVariants.{Meta}
use Rattle.base_types.specs.Layouts.{node_byte, node_size}
use Rattle.base_types.specs.LayoutLaws.{node_within}
use Rattle.layout_bytes.specs.Node.{node_spelling}
use Rattle.fs_files.specs.Drafts.{PutsBlock}
use Rattle.fs_files.specs.Nodes.{node_block}
use Rattle.fs_files.proofs.drafts.Opening.{put_over}
use Rattle.fs_files.proofs.frames.Spelled.{reads_back}
use Rattle.fs_files.proofs.nodes.store.Goals as goal

pub returns-clause-back : goal.returns-clause-back
returns-clause-back c fits = reads_back c.args.geom.now c.args.node.now
    (λ b n. c.nodes_in_use_are_read.ensures.read c.args.geom.now b n)
    (λ b n. c.nodes_in_use_are_read.ensures.free c.args.geom.now b n)
    (λ b n. c.a_spelling_has_one_node.ensures.size c.args.geom.now b n)
    (λ b n. c.a_free_node_is_zeros.ensures.zeros c.args.geom.now b n)
    (c.a_node_that_fits_has_a_spelling.ensures c.args.geom.now c.args.node.now c.lawful.ensures.fits fits c.links_range.ensures)

pub returns-clause-ok : goal.returns-clause-ok
returns-clause-ok c =
    let g = c.args.geom.now in
    let at = c.node_place-block.result.1 in
    let place : at ≡ node_byte g.layout c.args.number = c.node_place-block.ensures.byte in
    let size : c.node_length.result ≡ node_size g.layout = c.node_length.ensures ∙ ap node_size c.layout-layout.ensures in
    let spelled : c.write_node.new.into ≡ node_spelling g.layout c.args.node.now = c.write_node.ensures ∙ ap (λ l. node_spelling l c.args.node.now) c.layout-layout.ensures in
    let long : length c.write_node.new.into ≡ at + c.node_length.result - at = omega (arith, c.write_node.auto.into, mid_len at (at + c.node_length.result) c.args.table.now (omega (arith, c.told-table, place, size, node_within g.layout c.args.number))) in
    on_ok_weaker c.put.result (λ puts.
    subst (λ bytes. PutsBlock (node_block g c.args.number) (record { class = Meta; bytes = bytes }) c.args.draft.now c.put.new.self) (put_over at (at + c.node_length.result - at) (node_byte g.layout c.args.number) c.args.table.now c.write_node.new.into (node_spelling g.layout c.args.node.now) place long spelled)
    (subst (λ b. PutsBlock b (record { class = Meta; bytes = put_mid at (at + c.node_length.result - at) c.args.table.now c.write_node.new.into }) c.args.draft.now c.put.new.self) c.node_place-block.ensures.block puts)) c.put.ensures.ok
