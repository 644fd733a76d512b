use Rattle.std.proofs.Common.{◌≡◌, ◌+◌, ◌-◌, IsTrue, sym, ap, ◌∙◌, arith}
use Rattle.std.proofs.lemmas.Result.{err_from_is_err_and}
use Rattle.base_types.specs.Layouts.{node_size, nodes_before, nodes_in_block, rank_byte}
use Rattle.layout_geometry.specs.Geometry.{table_start}
use Rattle.base_types.specs.Seal.{Blocks}
use Rattle.fs_check.proofs.sound.Steps.{bytes_at, goes_broken, goes_more}
use Rattle.fs_check.proofs.table.check_nodes.Goals as goal

pub returns-in_err-check_node-clause-damage : goal.returns-in_err-check_node-clause-damage
returns-in_err-check_node-clause-damage g c = λ tells table checked.
    let number = c.nodes_before.result + c.loop-place.place + 1 in
    let number_is = ap (λ n. n + c.loop-place.place + 1) (c.nodes_before.ensures ∙ ap (λ l. nodes_before l c.args.t) c.layout-layout.ensures) in
    let s = g.S.Blocks.state c.args.blocks.now in
    let t = g.S.Blocks.state c.loop-place.blocks in
    let p = err_from_is_err_and c.from_residual.result c.from_residual.ensures.1 in
    rw (p.1, p.2) (goes_broken (IsTrue g.S.Blocks.tells × (c.args.table.now ≡ s.map (table_start c.args.geom.now + c.args.t))) g.S.Blocks.tells c.args.geom.now s t c.args.bits.now c.args.met.now c.loop-place.met c.args.found.now c.loop-place.found
    (nodes_before c.args.geom.now.layout c.args.t + 1) (nodes_before c.args.geom.now.layout c.args.t + c.loop-place.place + 1) number c.in_err-check_node.field-0.0 (λ q. q.0) (sym number_is) c.loop-place.invariant
    (λ q here. c.in_err-check_node.ensures.damage q.0
    (bytes_at c.args.geom.now t.map c.args.t c.loop-place.place number c.rank_byte-at.result (c.rank_byte-at.result + c.node_length.result - c.rank_byte-at.result) c.args.table.now
    (q.1 ∙ sym (ap (λ (m : Blocks). m (table_start c.args.geom.now + c.args.t)) (c.loop-place.invariant.looks.map q.0))) number_is (omega (arith, c.loop-place-test.true, c.nodes_in_block-place-end.ensures, ap nodes_in_block c.layout-layout.ensures)) (c.rank_byte-at.ensures ∙ ap (λ l. rank_byte l c.loop-place.place) c.layout-layout.ensures) (omega (arith, c.node_length.ensures, ap node_size c.layout-layout.ensures))) here)
    (tells, table) checked)

pub loop-place-preserved : goal.loop-place-preserved
loop-place-preserved g c =
    let number = c.nodes_before.result + c.loop-place.place + 1 in
    let number_is = ap (λ n. n + c.loop-place.place + 1) (c.nodes_before.ensures ∙ ap (λ l. nodes_before l c.args.t) c.layout-layout.ensures) in
    let s = g.S.Blocks.state c.args.blocks.now in
    let t = g.S.Blocks.state c.loop-place.blocks in
    let u = g.S.Blocks.state c.check_node.new.blocks in
    goes_more (IsTrue g.S.Blocks.tells × (c.args.table.now ≡ s.map (table_start c.args.geom.now + c.args.t))) g.S.Blocks.tells c.args.geom.now s t u c.args.bits.now c.args.met.now c.loop-place.met c.check_node.new.met c.args.found.now c.loop-place.found c.check_node.new.found
    (nodes_before c.args.geom.now.layout c.args.t + 1) (nodes_before c.args.geom.now.layout c.args.t + c.loop-place.place + 1) number (number + 1) (nodes_before c.args.geom.now.layout c.args.t + (c.loop-place.place + 1) + 1) (λ q. q.0) (sym number_is) (omega (arith, number_is)) c.loop-place.invariant
    c.in_ok-check_node.ensures.looks c.in_ok-check_node.ensures.size
    (λ q here. c.in_ok-check_node.ensures.sound q.0
    (bytes_at c.args.geom.now t.map c.args.t c.loop-place.place number c.rank_byte-at.result (c.rank_byte-at.result + c.node_length.result - c.rank_byte-at.result) c.args.table.now
    (q.1 ∙ sym (ap (λ (m : Blocks). m (table_start c.args.geom.now + c.args.t)) (c.loop-place.invariant.looks.map q.0))) number_is (omega (arith, c.loop-place-test.true, c.nodes_in_block-place-end.ensures, ap nodes_in_block c.layout-layout.ensures)) (c.rank_byte-at.ensures ∙ ap (λ l. rank_byte l c.loop-place.place) c.layout-layout.ensures) (omega (arith, c.node_length.ensures, ap node_size c.layout-layout.ensures))) here)
