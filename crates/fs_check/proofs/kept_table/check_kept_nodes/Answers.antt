use Rattle.std.proofs.Common.{◌≡◌, ◌+◌, ◌-◌, IsTrue, sym, ap, subst, ◌∙◌, arith}
use Rattle.std.proofs.lemmas.Result.{err_from_is_err_and}
use Rattle.base_types.specs.Layouts.{node_size, nodes_before, nodes_in_block, rank_byte}
use Rattle.base_types.specs.LayoutLaws.{next_nodes_before}
use Rattle.base_types.specs.Seal.{Blocks}
use Rattle.layout_geometry.specs.Geometry.{table_start}
use Rattle.crash_stands.specs.Places.{kept_table}
use Rattle.fs_check.specs.KeptGoing.{IsKeptTo}
use Rattle.fs_check.specs.Whole.{fails_by}
use Rattle.fs_check.proofs.keeping.Going.{on_begins, on_broken, on_more}
use Rattle.fs_check.proofs.Looking.{looks_more}
use Rattle.fs_check.proofs.sound.Steps.{bytes_at}
use Rattle.fs_check.proofs.kept_table.check_kept_nodes.Goals as goal

pub loop-place-init : goal.loop-place-init
loop-place-init g c =
    on_begins (IsTrue g.S.Blocks.tells × (c.args.table.now ≡ kept_table (g.S.Blocks.state c.args.blocks.now).map c.args.snapshot.now.places c.args.geom.now (table_start c.args.geom.now + c.args.t))) g.S.Blocks.tells c.args.geom.now (g.S.Blocks.state c.args.blocks.now)
    c.args.maps.now c.args.tally.now c.args.snapshot.now (nodes_before c.args.geom.now.layout c.args.t + 1) (nodes_before c.args.geom.now.layout c.args.t + 0 + 1) (omega arith) c.requires.may

pub returns-in_err-check_kept_node-clause-damage : goal.returns-in_err-check_kept_node-clause-damage
returns-in_err-check_kept_node-clause-damage g c = λ tells table kept.
    let number = c.nodes_before.result + c.loop-place.place + 1 in
    let number_is = ap (λ n. n + c.loop-place.place + 1) (c.nodes_before.ensures ∙ ap (λ l. nodes_before l c.args.t) c.layout-layout.ensures) in
    let s = g.S.Blocks.state c.args.blocks.now in
    let t = g.S.Blocks.state c.loop-place.blocks in
    let own = c.args.snapshot.now.places in
    let p = err_from_is_err_and c.from_residual.result c.from_residual.ensures.1 in
    rw (p.1, p.2) (on_broken (IsTrue g.S.Blocks.tells × (c.args.table.now ≡ kept_table s.map own c.args.geom.now (table_start c.args.geom.now + c.args.t))) g.S.Blocks.tells c.args.geom.now s t c.args.maps.now c.args.tally.now c.loop-place.tally c.args.snapshot.now
    (nodes_before c.args.geom.now.layout c.args.t + 1) (nodes_before c.args.geom.now.layout c.args.t + c.loop-place.place + 1) number c.in_err-check_kept_node.field-0.0 (λ q. q.0) (sym number_is) c.loop-place.invariant
    (λ q here. c.in_err-check_kept_node.ensures.damage q.0
    (bytes_at c.args.geom.now (kept_table t.map own c.args.geom.now) c.args.t c.loop-place.place number c.rank_byte-at.result (c.rank_byte-at.result + c.node_length.result - c.rank_byte-at.result) c.args.table.now
    (q.1 ∙ sym (ap (λ (m : Blocks). kept_table m own c.args.geom.now (table_start c.args.geom.now + c.args.t)) (c.loop-place.invariant.looks.map q.0))) number_is (omega (arith, c.loop-place-test.true, c.nodes_in_block-place-end.ensures, ap nodes_in_block c.layout-layout.ensures)) (c.rank_byte-at.ensures ∙ ap (λ l. rank_byte l c.loop-place.place) c.layout-layout.ensures) (omega (arith, c.node_length.ensures, ap node_size c.layout-layout.ensures))) here)
    (tells, table) kept)

pub returns-in_err-check_kept_node-clause-counts : goal.returns-in_err-check_kept_node-clause-counts
returns-in_err-check_kept_node-clause-counts g c = λ before is. c.in_err-check_kept_node.ensures.counts before (c.loop-place.invariant.counts before is)

pub returns-in_err-check_kept_node-clause-looks : goal.returns-in_err-check_kept_node-clause-looks
returns-in_err-check_kept_node-clause-looks g c =
    let p = err_from_is_err_and c.from_residual.result c.from_residual.ensures.1 in
    rw (p.1, p.2) (looks_more g.S.Blocks.tells (fails_by c.in_err-check_kept_node.field-0.0) (g.S.Blocks.state c.args.blocks.now) (g.S.Blocks.state c.loop-place.blocks) (g.S.Blocks.state c.check_kept_node.new.blocks) c.loop-place.invariant.looks
    c.in_err-check_kept_node.ensures.looks)

pub loop-place-preserved : goal.loop-place-preserved
loop-place-preserved g c =
    let number = c.nodes_before.result + c.loop-place.place + 1 in
    let number_is = ap (λ n. n + c.loop-place.place + 1) (c.nodes_before.ensures ∙ ap (λ l. nodes_before l c.args.t) c.layout-layout.ensures) in
    let s = g.S.Blocks.state c.args.blocks.now in
    let t = g.S.Blocks.state c.loop-place.blocks in
    let u = g.S.Blocks.state c.check_kept_node.new.blocks in
    let own = c.args.snapshot.now.places in
    on_more (IsTrue g.S.Blocks.tells × (c.args.table.now ≡ kept_table s.map own c.args.geom.now (table_start c.args.geom.now + c.args.t))) g.S.Blocks.tells c.args.geom.now s t u c.args.maps.now c.args.tally.now c.loop-place.tally c.check_kept_node.new.tally c.args.snapshot.now
    (nodes_before c.args.geom.now.layout c.args.t + 1) (nodes_before c.args.geom.now.layout c.args.t + c.loop-place.place + 1) number (number + 1) (nodes_before c.args.geom.now.layout c.args.t + (c.loop-place.place + 1) + 1) (λ q. q.0) (sym number_is) (omega (arith, number_is)) c.loop-place.invariant
    c.in_ok-check_kept_node.ensures.looks c.in_ok-check_kept_node.ensures.may c.in_ok-check_kept_node.ensures.counts
    (λ q here. c.in_ok-check_kept_node.ensures.sound q.0
    (bytes_at c.args.geom.now (kept_table t.map own c.args.geom.now) c.args.t c.loop-place.place number c.rank_byte-at.result (c.rank_byte-at.result + c.node_length.result - c.rank_byte-at.result) c.args.table.now
    (q.1 ∙ sym (ap (λ (m : Blocks). kept_table m own c.args.geom.now (table_start c.args.geom.now + c.args.t)) (c.loop-place.invariant.looks.map q.0))) number_is (omega (arith, c.loop-place-test.true, c.nodes_in_block-place-end.ensures, ap nodes_in_block c.layout-layout.ensures)) (c.rank_byte-at.ensures ∙ ap (λ l. rank_byte l c.loop-place.place) c.layout-layout.ensures) (omega (arith, c.node_length.ensures, ap node_size c.layout-layout.ensures))) here)

pub returns-clause-sound : goal.returns-clause-sound
returns-clause-sound g c = λ tells table kept.
    subst (IsKeptTo c.args.geom.now (g.S.Blocks.state c.args.blocks.now).map c.args.maps.now c.loop-place.tally c.args.snapshot.now) (omega (arith, c.loop-place-test.false, c.loop-place.auto.place-end, c.nodes_in_block-place-end.ensures, ap nodes_in_block c.layout-layout.ensures, next_nodes_before c.args.geom.now.layout c.args.t)) (c.loop-place.invariant.sound (tells, table) kept)
