use Rattle.std.proofs.Common.{◌≡◌, ◌+◌, ◌-◌, false, IsTrue, sym, ap, subst, ◌∙◌, arith}
use Rattle.std.proofs.lemmas.Result.{err_from_is_err_and}
use Rattle.base_types.specs.Layouts.{node_size, nodes_before, nodes_in_block, rank_byte}
use Rattle.base_types.specs.LayoutLaws.{next_nodes_before}
use Rattle.base_types.specs.Seal.{Blocks}
use Rattle.layout_geometry.specs.Geometry.{table_start}
use Rattle.fs_check.specs.SnapshotCalls.{HoldsCounts, IsKnownBelow}
use Rattle.fs_check.specs.Whole.{fails_by}
use Rattle.fs_check.proofs.Looking.{looks_more}
use Rattle.fs_check.proofs.keeping.Finding.{finds_begins, finds_broken, finds_here, finds_more, may_still}
use Rattle.fs_check.proofs.sound.Steps.{bytes_at}
use Rattle.fs_check.proofs.snapshots.check_block.Goals as goal

pub loop-place-init : goal.loop-place-init
loop-place-init g c =
    finds_begins (IsTrue g.S.Blocks.tells × (c.args.table.now ≡ (g.S.Blocks.state c.args.blocks.now).map (table_start c.args.geom.now + c.args.t))) g.S.Blocks.tells c.args.geom.now (g.S.Blocks.state c.args.blocks.now) c.args.maps.now c.args.found.now
    (nodes_before c.args.geom.now.layout c.args.t + 1) (nodes_before c.args.geom.now.layout c.args.t + 0 + 1) (omega arith) c.requires.counts

pub check_node-requires-clause-may : goal.check_node-requires-clause-may
check_node-requires-clause-may g c =
    may_still g.S.Blocks.tells false c.args.geom.now (g.S.Blocks.state c.args.blocks.now) (g.S.Blocks.state c.loop-place.blocks) c.args.maps.now.marked.items c.args.maps.now.firm.items c.loop-place.invariant.looks c.requires.may

pub check_node-requires-clause-counts : goal.check_node-requires-clause-counts
check_node-requires-clause-counts g c =
    let number_is = ap (λ n. n + c.loop-place.place + 1) (c.nodes_before.ensures ∙ ap (λ l. nodes_before l c.args.t) c.layout-layout.ensures) in
    subst (HoldsCounts c.args.geom.now c.loop-place.found) (sym number_is) c.loop-place.invariant.counts

pub check_node-requires-clause-there : goal.check_node-requires-clause-there
check_node-requires-clause-there g c = λ tells.
    let number = c.nodes_before.result + c.loop-place.place + 1 in
    let number_is = ap (λ n. n + c.loop-place.place + 1) (c.nodes_before.ensures ∙ ap (λ l. nodes_before l c.args.t) c.layout-layout.ensures) in
    bytes_at c.args.geom.now (g.S.Blocks.state c.loop-place.blocks).map c.args.t c.loop-place.place number c.rank_byte-at.result (c.rank_byte-at.result + c.node_length.result - c.rank_byte-at.result) c.args.table.now
    (c.requires.table tells ∙ sym (ap (λ (m : Blocks). m (table_start c.args.geom.now + c.args.t)) (c.loop-place.invariant.looks.map tells))) number_is (omega (arith, c.loop-place-test.true, c.nodes_in_block-place-end.ensures, ap nodes_in_block c.layout-layout.ensures)) (c.rank_byte-at.ensures ∙ ap (λ l. rank_byte l c.loop-place.place) c.layout-layout.ensures) (omega (arith, c.node_length.ensures, ap node_size c.layout-layout.ensures))

pub check_node-requires-clause-known : goal.check_node-requires-clause-known
check_node-requires-clause-known g c = λ tells.
    let number = c.nodes_before.result + c.loop-place.place + 1 in
    let number_is = ap (λ n. n + c.loop-place.place + 1) (c.nodes_before.ensures ∙ ap (λ l. nodes_before l c.args.t) c.layout-layout.ensures) in
    finds_here g.S.Blocks.tells c.args.geom.now (g.S.Blocks.state c.args.blocks.now) (g.S.Blocks.state c.loop-place.blocks) c.args.maps.now c.loop-place.found (nodes_before c.args.geom.now.layout c.args.t + c.loop-place.place + 1) number c.loop-place.invariant.looks (sym number_is) tells
    (c.loop-place.invariant.known (tells, c.requires.table tells) (c.requires.known tells))

pub returns-in_err-check_node-clause-damage : goal.returns-in_err-check_node-clause-damage
returns-in_err-check_node-clause-damage g c = λ tells.
    let number = c.nodes_before.result + c.loop-place.place + 1 in
    let number_is = ap (λ n. n + c.loop-place.place + 1) (c.nodes_before.ensures ∙ ap (λ l. nodes_before l c.args.t) c.layout-layout.ensures) in
    let s = g.S.Blocks.state c.args.blocks.now in
    let t = g.S.Blocks.state c.loop-place.blocks in
    let p = err_from_is_err_and c.from_residual.result c.from_residual.ensures.1 in
    rw (p.1, p.2) (finds_broken (IsTrue g.S.Blocks.tells × (c.args.table.now ≡ s.map (table_start c.args.geom.now + c.args.t))) g.S.Blocks.tells c.args.geom.now s t c.args.maps.now c.args.found.now c.loop-place.found
    (nodes_before c.args.geom.now.layout c.args.t + 1) (nodes_before c.args.geom.now.layout c.args.t + c.loop-place.place + 1) number c.in_err-check_node.field-0.0 (λ q. q.0) (sym number_is) c.loop-place.invariant
    (λ q here. c.in_err-check_node.ensures.damage q.0)
    (tells, c.requires.table tells) (c.requires.known tells))

pub returns-in_err-check_node-clause-looks : goal.returns-in_err-check_node-clause-looks
returns-in_err-check_node-clause-looks g c =
    let p = err_from_is_err_and c.from_residual.result c.from_residual.ensures.1 in
    rw (p.1, p.2) (looks_more g.S.Blocks.tells (fails_by c.in_err-check_node.field-0.0) (g.S.Blocks.state c.args.blocks.now) (g.S.Blocks.state c.loop-place.blocks) (g.S.Blocks.state c.check_node.new.blocks) c.loop-place.invariant.looks c.in_err-check_node.ensures.looks)

pub loop-place-preserved : goal.loop-place-preserved
loop-place-preserved g c =
    let number = c.nodes_before.result + c.loop-place.place + 1 in
    let number_is = ap (λ n. n + c.loop-place.place + 1) (c.nodes_before.ensures ∙ ap (λ l. nodes_before l c.args.t) c.layout-layout.ensures) in
    let s = g.S.Blocks.state c.args.blocks.now in
    let t = g.S.Blocks.state c.loop-place.blocks in
    let u = g.S.Blocks.state c.check_node.new.blocks in
    finds_more (IsTrue g.S.Blocks.tells × (c.args.table.now ≡ s.map (table_start c.args.geom.now + c.args.t))) g.S.Blocks.tells c.args.geom.now s t u c.args.maps.now c.args.found.now c.loop-place.found c.check_node.new.found
    (nodes_before c.args.geom.now.layout c.args.t + 1) (nodes_before c.args.geom.now.layout c.args.t + c.loop-place.place + 1) number (number + 1) (nodes_before c.args.geom.now.layout c.args.t + (c.loop-place.place + 1) + 1) (λ q. q.0) (sym number_is) (omega (arith, number_is)) c.loop-place.invariant
    c.in_ok-check_node.ensures.looks c.in_ok-check_node.ensures.counts
    (λ q here. c.in_ok-check_node.ensures.known q.0)

pub returns-clause-counts : goal.returns-clause-counts
returns-clause-counts g c = subst (HoldsCounts c.args.geom.now c.loop-place.found) (omega (arith, c.loop-place-test.false, c.loop-place.auto.place-end, c.nodes_in_block-place-end.ensures, ap nodes_in_block c.layout-layout.ensures, next_nodes_before c.args.geom.now.layout c.args.t)) c.loop-place.invariant.counts

pub returns-clause-known : goal.returns-clause-known
returns-clause-known g c = λ tells.
    subst (λ k. IsKnownBelow c.args.geom.now (g.S.Blocks.state c.args.blocks.now).map c.args.maps.now k c.loop-place.found) (omega (arith, c.loop-place-test.false, c.loop-place.auto.place-end, c.nodes_in_block-place-end.ensures, ap nodes_in_block c.layout-layout.ensures, next_nodes_before c.args.geom.now.layout c.args.t)) (c.loop-place.invariant.known (tells, c.requires.table tells) (c.requires.known tells))
