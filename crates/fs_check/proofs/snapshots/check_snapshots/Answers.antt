use Rattle.std.proofs.Common.{◌+◌, true, false, IsTrue, refl, sym, ap, subst, ◌∙◌, arith, ap₂}
use Rattle.std.proofs.lemmas.Result.{err_from_is_err_and}
use Rattle.base_types.specs.Layouts.{nodes_before, table_blocks}
use Rattle.base_types.specs.LayoutLaws.{all_nodes_before, no_nodes_before}
use Rattle.base_types.specs.Seal.{Blocks}
use Rattle.layout_geometry.specs.Geometry.{table_start}
use Rattle.fs_check.specs.SnapshotCalls.{HoldsCounts, IsKnownBelow}
use Rattle.fs_check.specs.Whole.{fails_by}
use Rattle.fs_check.proofs.Looking.{looks_more}
use Rattle.fs_check.proofs.keeping.Finding.{finds_begins, finds_broken, finds_here, finds_more, finds_read, may_still}
use Rattle.fs_check.proofs.snapshots.check_snapshots.Goals as goal

pub loop-t-init : goal.loop-t-init
loop-t-init g c = finds_begins (IsTrue g.S.Blocks.tells) g.S.Blocks.tells c.args.geom.now (g.S.Blocks.state c.args.blocks.now) c.args.maps.now c.args.found.now 1 (nodes_before c.args.geom.now.layout 0 + 1) (omega (arith, no_nodes_before c.args.geom.now.layout)) c.requires.counts

pub returns-in_err-read_table_block-clause-looks : goal.returns-in_err-read_table_block-clause-looks
returns-in_err-read_table_block-clause-looks g c =
    let p = err_from_is_err_and c.from_residual.result c.from_residual.ensures.1 in
    rw (p.1, p.2) (looks_more g.S.Blocks.tells true (g.S.Blocks.state c.args.blocks.now) (g.S.Blocks.state c.loop-t.blocks) (g.S.Blocks.state c.read_table_block.new.blocks) c.loop-t.invariant.looks c.in_err-read_table_block.ensures.looks)

pub check_block-requires-clause-may : goal.check_block-requires-clause-may
check_block-requires-clause-may g c =
    let s = g.S.Blocks.state c.args.blocks.now in
    let r = g.S.Blocks.state c.read_table_block.new.blocks in
    may_still g.S.Blocks.tells false c.args.geom.now s r c.args.maps.now.marked.items c.args.maps.now.firm.items
    (looks_more g.S.Blocks.tells false s (g.S.Blocks.state c.loop-t.blocks) r c.loop-t.invariant.looks c.in_ok-read_table_block.ensures.looks) c.requires.may

pub check_block-requires-clause-counts : goal.check_block-requires-clause-counts
check_block-requires-clause-counts g c = c.loop-t.invariant.counts

pub check_block-requires-clause-table : goal.check_block-requires-clause-table
check_block-requires-clause-table g c = λ tells.
    c.in_ok-read_table_block.ensures.bytes tells ∙ sym (ap (λ (m : Blocks). m (table_start c.args.geom.now + c.loop-t.t)) (c.in_ok-read_table_block.ensures.looks.map tells))

pub check_block-requires-clause-known : goal.check_block-requires-clause-known
check_block-requires-clause-known g c = λ tells.
    let s = g.S.Blocks.state c.args.blocks.now in
    let t = g.S.Blocks.state c.loop-t.blocks in
    let r = g.S.Blocks.state c.read_table_block.new.blocks in
    let at = nodes_before c.args.geom.now.layout c.loop-t.t + 1 in
    finds_here g.S.Blocks.tells c.args.geom.now s r c.args.maps.now c.loop-t.found at at (looks_more g.S.Blocks.tells false s t r c.loop-t.invariant.looks c.in_ok-read_table_block.ensures.looks) refl tells
    (c.loop-t.invariant.known tells (c.requires.known tells))

pub returns-in_err-check_block-clause-damage : goal.returns-in_err-check_block-clause-damage
returns-in_err-check_block-clause-damage g c = λ tells.
    let s = g.S.Blocks.state c.args.blocks.now in
    let t = g.S.Blocks.state c.loop-t.blocks in
    let r = g.S.Blocks.state c.read_table_block.new.blocks in
    let at = nodes_before c.args.geom.now.layout c.loop-t.t + 1 in
    let so_far = finds_read (IsTrue g.S.Blocks.tells) g.S.Blocks.tells c.args.geom.now s t r c.args.maps.now c.args.found.now c.loop-t.found 1 at c.in_ok-read_table_block.ensures.looks c.loop-t.invariant in
    let p = err_from_is_err_and c.from_residual-in_err-check_block.result c.from_residual-in_err-check_block.ensures.1 in
    rw (p.1, p.2) (finds_broken (IsTrue g.S.Blocks.tells) g.S.Blocks.tells c.args.geom.now s r c.args.maps.now c.args.found.now c.loop-t.found 1 at at c.in_err-check_block.field-0.0 (λ q. q) refl so_far
    (λ q here. c.in_err-check_block.ensures.damage q)
    tells (c.requires.known tells))

pub returns-in_err-check_block-clause-looks : goal.returns-in_err-check_block-clause-looks
returns-in_err-check_block-clause-looks g c =
    let s = g.S.Blocks.state c.args.blocks.now in
    let r = g.S.Blocks.state c.read_table_block.new.blocks in
    let p = err_from_is_err_and c.from_residual-in_err-check_block.result c.from_residual-in_err-check_block.ensures.1 in
    rw (p.1, p.2) (looks_more g.S.Blocks.tells (fails_by c.in_err-check_block.field-0.0) s r (g.S.Blocks.state c.check_block.new.blocks)
    (looks_more g.S.Blocks.tells false s (g.S.Blocks.state c.loop-t.blocks) r c.loop-t.invariant.looks c.in_ok-read_table_block.ensures.looks) c.in_err-check_block.ensures.looks)

pub loop-t-preserved : goal.loop-t-preserved
loop-t-preserved g c =
    let s = g.S.Blocks.state c.args.blocks.now in
    let t = g.S.Blocks.state c.loop-t.blocks in
    let r = g.S.Blocks.state c.read_table_block.new.blocks in
    let at = nodes_before c.args.geom.now.layout c.loop-t.t + 1 in
    let so_far = finds_read (IsTrue g.S.Blocks.tells) g.S.Blocks.tells c.args.geom.now s t r c.args.maps.now c.args.found.now c.loop-t.found 1 at c.in_ok-read_table_block.ensures.looks c.loop-t.invariant in
    finds_more (IsTrue g.S.Blocks.tells) g.S.Blocks.tells c.args.geom.now s r (g.S.Blocks.state c.check_block.new.blocks) c.args.maps.now c.args.found.now c.loop-t.found c.check_block.new.found
    1 at at (nodes_before c.args.geom.now.layout (c.loop-t.t + 1) + 1) (nodes_before c.args.geom.now.layout (c.loop-t.t + 1) + 1) (λ q. q) refl refl so_far c.in_ok-check_block.ensures.looks c.in_ok-check_block.ensures.counts
    (λ q here. c.in_ok-check_block.ensures.known q)

pub returns-clause-counts : goal.returns-clause-counts
returns-clause-counts g c =
    subst (HoldsCounts c.args.geom.now c.loop-t.found) (omega (
      arith,
      all_nodes_before c.args.geom.now.layout c.args.geom.now.i c.lawful.ensures.limits.whole_blocks,
      ap (nodes_before c.args.geom.now.layout) {x = c.loop-t.t} {y = table_blocks c.args.geom.now.layout c.args.geom.now.i}
          (omega (arith, c.loop-t-test.false, c.loop-t.auto.t-end, c.table_blocks-t-end.ensures ∙ ap₂ table_blocks c.layout.ensures c.i.ensures)),
    )) c.loop-t.invariant.counts

pub returns-clause-known : goal.returns-clause-known
returns-clause-known g c = λ tells.
    subst (λ k. IsKnownBelow c.args.geom.now (g.S.Blocks.state c.args.blocks.now).map c.args.maps.now k c.loop-t.found) (omega (
      arith,
      all_nodes_before c.args.geom.now.layout c.args.geom.now.i c.lawful.ensures.limits.whole_blocks,
      ap (nodes_before c.args.geom.now.layout) {x = c.loop-t.t} {y = table_blocks c.args.geom.now.layout c.args.geom.now.i}
          (omega (arith, c.loop-t-test.false, c.loop-t.auto.t-end, c.table_blocks-t-end.ensures ∙ ap₂ table_blocks c.layout.ensures c.i.ensures)),
    )) (c.loop-t.invariant.known tells (c.requires.known tells))
