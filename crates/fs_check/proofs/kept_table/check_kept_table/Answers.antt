use Rattle.std.proofs.Common.{◌+◌, true, false, IsTrue, refl, subst, arith, ap₂, ap, ◌∙◌}
use Rattle.std.proofs.lemmas.Result.{err_from_is_err_and}
use Rattle.base_types.specs.Layouts.{nodes_before, table_blocks as blocks_of_table}
use Rattle.base_types.specs.LayoutLaws.{all_nodes_before, no_nodes_before}
use Rattle.fs_check.specs.KeptGoing.{IsKeptTo}
use Rattle.fs_check.specs.Whole.{fails_by}
use Rattle.fs_check.proofs.Looking.{looks_more}
use Rattle.fs_check.proofs.keeping.Going.{on_begins, on_broken, on_more, on_read, table_there}
use Rattle.fs_check.proofs.kept_table.check_kept_table.Goals as goal

pub loop-t-init : goal.loop-t-init
loop-t-init g c = on_begins (IsTrue g.S.Blocks.tells) g.S.Blocks.tells c.args.geom.now (g.S.Blocks.state c.args.blocks.now) c.args.maps.now c.args.tally.now c.args.snapshot.now 1 (nodes_before c.args.geom.now.layout 0 + 1) (omega (arith, no_nodes_before c.args.geom.now.layout)) c.requires.may

pub returns-in_err-read_block_at-clause-looks : goal.returns-in_err-read_block_at-clause-looks
returns-in_err-read_block_at-clause-looks g c =
    let p = err_from_is_err_and c.from_residual.result c.from_residual.ensures.1 in
    rw (p.1, p.2) (looks_more g.S.Blocks.tells true (g.S.Blocks.state c.args.blocks.now) (g.S.Blocks.state c.loop-t.blocks) (g.S.Blocks.state c.read_block_at.new.blocks) c.loop-t.invariant.looks c.in_err-read_block_at.ensures.looks)

pub returns-in_err-check_kept_nodes-clause-counts : goal.returns-in_err-check_kept_nodes-clause-counts
returns-in_err-check_kept_nodes-clause-counts g c = λ before is. c.in_err-check_kept_nodes.ensures.counts before (c.loop-t.invariant.counts before is)

pub returns-in_err-check_kept_nodes-clause-damage : goal.returns-in_err-check_kept_nodes-clause-damage
returns-in_err-check_kept_nodes-clause-damage g c = λ tells kept.
    let s = g.S.Blocks.state c.args.blocks.now in
    let t = g.S.Blocks.state c.loop-t.blocks in
    let r = g.S.Blocks.state c.read_block_at.new.blocks in
    let at = nodes_before c.args.geom.now.layout c.loop-t.t + 1 in
    let so_far = on_read (IsTrue g.S.Blocks.tells) g.S.Blocks.tells c.args.geom.now s t r c.args.maps.now c.args.tally.now c.loop-t.tally c.args.snapshot.now 1 at c.in_ok-read_block_at.ensures.looks c.loop-t.invariant in
    let p = err_from_is_err_and c.from_residual-in_err-check_kept_nodes.result c.from_residual-in_err-check_kept_nodes.ensures.1 in
    rw (p.1, p.2) (on_broken (IsTrue g.S.Blocks.tells) g.S.Blocks.tells c.args.geom.now s r c.args.maps.now c.args.tally.now c.loop-t.tally c.args.snapshot.now 1 at at c.in_err-check_kept_nodes.field-0.0 (λ q. q) refl so_far
    (λ q here. c.in_err-check_kept_nodes.ensures.damage q
    (table_there g.S.Blocks.tells c.args.geom.now t r c.args.maps.now c.loop-t.tally c.args.snapshot.now c.read_block_at.new.into c.loop-t.t (1 + c.loop-t.t) at c.in_ok-read_block_at.ensures.looks q refl
    (omega (arith, c.loop-t-test.true, c.table_blocks-t-end.ensures ∙ ap₂ blocks_of_table c.layout.ensures c.i.ensures)) c.requires.may.table (c.in_ok-read_block_at.ensures.block q) here) here)
    tells kept)

pub returns-in_err-check_kept_nodes-clause-looks : goal.returns-in_err-check_kept_nodes-clause-looks
returns-in_err-check_kept_nodes-clause-looks g c =
    let s = g.S.Blocks.state c.args.blocks.now in
    let r = g.S.Blocks.state c.read_block_at.new.blocks in
    let p = err_from_is_err_and c.from_residual-in_err-check_kept_nodes.result c.from_residual-in_err-check_kept_nodes.ensures.1 in
    rw (p.1, p.2) (looks_more g.S.Blocks.tells (fails_by c.in_err-check_kept_nodes.field-0.0) s r (g.S.Blocks.state c.check_kept_nodes.new.blocks)
    (looks_more g.S.Blocks.tells false s (g.S.Blocks.state c.loop-t.blocks) r c.loop-t.invariant.looks c.in_ok-read_block_at.ensures.looks) c.in_err-check_kept_nodes.ensures.looks)

pub loop-t-preserved : goal.loop-t-preserved
loop-t-preserved g c =
    let s = g.S.Blocks.state c.args.blocks.now in
    let t = g.S.Blocks.state c.loop-t.blocks in
    let r = g.S.Blocks.state c.read_block_at.new.blocks in
    let at = nodes_before c.args.geom.now.layout c.loop-t.t + 1 in
    let so_far = on_read (IsTrue g.S.Blocks.tells) g.S.Blocks.tells c.args.geom.now s t r c.args.maps.now c.args.tally.now c.loop-t.tally c.args.snapshot.now 1 at c.in_ok-read_block_at.ensures.looks c.loop-t.invariant in
    on_more (IsTrue g.S.Blocks.tells) g.S.Blocks.tells c.args.geom.now s r (g.S.Blocks.state c.check_kept_nodes.new.blocks) c.args.maps.now c.args.tally.now c.loop-t.tally c.check_kept_nodes.new.tally c.args.snapshot.now
    1 at at (nodes_before c.args.geom.now.layout (c.loop-t.t + 1) + 1) (nodes_before c.args.geom.now.layout (c.loop-t.t + 1) + 1) (λ q. q) refl refl so_far c.in_ok-check_kept_nodes.ensures.looks c.in_ok-check_kept_nodes.ensures.may c.in_ok-check_kept_nodes.ensures.counts
    (λ q here. c.in_ok-check_kept_nodes.ensures.sound q
    (table_there g.S.Blocks.tells c.args.geom.now t r c.args.maps.now c.loop-t.tally c.args.snapshot.now c.read_block_at.new.into c.loop-t.t (1 + c.loop-t.t) at c.in_ok-read_block_at.ensures.looks q refl
    (omega (arith, c.loop-t-test.true, c.table_blocks-t-end.ensures ∙ ap₂ blocks_of_table c.layout.ensures c.i.ensures)) c.requires.may.table (c.in_ok-read_block_at.ensures.block q) here) here)

pub returns-clause-sound : goal.returns-clause-sound
returns-clause-sound g c = λ tells kept.
    subst (IsKeptTo c.args.geom.now (g.S.Blocks.state c.args.blocks.now).map c.args.maps.now c.loop-t.tally c.args.snapshot.now) (omega (
      arith,
      all_nodes_before c.args.geom.now.layout c.args.geom.now.i c.lawful.ensures.limits.whole_blocks,
      ap (nodes_before c.args.geom.now.layout) {x = c.loop-t.t} {y = blocks_of_table c.args.geom.now.layout c.args.geom.now.i}
          (omega (arith, c.loop-t-test.false, c.loop-t.auto.t-end, c.table_blocks-t-end.ensures ∙ ap₂ blocks_of_table c.layout.ensures c.i.ensures)),
    )) (c.loop-t.invariant.sound tells kept)
