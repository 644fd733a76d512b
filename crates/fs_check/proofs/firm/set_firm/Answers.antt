use Rattle.std.proofs.Common.{true, ◌+◌, refl, arith, ap₂, ap, subst, ◌∙◌}
use Rattle.std.proofs.lemmas.Result.{err_from_is_err_and}
use Rattle.base_types.specs.Layouts.{nodes_before, table_blocks}
use Rattle.base_types.specs.LayoutLaws.{all_nodes_before, no_nodes_before}
use Rattle.fs_check.proofs.Looking.{looks_more}
use Rattle.fs_check.proofs.keeping.Firm.{SetsFirm, firm_ends, table_begins, table_more}
use Rattle.fs_check.proofs.firm.set_firm.Goals as goal

pub loop-t-init : goal.loop-t-init
loop-t-init g c =
    let s = g.S.Blocks.state c.args.blocks.now in
    subst (SetsFirm g.S.Blocks.tells c.args.geom.now s s c.args.firm.now c.args.firm.now) {x = 1} {y = nodes_before c.args.geom.now.layout 0 + 1} (omega (arith, no_nodes_before c.args.geom.now.layout))
    (table_begins g.S.Blocks.tells c.args.geom.now s c.args.firm.now c.requires.clear)

pub loop-t-preserved : goal.loop-t-preserved
loop-t-preserved g c =
    table_more g.S.Blocks.tells c.args.geom.now (g.S.Blocks.state c.args.blocks.now) (g.S.Blocks.state c.loop-t.blocks) (g.S.Blocks.state c.read_table_block.new.blocks) c.args.firm.now c.loop-t.firm c.set_nodes.new.firm c.read_table_block.new.into
    c.loop-t.t (nodes_before c.args.geom.now.layout c.loop-t.t + 1) (nodes_before c.args.geom.now.layout c.loop-t.t + 1) (nodes_before c.args.geom.now.layout (c.loop-t.t + 1) + 1) (nodes_before c.args.geom.now.layout (c.loop-t.t + 1) + 1) refl refl c.loop-t.invariant c.in_ok-read_table_block.ensures.looks c.set_nodes.ensures.size
    c.in_ok-read_table_block.ensures.bytes c.set_nodes.ensures.firm

pub returns-in_err-read_table_block-clause-looks : goal.returns-in_err-read_table_block-clause-looks
returns-in_err-read_table_block-clause-looks g c =
    let p = err_from_is_err_and c.from_residual.result c.from_residual.ensures.1 in
    rw (p.1) (looks_more g.S.Blocks.tells true (g.S.Blocks.state c.args.blocks.now) (g.S.Blocks.state c.loop-t.blocks) (g.S.Blocks.state c.read_table_block.new.blocks) c.loop-t.invariant.looks c.in_err-read_table_block.ensures.looks)

pub returns-clause-firm : goal.returns-clause-firm
returns-clause-firm g c = λ tells.
    firm_ends c.args.geom.now (g.S.Blocks.state c.args.blocks.now).map (nodes_before c.args.geom.now.layout c.loop-t.t + 1) c.loop-t.firm (omega (
      arith,
      all_nodes_before c.args.geom.now.layout c.args.geom.now.i c.lawful.ensures.limits.whole_blocks,
      ap (nodes_before c.args.geom.now.layout) {x = c.loop-t.t} {y = table_blocks c.args.geom.now.layout c.args.geom.now.i}
          (omega (arith, c.loop-t-test.false, c.loop-t.auto.t-end, c.table_blocks-t-end.ensures ∙ ap₂ table_blocks c.layout.ensures c.i.ensures)),
    )) (c.loop-t.invariant.firm tells)
