use Rattle.std.proofs.Common.{◌+◌, ◌-◌, sym, subst, ap, ◌∙◌, take, drop, arith}
use Rattle.base_types.specs.Layouts.{node_size, nodes_before, nodes_in_block, rank_byte}
use Rattle.base_types.specs.LayoutLaws.{next_nodes_before}
use Rattle.base_types.specs.Seal.{blocks_of}
use Rattle.fs_check.specs.Firm.{AreFirmBelow}
use Rattle.fs_check.proofs.keeping.Firm.{nodes_begin, nodes_more}
use Rattle.fs_check.proofs.sound.Steps.{bytes_at}
use Rattle.fs_check.proofs.firm.set_nodes.Goals as goal

pub loop-place-init : goal.loop-place-init
loop-place-init c = nodes_begin c.args.geom.now c.args.t (nodes_before c.args.geom.now.layout c.args.t + 0 + 1) c.args.table.now c.args.firm.now (omega arith)

pub loop-place-preserved : goal.loop-place-preserved
loop-place-preserved c =
    let number = c.nodes_before.result + c.loop-place.place + 1 in
    let number_is = ap (λ n. n + c.loop-place.place + 1) (c.nodes_before.ensures ∙ ap (λ l. nodes_before l c.args.t) c.layout-layout.ensures) in
    nodes_more c.args.geom.now c.args.t (nodes_before c.args.geom.now.layout c.args.t + c.loop-place.place + 1) number (number + 1) (nodes_before c.args.geom.now.layout c.args.t + (c.loop-place.place + 1) + 1) c.args.table.now (take (c.rank_byte-at.result + c.node_length.result - c.rank_byte-at.result) (drop c.rank_byte-at.result c.args.table.now))
    c.args.firm.now c.loop-place.firm c.set_node.new.firm (sym number_is) (omega (arith, number_is)) c.loop-place.invariant c.set_node.ensures.size
    (λ m is. bytes_at c.args.geom.now m c.args.t c.loop-place.place number c.rank_byte-at.result (c.rank_byte-at.result + c.node_length.result - c.rank_byte-at.result) c.args.table.now is number_is (omega (arith, c.loop-place-test.true, c.nodes_in_block-place-end.ensures, ap nodes_in_block c.layout-layout.ensures)) (c.rank_byte-at.ensures ∙ ap (λ l. rank_byte l c.loop-place.place) c.layout-layout.ensures) (omega (arith, c.node_length.ensures, ap node_size c.layout-layout.ensures)))
    c.set_node.ensures.firm

pub returns-clause-firm : goal.returns-clause-firm
returns-clause-firm c = λ m is below.
    subst (λ k. AreFirmBelow c.args.geom.now m k (blocks_of c.loop-place.firm)) (omega (arith, c.loop-place-test.false, c.loop-place.auto.place-end, c.nodes_in_block-place-end.ensures, ap nodes_in_block c.layout-layout.ensures, next_nodes_before c.args.geom.now.layout c.args.t)) (c.loop-place.invariant.firm m is below)
