use Rattle.std.proofs.Common.{sym, subst}
use Rattle.std.proofs.lemmas.Result.{err_from_is_err_and}
use Rattle.layout_bytes.specs.Node.{IsNode, free_node}
use Rattle.fs_check.proofs.node.node_in.Goals as goal

pub returns-in_err-node-clause-unread : goal.returns-in_err-node-clause-unread
returns-in_err-node-clause-unread c =
    let p = err_from_is_err_and c.from_residual.result c.from_residual.ensures.1 in
    rw (p.1) (c.nodes_in_use_are_read.ensures.none c.args.geom.now c.args.bytes.now c.requires c.byte_ranges.ensures c.in_err-node.ensures.refused)

pub returns-in_err-node-clause-carries : goal.returns-in_err-node-clause-carries
returns-in_err-node-clause-carries c =
    let p = err_from_is_err_and c.from_residual.result c.from_residual.ensures.1 in
    rw (p.1) (λ zeros. c.in_err-node.ensures.refused free_node (subst (λ b. IsNode c.args.geom.now b free_node) (sym zeros) (c.a_free_node_is_zeros.ensures.free c.args.geom.now)))

pub returns-in-Free-clause-found : goal.returns-in-Free-clause-found
returns-in-Free-clause-found c =
    sym (c.nodes_in_use_are_read.ensures.free c.args.geom.now c.args.bytes.now c.in_ok-node.node c.requires c.byte_ranges.ensures c.in_ok-node.ensures.found c.in-Free.is)
