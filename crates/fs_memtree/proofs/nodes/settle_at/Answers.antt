use Rattle.std.proofs.Common.{length, ap, arith}
use Rattle.fs_memtree.specs.Stored.{settled}
use Rattle.fs_memtree.proofs.rows.Row.{not_edited, nodes_edited, gaps_edited}
use Rattle.fs_memtree.proofs.nodes.settle_at.Goals as goal

pub returns-in_default-clause-nodes : goal.returns-in_default-clause-nodes
returns-in_default-clause-nodes c = not_edited c.args.row.now.items c.as_slice.result.now c.args.number (settled c.args.change) c.as_slice.ensures.value c.in_default.ensures.used

pub returns-clause-nodes : goal.returns-clause-nodes
returns-clause-nodes c = nodes_edited c.args.row.now.items c.in-Some.index c.args.number c.settle.new.place c.index_mut.result.now (settled c.args.change)
    c.in-Some.ensures.place.0 (omega (arith, c.in-Some.ensures.place.1, ap length c.as_slice.ensures.value)) c.index_mut.ensures.value c.settle.ensures

pub returns-clause-unused : goal.returns-clause-unused
returns-clause-unused c = gaps_edited c.args.row.now.items c.in-Some.index c.args.number c.settle.new.place c.index_mut.result.now (settled c.args.change)
    c.in-Some.ensures.place.0 (omega (arith, c.in-Some.ensures.place.1, ap length c.as_slice.ensures.value)) c.index_mut.ensures.value c.settle.ensures
