use Rattle.std.proofs.Common.{length, ap, None, arith}
use Rattle.fs_memtree.proofs.rows.Row.{not_there, unused_set, nodes_taken}
use Rattle.fs_memtree.proofs.nodes.Nodes.remove.Goals as goal

pub returns-in_default-clause-ok : goal.returns-in_default-clause-ok
returns-in_default-clause-ok c = not_there c.self.inside.row.items c.as_slice.result.now c.args.number c.args.self.now c.self.view_is c.as_slice.ensures.value c.in_default.ensures.used

pub invariant_of-self-2 : goal.invariant_of-self-2
invariant_of-self-2 c = unused_set c.self.inside.unused c.insert.new.self c.self.inside.row.items c.in-Some.index c.args.number None
    c.in-Some.ensures.place.0 (omega (arith, c.in-Some.ensures.place.1, ap length c.as_slice.ensures.value)) c.self.invariant c.in_ok-insert.ensures.updates.0

pub returns-clause-ok : goal.returns-clause-ok
returns-clause-ok c = nodes_taken c.self.inside.row.items c.in-Some.index c.args.number c.args.self.now
    c.in-Some.ensures.place.0 (omega (arith, c.in-Some.ensures.place.1, ap length c.as_slice.ensures.value)) c.self.view_is
