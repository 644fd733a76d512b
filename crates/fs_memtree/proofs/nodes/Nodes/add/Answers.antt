use Rattle.std.proofs.Common.{◌-◌, ◌∙◌, Some, arith}
use Rattle.fs_memtree.proofs.rows.Row.{unused_set, nodes_set, unused_pushed, nodes_pushed}
use Rattle.fs_memtree.proofs.nodes.Nodes.add.Goals as goal

pub overflow_sub-index : goal.overflow_sub-index
overflow_sub-index c = c.requires.1

pub invariant_of-self : goal.invariant_of-self
invariant_of-self c = unused_set c.self.inside.unused c.remove.new.self c.self.inside.row.items (c.args.number - 1) c.args.number (Some c.args.node)
    (omega (arith, c.requires.1)) (omega (arith, c.if-index-len.true, c.len.ensures)) c.self.invariant c.remove.ensures.updates.0

pub returns-then-index-len-clause-ok : goal.returns-then-index-len-clause-ok
returns-then-index-len-clause-ok c = nodes_set c.self.inside.row.items (c.args.number - 1) c.args.number c.args.node c.args.self.now
    (omega (arith, c.requires.1)) (omega (arith, c.if-index-len.true, c.len.ensures)) c.self.view_is

pub invariant_of-self-2 : goal.invariant_of-self-2
invariant_of-self-2 c = unused_pushed c.lengthen.new.unused c.lengthen.new.row.items c.push.new.self.items c.args.number c.args.node c.in_ok-push.ensures.items
    (omega (arith, c.in_ok-lengthen.ensures.ok, c.requires.1)) c.in_ok-lengthen.ensures.unused

pub returns-clause-ok : goal.returns-clause-ok
returns-clause-ok c = nodes_pushed c.lengthen.new.row.items c.push.new.self.items c.args.number c.args.node c.args.self.now c.in_ok-push.ensures.items
    (omega (arith, c.in_ok-lengthen.ensures.ok, c.requires.1)) (c.in_ok-lengthen.ensures.nodes ∙ c.self.view_is)
