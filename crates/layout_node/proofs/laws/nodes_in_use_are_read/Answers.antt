use Rattle.std.proofs.Common.{ap, ◌∙◌}
use Rattle.layout_bytes.specs.declared.node.Node.{Node}
use Rattle.layout_node.proofs.Spelled.{node_reads, one_node}
use Rattle.layout_node.proofs.FromBytes.{node_spelled, unread}
use Rattle.layout_node.proofs.laws.nodes_in_use_are_read.Goals as goal

pub returns-clause-read : goal.returns-clause-read
returns-clause-read c = let told = c.fields_tell_their_bytes.ensures in λ g b n size bytes. (node_spelled told.zeros told.first_zeros told.numbers g b n size bytes, λ is. node_reads g b n is.0 is.1)

pub returns-clause-none : goal.returns-clause-none
returns-clause-none c = let told = c.fields_tell_their_bytes.ensures in λ g b size bytes isnt. unread g b (λ n e. isnt n (node_spelled told.zeros told.first_zeros told.numbers g b n size bytes e).0)

pub returns-clause-free : goal.returns-clause-free
returns-clause-free c = let told = c.fields_tell_their_bytes.ensures in λ g b n size bytes is free. unread g b (λ m e.
    let read = node_spelled told.zeros told.first_zeros told.numbers g b m size bytes e in
    read.1 (ap (λ (x : Node). x.kind) (one_node g b m n read.0 is) ∙ free))
