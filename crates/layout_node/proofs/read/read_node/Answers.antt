-- A node's spelling has as many bytes as a node, and is zeros where the node is free; else it reads as the node.
use Rattle.std.proofs.Common.{length, refl, sym, ap, ◌∙◌, arith}
use Rattle.base_types.specs.Layouts.{node_size}
use Rattle.layout_bytes.specs.Node.{node_of}
use Rattle.layout_node.proofs.Spelled.{has_few_runs, spelling_length}
use Rattle.layout_node.proofs.Bounds.{runs_of_node, tidy_part, below_part}
use Rattle.layout_node.proofs.FromBytes.{zeros_read, found, refused}
use Rattle.layout_node.proofs.read.read_node.Goals as goal

pub returns-then-bytes-length-clause-refused : goal.returns-then-bytes-length-clause-refused
returns-then-bytes-length-clause-refused c =
    λ n stands. c.if-bytes-length.true (ap length stands.spelling ∙ spelling_length c.args.geom.now.layout n (has_few_runs c.args.geom.now c.args.bytes.now n stands) ∙ sym (c.node_length-length.ensures ∙ ap node_size c.layout-layout.ensures))

pub returns-then-are_zeros-clause-found : goal.returns-then-are_zeros-clause-found
returns-then-are_zeros-clause-found c =
    zeros_read c.fields_tell_their_bytes.ensures.zeros c.fields_tell_their_bytes.ensures.first_zeros c.fields_tell_their_bytes.ensures.numbers c.args.geom.now c.args.bytes.now c.free_node.result (c.if-bytes-length.false ∙ c.node_length-length.ensures ∙ ap node_size c.layout-layout.ensures) (sym c.are_zeros.ensures ∙ c.if-are_zeros.true) c.free_node.ensures

pub returns-clause-found : goal.returns-clause-found
returns-clause-found c =
    found c.fields_tell_their_bytes.ensures.zeros c.fields_tell_their_bytes.ensures.first_zeros c.fields_tell_their_bytes.ensures.numbers c.args.geom.now c.args.bytes.now (node_of c.args.geom.now c.args.bytes.now) c.used_node.result c.used_node.ensures refl (c.if-bytes-length.false ∙ c.node_length-length.ensures ∙ ap node_size c.layout-layout.ensures) (λ i. omega (arith, c.type_inv.bytes i))

pub returns-clause-refused : goal.returns-clause-refused
returns-clause-refused c =
    refused c.args.geom.now c.args.bytes.now (node_of c.args.geom.now c.args.bytes.now) c.used_node.result c.used_node.ensures refl (sym c.are_zeros.ensures ∙ c.if-are_zeros.false)

pub returns-clause-tidy : goal.returns-clause-tidy
returns-clause-tidy c =
    tidy_part c.used_node.result (runs_of_node c.args.geom.now c.args.bytes.now c.used_node.result c.lawful.ensures.fits (returns-clause-found c))

pub returns-clause-below : goal.returns-clause-below
returns-clause-below c =
    below_part c.used_node.result (runs_of_node c.args.geom.now c.args.bytes.now c.used_node.result c.lawful.ensures.fits (returns-clause-found c))
