use Rattle.std.proofs.Common.{refl, ◌∙◌}
use Rattle.layout_node.proofs.ReadRuns.{runs_within}
use Rattle.layout_node.proofs.Spelled.{node_from}
use Rattle.layout_bytes.specs.Node.{node_fields}
use Rattle.layout_node.proofs.read.node_fields.Goals as goal

pub returns : goal.returns
returns c =
    node_from (node_fields c.args.kind c.args.bytes.now) _ _ _ _ refl c.number_4.ensures c.number_8.ensures
    (c.runs_in.ensures ∙ runs_within c.args.count _ c.args.bytes.now c.requires.count)
