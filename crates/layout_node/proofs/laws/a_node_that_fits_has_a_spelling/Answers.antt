use Rattle.layout_node.proofs.Bounds.{stands}
use Rattle.layout_node.proofs.laws.a_node_that_fits_has_a_spelling.Goals as goal

pub returns : goal.returns
returns c = stands
