use Rattle.layout_node.proofs.Spelled.{free_zeros, zeros_free}
use Rattle.layout_node.proofs.laws.a_free_node_is_zeros.Goals as goal

pub returns : goal.returns
returns c = record { zeros = free_zeros; free = zeros_free }
