use Rattle.std.proofs.Common.{ap, length, ◌∙◌}
use Rattle.layout_node.proofs.Spelled.{one_node, has_few_runs, spelling_length}
use Rattle.layout_node.proofs.laws.a_spelling_has_one_node.Goals as goal

pub returns-clause-one : goal.returns-clause-one
returns-clause-one c = one_node

pub returns-clause-size : goal.returns-clause-size
returns-clause-size c = λ g b n is. ap length is.spelling ∙ spelling_length g.layout n (has_few_runs g b n is)
