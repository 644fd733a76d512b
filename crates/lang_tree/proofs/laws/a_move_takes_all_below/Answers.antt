use Rattle.lang_tree.proofs.moves.MoveLaws.{same_node_stays, second_is, first_gone, others_stay}
use Rattle.lang_tree.proofs.laws.a_move_takes_all_below.Goals as goal

pub returns-clause-same : goal.returns-clause-same
returns-clause-same c = same_node_stays

pub returns-clause-second : goal.returns-clause-second
returns-clause-second c = second_is

pub returns-clause-first : goal.returns-clause-first
returns-clause-first c = first_gone

pub returns-clause-others : goal.returns-clause-others
returns-clause-others c = others_stay
