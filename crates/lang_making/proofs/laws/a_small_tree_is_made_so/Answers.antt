use Rattle.lang_making.proofs.Example.{small_made}
use Rattle.lang_making.proofs.laws.a_small_tree_is_made_so.Goals as goal

pub returns : goal.returns
returns c = small_made
