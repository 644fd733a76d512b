use Rattle.layout_journal.proofs.Below.{held_alike}
use Rattle.layout_journal.proofs.laws.images_alike_below_n_hold_the_same.Goals as goal

pub returns : goal.returns
returns c = held_alike
