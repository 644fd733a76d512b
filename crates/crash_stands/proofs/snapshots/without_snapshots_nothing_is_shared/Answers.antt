use Rattle.crash_stands.proofs.Holding.{none_kept, own_marks, none_held}
use Rattle.crash_stands.proofs.snapshots.without_snapshots_nothing_is_shared.Goals as goal

pub returns-clause-none : goal.returns-clause-none
returns-clause-none c = none_kept

pub returns-clause-marked : goal.returns-clause-marked
returns-clause-marked c = own_marks

pub returns-clause-tree : goal.returns-clause-tree
returns-clause-tree c = none_held
