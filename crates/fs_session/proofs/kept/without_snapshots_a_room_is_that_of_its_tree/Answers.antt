use Rattle.fs_session.specs.NothingKept.{alone_costs, alone_left, alone_placed, alone_runs, alone_uses}
use Rattle.fs_session.proofs.kept.without_snapshots_a_room_is_that_of_its_tree.Goals as goal

pub returns-clause-figures : goal.returns-clause-figures
returns-clause-figures c = λ g f r cmd none. alone_costs g f r none c.nothing_shared_costs_nothing.ensures.commands cmd

pub returns-clause-runs : goal.returns-clause-runs
returns-clause-runs c = λ g f r cmd k need none. alone_runs g f r none cmd k need

pub returns-clause-placed : goal.returns-clause-placed
returns-clause-placed c = λ g f r cmd old new more none placed. alone_placed g f r none cmd old new more placed

pub returns-clause-uses : goal.returns-clause-uses
returns-clause-uses c = λ g f r b none. alone_uses g f r none b

pub returns-clause-left : goal.returns-clause-left
returns-clause-left c = λ g f r none holds. alone_left g f r none holds
