use Rattle.std.proofs.Common.{rules}
use Rattle.disk_mirror.proofs.Ascending.{past_end, at_place, not_there}
use Rattle.disk_mirror.proofs.places.place_with.Goals as goal

pub returns-then-at-pairs-clause-all : goal.returns-then-at-pairs-clause-all
returns-then-at-pairs-clause-all c = past_end _ _ _ _ c.first_from-at.ensures.within c.first_from-at.ensures.before c.first_from-at.ensures.behind (search rules)

pub returns-then-is_on-clause-all : goal.returns-then-is_on-clause-all
returns-then-is_on-clause-all c = at_place _ _ _ _ c.first_from-at.ensures.within c.first_from-at.ensures.before c.first_from-at.ensures.behind

pub returns-clause-all : goal.returns-clause-all
returns-clause-all c = not_there _ _ _ _ c.first_from-at.ensures.within c.first_from-at.ensures.before c.first_from-at.ensures.behind (search rules)
