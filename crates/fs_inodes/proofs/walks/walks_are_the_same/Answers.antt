use Rattle.std.proofs.Common.{option_and_then, ◌∙◌, ap}
use Rattle.crash_stands.specs.Walks.{entries_of, entry_in}
use Rattle.fs_inodes.proofs.agreement.Agree.{agrees}
use Rattle.fs_inodes.proofs.lookups.Walking.{walks, walks_from, parent_given, walk_ends, comes_to_end}
use Rattle.fs_inodes.proofs.walks.walks_are_the_same.Goals as goal

pub returns-clause-walk : goal.returns-clause-walk
returns-clause-walk c = λ limit m t path is. walks limit m t (agrees c.the_tree_is_lawful.ensures limit m t is) path

pub returns-clause-on : goal.returns-clause-on
returns-clause-on c = λ limit m t here rest k is at. walks_from limit m t (agrees c.the_tree_is_lawful.ensures limit m t is) here rest k (is.shows.names here ∙ at)

pub returns-clause-parent : goal.returns-clause-parent
returns-clause-parent c = λ limit m t path is. parent_given limit m t (agrees c.the_tree_is_lawful.ensures limit m t is) path

pub returns-clause-ends : goal.returns-clause-ends
returns-clause-ends c = λ m path k e. walk_ends m k path e

pub returns-clause-leads : goal.returns-clause-leads
returns-clause-leads c = λ m path k e. comes_to_end m 1 k path e

pub returns-clause-last : goal.returns-clause-last
returns-clause-last c = λ m up name dir slots leads is. c.the_tree_is_lawful.ensures.walk_last (entries_of m) 1 up name ∙ ap (option_and_then (λ j. entries_of m j name)) leads ∙ ap (λ o. entry_in o name) is
