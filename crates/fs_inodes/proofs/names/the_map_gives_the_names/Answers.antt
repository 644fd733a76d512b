use Rattle.std.proofs.Common.{◌∙◌, sym}
use Rattle.fs_inodes.proofs.agreement.Agree.{agrees}
use Rattle.fs_inodes.proofs.lookups.Rows.{names_count}
use Rattle.fs_inodes.proofs.lookups.Ordered.{sorted_is_keys}
use Rattle.fs_inodes.proofs.lookups.Replies.{names_here}
use Rattle.fs_inodes.proofs.names.the_map_gives_the_names.Goals as goal

pub returns-clause-names : goal.returns-clause-names
returns-clause-names c = λ limit m t path dir slots is leads at. names_here limit m t (agrees c.the_tree_is_lawful.ensures limit m t is) path dir slots (is.shows.names path ∙ leads) at

pub returns-clause-sorted : goal.returns-clause-sorted
returns-clause-sorted c = λ limit m t path dir slots names is leads at shuffled up. names_here limit m t (agrees c.the_tree_is_lawful.ensures limit m t is) path dir slots (is.shows.names path ∙ leads) at ∙ sym (sorted_is_keys slots (is.distinct dir slots at) names shuffled up)

pub returns-clause-count : goal.returns-clause-count
returns-clause-count c = λ limit m t path is. names_count limit m t (agrees c.the_tree_is_lawful.ensures limit m t is) path
