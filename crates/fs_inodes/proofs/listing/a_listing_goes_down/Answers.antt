use Rattle.std.proofs.Common.{length, ap, ◌∙◌}
use Rattle.fs_inodes.proofs.agreement.Agree.{agrees}
use Rattle.fs_inodes.proofs.lookups.Descent.{from_root}
use Rattle.fs_inodes.proofs.sums.Totals.{paths_counted}
use Rattle.fs_inodes.proofs.lookups.Lines.{root_lines, whole_listing, lines_down, paths_down}
use Rattle.fs_inodes.proofs.listing.a_listing_goes_down.Goals as goal

pub returns-clause-root : goal.returns-clause-root
returns-clause-root c = root_lines

pub returns-clause-whole : goal.returns-clause-whole
returns-clause-whole c = whole_listing c.the_tree_is_lawful.ensures

pub returns-clause-lines : goal.returns-clause-lines
returns-clause-lines c = λ limit m t path node is leads. lines_down limit m t (agrees c.the_tree_is_lawful.ensures limit m t is) path node (is.shows.names path ∙ leads)

pub returns-clause-paths : goal.returns-clause-paths
returns-clause-paths c = λ limit m t path node is leads. paths_down limit m t (agrees c.the_tree_is_lawful.ensures limit m t is) path node (is.shows.names path ∙ leads)

pub returns-clause-count : goal.returns-clause-count
returns-clause-count c = λ limit m t is. ap length (from_root t.names) ∙ paths_counted c.the_tree_is_lawful.ensures limit m t (agrees c.the_tree_is_lawful.ensures limit m t is)
