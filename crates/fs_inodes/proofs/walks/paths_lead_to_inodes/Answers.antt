use Rattle.std.proofs.Common.{◌∙◌}
use Rattle.fs_inodes.proofs.agreement.Agree.{agrees}
use Rattle.fs_inodes.proofs.lookups.Walking.{thing_given, content_given}
use Rattle.fs_inodes.proofs.lookups.Neighbours.{in_one_given}
use Rattle.fs_inodes.proofs.walks.paths_lead_to_inodes.Goals as goal

pub returns-clause-node : goal.returns-clause-node
returns-clause-node c = λ limit m t path is. thing_given limit m t (agrees c.the_tree_is_lawful.ensures limit m t is) path

pub returns-clause-bytes : goal.returns-clause-bytes
returns-clause-bytes c = λ limit m t path is. content_given limit m t (agrees c.the_tree_is_lawful.ensures limit m t is) path

pub returns-clause-in_one : goal.returns-clause-in_one
returns-clause-in_one c = λ limit m t up to name other dir into slots is leads leads_to at.
    in_one_given limit m t (agrees c.the_tree_is_lawful.ensures limit m t is) up to name other dir into slots (is.shows.names up ∙ leads) (is.shows.names to ∙ leads_to) at
