use Rattle.fs_inodes.proofs.agreement.Agree.{agrees}
use Rattle.fs_inodes.proofs.basics.Numbers.{unused_is_free}
use Rattle.fs_inodes.proofs.lookups.Reasons.{reason_given}
use Rattle.fs_inodes.proofs.refusals.the_map_gives_the_refusal.Goals as goal

pub returns-clause-refusal : goal.returns-clause-refusal
returns-clause-refusal c = λ limit m t cmd is. reason_given c.the_tree_is_lawful.ensures limit m t (agrees c.the_tree_is_lawful.ensures limit.nodes m t is) cmd

pub returns-clause-unused : goal.returns-clause-unused
returns-clause-unused c = λ limit m t is alone. unused_is_free c.the_tree_is_lawful.ensures limit m t alone is.shows.nodes
