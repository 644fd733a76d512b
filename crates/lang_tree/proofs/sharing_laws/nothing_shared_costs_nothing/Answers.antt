use Rattle.lang_tree.specs.Conditions.{refusal}
use Rattle.lang_tree.proofs.Sharing.{writes_as_before, cuts_as_before, figures_as_before}
use Rattle.lang_tree.proofs.sharing_laws.nothing_shared_costs_nothing.Goals as goal

pub returns-clause-writes : goal.returns-clause-writes
returns-clause-writes c = writes_as_before

pub returns-clause-cuts : goal.returns-clause-cuts
returns-clause-cuts c = cuts_as_before

pub returns-clause-commands : goal.returns-clause-commands
returns-clause-commands c = λ bitmap s cmd. figures_as_before bitmap s.limit s.tree cmd (refusal s.limit s.tree cmd)
