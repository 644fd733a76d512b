use Rattle.lang_tree.specs.Conditions.{refusal}
use Rattle.lang_tree.proofs.Sharing.{costs_alike}
use Rattle.lang_tree.proofs.sharing_laws.sharing_costs_where_all_costs.Goals as goal

pub returns : goal.returns
returns c = λ bitmap shared alone s cmd. costs_alike bitmap shared alone s.limit s.tree cmd (refusal s.limit s.tree cmd)
