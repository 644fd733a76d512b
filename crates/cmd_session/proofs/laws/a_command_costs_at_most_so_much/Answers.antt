use Rattle.cmd_session.proofs.Costing.{within_most}
use Rattle.cmd_session.proofs.RoomWeights.{weighs_low}
use Rattle.cmd_session.proofs.Weights.{weight_up}
use Rattle.cmd_session.proofs.laws.a_command_costs_at_most_so_much.Goals as goal

pub returns-clause-need : goal.returns-clause-need
returns-clause-need c = λ g f r cmd. (within_most c.nothing_shared_costs_nothing.ensures.commands g f r cmd).0

pub returns-clause-cost : goal.returns-clause-cost
returns-clause-cost c = λ g f r cmd. (within_most c.nothing_shared_costs_nothing.ensures.commands g f r cmd).1

pub returns-clause-weight : goal.returns-clause-weight
returns-clause-weight c = λ g f next r room cmd reply calm answers. weighs_low c.nothing_shared_costs_nothing.ensures.commands g f reply next room cmd r calm answers

pub returns-clause-more : goal.returns-clause-more
returns-clause-more c = λ bitmap w v f cmd reply le. weight_up bitmap f w v cmd reply le
