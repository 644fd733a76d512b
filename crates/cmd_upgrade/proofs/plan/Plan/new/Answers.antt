-- Of the root alone nothing is planned.
use Rattle.std.proofs.Common.{refl, rules}
use Rattle.cmd_upgrade.proofs.Planned.{new_plan}
use Rattle.cmd_upgrade.proofs.plan.Plan.new.Goals as goal

pub returns-clause-plan : goal.returns-clause-plan
returns-clause-plan c = λ l limit t ok. new_plan limit t ok l (record { entries = c.new.result; firsts = c.new-2.result; blocks = 0 }) (search rules) c.new-2.ensures.empty refl
