use Rattle.disk_contract.proofs.Spending.{spends_together}
use Rattle.disk_contract.proofs.laws.calls_in_a_row_spend_together.Goals as goal

pub returns : goal.returns
returns c = spends_together
