use Rattle.disk_contract.proofs.Lawful.{settled_newest, settled_base}
use Rattle.disk_contract.proofs.laws.settled_is_the_newest_noticed.Goals as goal

pub returns-clause-noticed : goal.returns-clause-noticed
returns-clause-noticed c = settled_newest

pub returns-clause-none : goal.returns-clause-none
returns-clause-none c = settled_base
