use Rattle.engine_running.proofs.logs.Stays.{notices_stay}
use Rattle.engine_running.proofs.laws.noticed_tickets_stay_so.Goals as goal

pub returns : goal.returns
returns c = notices_stay
