use Rattle.engine_notes.proofs.Open.{noticed_or_open}
use Rattle.engine_notes.proofs.laws.expected_tickets_are_noticed_or_open.Goals as goal

pub returns : goal.returns
returns c = noticed_or_open
