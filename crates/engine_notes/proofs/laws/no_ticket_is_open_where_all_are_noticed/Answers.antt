use Rattle.engine_notes.proofs.Open.{none_open_where_all}
use Rattle.engine_notes.proofs.laws.no_ticket_is_open_where_all_are_noticed.Goals as goal

pub returns : goal.returns
returns c = none_open_where_all
