use Rattle.engine_notes.proofs.Few.{no_more}
use Rattle.engine_notes.proofs.laws.notes_of_few_tickets_are_few.Goals as goal

pub returns : goal.returns
returns c = no_more
