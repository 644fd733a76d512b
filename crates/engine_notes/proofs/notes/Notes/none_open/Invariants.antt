use Rattle.std.proofs.Common.{◌≡◌, drop}
use Rattle.engine_notes.specs.Notes.{none_open}
use Rattle.engine_notes.proofs.notes.Notes.none_open.Given as goal

abbrev pub invariant-loop-ticket : goal.invariant-loop-ticket
invariant-loop-ticket l = record { rest : none_open l.tickets l.self.notes ≡ none_open (drop l.ticket-index l.tickets) l.self.notes }
