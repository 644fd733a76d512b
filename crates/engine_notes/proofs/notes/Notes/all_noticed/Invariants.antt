use Rattle.std.proofs.Common.{◌≡◌, drop}
use Rattle.engine_notes.specs.Notes.{are_noticed}
use Rattle.engine_notes.proofs.notes.Notes.all_noticed.Given as goal

abbrev pub invariant-loop-ticket : goal.invariant-loop-ticket
invariant-loop-ticket l = record { rest : are_noticed l.tickets l.self.notes ≡ are_noticed (drop l.ticket-index l.tickets) l.self.notes }
