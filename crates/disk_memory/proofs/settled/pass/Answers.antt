use Rattle.std.proofs.Common.{Some, ap, ◌∙◌}
use Rattle.disk_memory.specs.declared.logged.Logged.{Logged}
use Rattle.disk_memory.specs.Logged.{event_of}
use Rattle.disk_memory.proofs.settled_places.SettledMoments.{places_wrote, places_lost}
use Rattle.disk_memory.proofs.settled.pass.Goals as goal

pub returns-in-Lost : goal.returns-in-Lost
returns-in-Lost c = λ old. places_lost c.args.log.now.events c.args.place _ c.in-Lost.block c.in-Lost.bytes.now c.args.places.now (c.event.ensures ∙ ap (λ (l : Logged). Some (event_of l)) c.in-Lost.is) old

pub returns-in-Noticed : goal.returns-in-Noticed
returns-in-Noticed c = λ old. c.note.ensures c.args.place (c.event.ensures ∙ ap (λ (l : Logged). Some (event_of l)) c.in-Noticed.is) old

pub returns-in-Wrote : goal.returns-in-Wrote
returns-in-Wrote c = λ old. places_wrote c.args.log.now.events c.args.place _ c.in-Wrote.ticket c.in-Wrote.block c.in-Wrote.bytes.now c.args.places.now c.lawful.ensures.lawful (c.event.ensures ∙ ap (λ (l : Logged). Some (event_of l)) c.in-Wrote.is) old
