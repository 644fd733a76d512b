use Rattle.std.proofs.Common.{◌≡◌, ◌∙◌, Some, ap, arith}
use Rattle.std.specs.List.{slice_get}
use Rattle.disk_contract.specs.declared.event.Event.TheVariants.{Wrote}
use Rattle.disk_memory.specs.declared.choice.WriteName.TheVariants as names
use Rattle.disk_memory.specs.declared.logged.Logged.{Logged}
use Rattle.disk_memory.specs.Logged.{event_of}
use Rattle.disk_memory.proofs.settled_places.SettledMoments.{read_there, read_other, places_here, places_later, notice_has_place}
use Rattle.disk_memory.proofs.settled.note.Goals as goal
use Rattle.disk_memory.proofs.settled.note.Goals.{In-Wrote}
use Rattle.disk_memory.proofs.log_rows.Events.{write_within}
use Rattle.disk_memory.proofs.crash_images.FateNames.{name_within}
use Rattle.disk_memory.proofs.kept_events.LookedUp.{looked_up_wrote}

-- the write of the ticket is at the place that was found
stands : (c : In-Wrote) → slice_get c.args.log.now.events c.in-Some.place ≡ Some (Wrote c.args.ticket c.in-Wrote.block c.in-Wrote.bytes.now)
stands c = read_there c.args.log.now.events c.in-Some.place c.args.ticket c.in-Wrote.ticket c.in-Wrote.block c.in-Wrote.bytes.now (c.event.ensures ∙ ap (λ (l : Logged). Some (event_of l)) c.in-Wrote.is) c.in-Some.ensures.there

pub event-requires : goal.event-requires
event-requires c = name_within 0 c.args.log.now.events c.in-Some.place (names.Accepted c.args.ticket) c.in-Some.ensures.there

pub bounds-places-block : goal.bounds-places-block
bounds-places-block c = write_within _ c.args.log.now.events c.in-Some.place c.args.ticket c.in-Wrote.block c.in-Wrote.bytes.now c.requires (stands (goal.at.bounds-places-block c).In-Wrote)

pub overflow_add-places : goal.overflow_add-places
overflow_add-places c = omega (arith, name_within 0 c.args.log.now.events c.in-Some.place (names.Accepted c.args.ticket) c.in-Some.ensures.there, c.lawful.ensures.few)

pub bounds-places-block-then-places-block : goal.bounds-places-block-then-places-block
bounds-places-block-then-places-block c = write_within _ c.args.log.now.events c.in-Some.place c.args.ticket c.in-Wrote.block c.in-Wrote.bytes.now c.requires (stands (goal.at.bounds-places-block-then-places-block c).In-Wrote)

pub returns-then-places-block : goal.returns-then-places-block
returns-then-places-block c = λ moment event old.
    places_here c.args.log.now.events moment _ c.args.ticket c.in-Some.place c.in-Wrote.block c.in-Wrote.bytes.now c.args.places.now c.lawful.ensures.lawful event (stands (goal.at.returns-then-places-block c).In-Wrote) old c.if-places-block.true

pub returns-else-places-block : goal.returns-else-places-block
returns-else-places-block c = λ moment event old.
    places_later c.args.log.now.events moment _ c.args.ticket c.in-Some.place c.in-Wrote.block c.in-Wrote.bytes.now c.args.places.now c.lawful.ensures.lawful event (stands (goal.at.returns-else-places-block c).In-Wrote) old c.if-places-block.false

pub returns-in_default-event : goal.returns-in_default-event
returns-in_default-event c =
    let write = read_other c.args.log.now.events c.in-Some.place c.args.ticket (event_of c.event.result) c.event.ensures c.in-Some.ensures.there in
    let found = looked_up_wrote c.event.result write.0 write.1 write.2 write.3 in
    absurd (c.in_default-event.not-Wrote found.0 found.1 found.2 found.3)

pub returns-in_default : goal.returns-in_default
returns-in_default c = λ moment event old. absurd (notice_has_place c.args.log.now.events moment c.args.ticket c.lawful.ensures.lawful event c.in_default.ensures.none)
