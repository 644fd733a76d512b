use Rattle.std.proofs.Common.{rules, ◌≡◌, ◌≤◌, ◌+◌, ◌++◌, List, [], ◌∷◌, ◌∙◌, sym, ap, subst, arith, append_assoc, append-nil}
use Rattle.std.proofs.lemmas.List.{nil_from_length}
use Rattle.disk_contract.specs.declared.event.Event.{Event}
use Rattle.disk_contract.specs.Lawful.{MayCome, IsLawful}
use Rattle.disk_memory.specs.Log.{LogState, write_count, writes_in}
use Rattle.disk_memory.proofs.log_rows.AddRows.{writes_up_to}
use Rattle.disk_memory.proofs.log.Log.of_events.Goals as goal
use Rattle.disk_memory.proofs.log_rows.Events.{lawful_next}

pub loop-event-init : goal.loop-event-init
loop-event-init c =
    let whole : c.in_ok-room.room ≡ c.write_count-room.result = search rules in
    let count = whole ∙ c.write_count-room.ensures ∙ ap write_count c.as_slice.ensures.value in
    (c.in_ok-log.ensures ∙ ap (λ room. record { events = []; room = room; ready = 0 }) count, c.into_iter-event-iterator.ensures.into_iter_gives.0)

pub add-requires-clause-may : goal.add-requires-clause-may
add-requires-clause-may c =
    let so = c.loop-event.invariant in
    let all = ap (λ (l : List Event). c.loop-event.yielded ++ l) (sym c.in-Some.ensures.steps.0) ∙ so.1 in
    subst (λ (s : LogState). MayCome s.events c.in-Some.event) (sym so.0) (lawful_next c.loop-event.yielded _ c.in-Some.event (subst IsLawful (sym all) c.requires))

pub add-requires-clause-room : goal.add-requires-clause-room
add-requires-clause-room c =
    let so = c.loop-event.invariant in
    let all = ap (λ (l : List Event). c.loop-event.yielded ++ l) (sym c.in-Some.ensures.steps.0) ∙ so.1 in
    subst (λ (s : LogState). write_count s.events + writes_in c.in-Some.event ≤ s.room) (sym so.0) (subst (λ (l : List Event). write_count c.loop-event.yielded + writes_in c.in-Some.event ≤ write_count l) all (writes_up_to c.loop-event.yielded _ c.in-Some.event))

pub loop-event-preserved : goal.loop-event-preserved
loop-event-preserved c =
    let so = c.loop-event.invariant in
    let all = ap (λ (l : List Event). c.loop-event.yielded ++ l) (sym c.in-Some.ensures.steps.0) ∙ so.1 in
    (c.add.ensures ∙ ap (λ (s : LogState). record s { events = s.events ++ c.in-Some.event ∷ [] }) so.0, append_assoc c.loop-event.yielded (c.in-Some.event ∷ []) _ ∙ all)

pub returns : goal.returns
returns c =
    let so = c.loop-event.invariant in
    let rest = c.loop-event.event-iterator.rest in
    let none = nil_from_length rest.items (omega (arith, c.in-None.ensures.steps.0, rest.ok)) in
    let all = sym (append-nil c.loop-event.yielded) ∙ ap (λ (l : List Event). c.loop-event.yielded ++ l) (sym none) ∙ so.1 in
    so.0 ∙ ap (λ (l : List Event). record { events = l; room = write_count c.args.events.items; ready = 0 }) all
