use Rattle.std.proofs.Common.{◌∙◌, Some, List, length, refl, ap, sym}
use Rattle.std.specs.List.{slice_get}
use Rattle.std.proofs.lemmas.Bool.{ltb-true}
use Rattle.std.proofs.lemmas.Option.{slice_get_read}
use Rattle.disk_contract.specs.declared.event.Event.{Event}
use Rattle.disk_memory.specs.declared.events.Entry.{Entry}
use Rattle.disk_memory.specs.Events.{EventsState, event_kept}
use Rattle.disk_memory.proofs.kept_events.Entries.{held_at, event_at}
use Rattle.disk_memory.proofs.events.Events.at.Goals as goal

pub looked_up-requires : goal.looked_up-requires
looked_up-requires c =
    let found = c.in_ok-entry.ensures.lookup in
    let there = slice_get_read c.deref.result.now (length c.deref.result.now) c.args.place c.in_ok-entry.entry.now refl (ltb-true _ _ (sym found.0)) found.1 in
    rw c.as_slice.ensures.value (held_at _ c.self.inside.entries.items c.args.place c.in_ok-entry.entry.now c.self.invariant.held (sym (ap (λ (es : List Entry). slice_get es c.args.place) c.deref.ensures.value) ∙ there))

pub returns : goal.returns
returns c =
    let found = c.in_ok-entry.ensures.lookup in
    let there = slice_get_read c.deref.result.now (length c.deref.result.now) c.args.place c.in_ok-entry.entry.now refl (ltb-true _ _ (sym found.0)) found.1 in
    let event = event_at c.self.inside.bytes.items c.self.inside.entries.items c.args.place c.in_ok-entry.entry.now (sym (ap (λ (es : List Entry). slice_get es c.args.place) c.deref.ensures.value) ∙ there) in
    ap (λ (e : Event). Some e) (c.looked_up.ensures ∙ ap (λ blocks. event_kept blocks c.in_ok-entry.entry.now) c.as_slice.ensures.value) ∙ sym event
    ∙ ap (λ (s : EventsState). slice_get s.events c.args.place) c.self.view_is
