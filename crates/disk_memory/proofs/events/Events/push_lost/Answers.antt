use Rattle.std.proofs.Common.{◌≡◌, ◌<◌, ◌-◌, ◌++◌, ◌∙◌, List, [], ◌∷◌, length, refl, sym, ap, subst, arith, length-append}
use Rattle.disk_contract.specs.declared.event.Event.{Event}
use Rattle.disk_contract.specs.declared.event.Event.TheVariants as events
use Rattle.disk_memory.specs.declared.events.Entry.TheVariants.{Lost}
use Rattle.disk_memory.specs.Events.{EventsState}
use Rattle.disk_memory.proofs.kept_events.Entries.{room_bytes, one_last}
use Rattle.disk_memory.proofs.log_rows.AddRows.{pushed}
use Rattle.disk_memory.proofs.events.Events.push_lost.Goals as goal

pub invariant_of-self : goal.invariant_of-self
invariant_of-self c =
    let some = subst (λ (s : EventsState). 0 < s.ready) (sym c.self.view_is) c.requires.ready in
    let bytes : c.push.new.self.items ≡ c.self.inside.bytes.items ++ c.args.bytes.now ∷ [] = pushed _ _ _ _ _ c.unwrap.ensures c.push.ensures.items in
    let more : c.push-2.new.self.items ≡ c.self.inside.entries.items ++ Lost c.args.block c.len-at.result ∷ [] = pushed _ _ _ _ _ c.unwrap-2.ensures c.push-2.ensures.items in
    let long = ap length bytes ∙ length-append c.self.inside.bytes.items (c.args.bytes.now ∷ []) in
    rw more (room_bytes c.self.invariant (Lost c.args.block c.len-at.result) (length c.push.new.self.items) _ _ long some (omega (arith, long, c.len-at.ensures, c.self.inside.bytes.ok)) c.push.ensures.capacity c.push-2.ensures.capacity)

pub returns : goal.returns
returns c =
    let bytes : c.push.new.self.items ≡ c.self.inside.bytes.items ++ c.args.bytes.now ∷ [] = pushed _ _ _ _ _ c.unwrap.ensures c.push.ensures.items in
    let more : c.push-2.new.self.items ≡ c.self.inside.entries.items ++ Lost c.args.block c.len-at.result ∷ [] = pushed _ _ _ _ _ c.unwrap-2.ensures c.push-2.ensures.items in
    let new = one_last _ _ _ _ (λ k. Lost c.args.block k) c.len-at.result c.args.bytes.now (λ xs k. refl) bytes more (omega (arith, c.len-at.ensures, c.self.inside.bytes.ok)) c.self.invariant.held in
    ap (λ (es : List Event). record { events = es; ready = c.self.inside.ready - 1; most = c.self.inside.most }) new
    ∙ ap (λ (s : EventsState). record s { events = s.events ++ events.Lost c.args.block c.args.bytes.now ∷ []; ready = s.ready - 1 }) c.self.view_is
