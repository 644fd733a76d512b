use Rattle.std.proofs.Common.{◌≡◌, ◌<◌, ◌≤◌, ◌+◌, ◌++◌, [], ◌∷◌, sym, subst, arith, length}
use Rattle.disk_contract.specs.Cell.{greatest_ticket}
use Rattle.disk_memory.specs.Log.{LogState}
use Rattle.disk_memory.proofs.log_rows.AddRows.{pushed}
use Rattle.disk_memory.proofs.log_rows.AddKept.{more_room, room_for_wrote, kept_wrote}
use Rattle.disk_memory.proofs.log.Log.take_wrote.Goals as goal

pub unwrap-requires : goal.unwrap-requires
unwrap-requires c = c.push.ensures.succeeds (omega (arith, room_for_wrote c.self.invariant (more_room c.self.invariant c.self.view_is c.requires.room), c.self.inside.tickets.ok))

pub unwrap-requires-2 : goal.unwrap-requires-2
unwrap-requires-2 c = c.push-2.ensures.succeeds (omega (arith, room_for_wrote c.self.invariant (more_room c.self.invariant c.self.view_is c.requires.room), c.self.inside.places.ok))

pub join-requires : goal.join-requires
join-requires c = (room_for_wrote c.self.invariant (more_room c.self.invariant c.self.view_is c.requires.room)).3

pub push_given-requires : goal.push_given-requires
push_given-requires c = (room_for_wrote c.self.invariant (more_room c.self.invariant c.self.view_is c.requires.room)).0

pub invariant_of-self : goal.invariant_of-self
invariant_of-self c =
    let above = subst (λ (s : LogState). greatest_ticket s.events < c.args.ticket) (sym c.self.view_is) c.requires.above in
    let none : c.self.inside.events.ready ≡ 0 = subst (λ (s : LogState). s.ready ≡ 0) (sym c.self.view_is) c.requires.ready in
    let place : c.len.result ≡ length c.self.inside.events.events = c.len.ensures in
    let row : c.push.new.self.items ≡ c.self.inside.tickets.items ++ c.args.ticket ∷ [] = pushed _ _ _ _ _ c.unwrap.ensures c.push.ensures.items in
    let places : c.push-2.new.self.items ≡ c.self.inside.places.items ++ c.len.result ∷ [] = pushed _ _ _ _ _ c.unwrap-2.ensures c.push-2.ensures.items in
    rw (row, places, place, c.join.ensures.state, c.push_given.ensures)
    (kept_wrote c.self.invariant c.args.ticket c.args.block c.args.bytes c.self.inside.events.ready _ _ above (λ some. absurd (omega (arith, some, none))) (omega (arith, more_room c.self.invariant c.self.view_is c.requires.room, none)) c.push.ensures.capacity c.push-2.ensures.capacity (omega arith, omega arith, c.lawful.ensures))
