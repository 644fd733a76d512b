use Rattle.std.proofs.Common.{◌≡◌, ◌<◌, ◌-◌, ◌+◌, ◌++◌, [], ◌∷◌, rules, sym, ap, subst, arith, length}
use Rattle.disk_contract.specs.Lawful.{IsLawful}
use Rattle.disk_memory.specs.Log.{LogState}
use Rattle.disk_memory.proofs.log_rows.AddRows.{pushed}
use Rattle.disk_memory.proofs.log_rows.AddKept.{more_ready, room_for_wrote, kept_wrote}
use Rattle.disk_memory.proofs.log.Log.add_write.Goals as goal
use Rattle.disk_memory.proofs.log_rows.Events.{unnoticed_above}

pub unwrap-requires : goal.unwrap-requires
unwrap-requires c = c.push.ensures.succeeds (omega (arith, room_for_wrote c.self.invariant (more_ready c.self.invariant c.self.view_is c.requires), c.self.inside.tickets.ok))

pub unwrap-requires-2 : goal.unwrap-requires-2
unwrap-requires-2 c = c.push-2.ensures.succeeds (omega (arith, room_for_wrote c.self.invariant (more_ready c.self.invariant c.self.view_is c.requires), c.self.inside.places.ok))

pub join-requires : goal.join-requires
join-requires c = (room_for_wrote c.self.invariant (more_ready c.self.invariant c.self.view_is c.requires)).3

pub push_wrote-requires-clause-room : goal.push_wrote-requires-clause-room
push_wrote-requires-clause-room c = (room_for_wrote c.self.invariant (more_ready c.self.invariant c.self.view_is c.requires)).0

pub invariant_of-self : goal.invariant_of-self
invariant_of-self c =
    let some = subst (λ (s : LogState). 0 < s.ready) (sym c.self.view_is) c.requires in
    let ticket : c.len.result ≡ length c.self.inside.tickets.items = omega (arith, c.len.ensures, c.self.inside.tickets.ok) in
    let place : c.len-2.result ≡ length c.self.inside.events.events = c.len-2.ensures in
    let row : c.push.new.self.items ≡ c.self.inside.tickets.items ++ (c.len.result + 1) ∷ [] = pushed _ _ _ _ _ c.unwrap.ensures c.push.ensures.items in
    let places : c.push-2.new.self.items ≡ c.self.inside.places.items ++ c.len-2.result ∷ [] = pushed _ _ _ _ _ c.unwrap-2.ensures c.push-2.ensures.items in
    rw (row, places, place, c.join.ensures.state, c.push_wrote.ensures)
    (kept_wrote c.self.invariant (c.len.result + 1) c.args.block c.args.bytes.now (c.self.inside.events.ready - 1) _ _ (omega (arith, ticket, c.self.invariant.next some)) (λ any. omega (arith, ticket, ap length c.self.invariant.row_is)) (omega (arith, some, c.self.invariant.few)) c.push.ensures.capacity c.push-2.ensures.capacity (omega arith, omega arith, c.a_block_has_its_bytes.ensures))

pub returns-clause-unnoticed : goal.returns-clause-unnoticed
returns-clause-unnoticed c =
    let lawful = subst (λ (s : LogState). IsLawful s.events) c.self.view_is c.self.invariant.lawful in
    unnoticed_above c.args.self.now.events _ lawful (search rules)
