use Rattle.std.proofs.Common.{◌≡◌, ◌<◌, ◌-◌, ◌++◌, [], ◌∷◌, sym, subst, arith, length}
use Rattle.disk_memory.specs.Log.{LogState}
use Rattle.disk_memory.proofs.log_rows.AddRows.{pushed}
use Rattle.disk_memory.proofs.log_rows.AddKept.{more_ready, room_for_lost, kept_lost}
use Rattle.disk_memory.proofs.log.Log.add_lost.Goals as goal

pub unwrap-requires : goal.unwrap-requires
unwrap-requires c = c.push.ensures.succeeds (omega (arith, room_for_lost c.self.invariant (more_ready c.self.invariant c.self.view_is c.requires), c.self.inside.lost.ok))

pub push_lost-requires-clause-room : goal.push_lost-requires-clause-room
push_lost-requires-clause-room c = (room_for_lost c.self.invariant (more_ready c.self.invariant c.self.view_is c.requires)).0

pub invariant_of-self : goal.invariant_of-self
invariant_of-self c =
    let some = subst (λ (s : LogState). 0 < s.ready) (sym c.self.view_is) c.requires in
    let place : c.len.result ≡ length c.self.inside.events.events = c.len.ensures in
    let lost : c.push.new.self.items ≡ c.self.inside.lost.items ++ c.len.result ∷ [] = pushed _ _ _ _ _ c.unwrap.ensures c.push.ensures.items in
    rw (lost, place, c.push_lost.ensures)
    (kept_lost c.self.invariant c.args.block c.args.bytes.now (c.self.inside.events.ready - 1) _ (omega arith) (omega (arith, some, c.self.invariant.few)) c.push.ensures.capacity (omega arith, c.a_block_has_its_bytes.ensures))
