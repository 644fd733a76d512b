use Rattle.std.proofs.Common.{◌≡◌, ◌≤◌, ◌+◌, ◌++◌, [], ◌∷◌, sym, subst, arith, length}
use Rattle.disk_memory.specs.Log.{LogState}
use Rattle.disk_memory.proofs.log_rows.AddRows.{pushed}
use Rattle.disk_memory.proofs.log_rows.AddKept.{more_room, room_for_lost, kept_lost}
use Rattle.disk_memory.proofs.log.Log.take_lost.Goals as goal

pub unwrap-requires : goal.unwrap-requires
unwrap-requires c = c.push.ensures.succeeds (omega (arith, room_for_lost c.self.invariant (more_room c.self.invariant c.self.view_is c.requires.room), c.self.inside.lost.ok))

pub push_given-requires : goal.push_given-requires
push_given-requires c = (room_for_lost c.self.invariant (more_room c.self.invariant c.self.view_is c.requires.room)).0

pub invariant_of-self : goal.invariant_of-self
invariant_of-self c =
    let none : c.self.inside.events.ready ≡ 0 = subst (λ (s : LogState). s.ready ≡ 0) (sym c.self.view_is) c.requires.ready in
    let place : c.len.result ≡ length c.self.inside.events.events = c.len.ensures in
    let lost : c.push.new.self.items ≡ c.self.inside.lost.items ++ c.len.result ∷ [] = pushed _ _ _ _ _ c.unwrap.ensures c.push.ensures.items in
    rw (lost, place, c.push_given.ensures)
    (kept_lost c.self.invariant c.args.block c.args.bytes c.self.inside.events.ready _ (omega arith) (omega (arith, more_room c.self.invariant c.self.view_is c.requires.room, none)) c.push.ensures.capacity (omega arith, c.lawful.ensures))
