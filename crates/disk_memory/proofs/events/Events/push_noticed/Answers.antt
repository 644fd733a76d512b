use Rattle.std.proofs.Common.{◌≡◌, ◌++◌, [], ◌∷◌}
use Rattle.disk_memory.specs.declared.events.Entry.TheVariants.{Noticed}
use Rattle.disk_memory.proofs.kept_events.Entries.{room_plain}
use Rattle.disk_memory.proofs.log_rows.AddRows.{pushed}
use Rattle.disk_memory.proofs.events.Events.push_noticed.Goals as goal

pub invariant_of-self : goal.invariant_of-self
invariant_of-self c =
    let more : c.push.new.self.items ≡ c.self.inside.entries.items ++ Noticed c.args.ticket ∷ [] = pushed _ _ _ _ _ c.unwrap.ensures c.push.ensures.items in
    rw more (room_plain c.self.invariant (Noticed c.args.ticket) _ tt c.push.ensures.capacity)
