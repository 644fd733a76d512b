use Rattle.std.proofs.Common.{◌≡◌, ◌++◌, [], ◌∷◌}
use Rattle.disk_memory.specs.declared.events.Entry.TheVariants.{Given}
use Rattle.disk_memory.proofs.kept_events.Entries.{room_plain}
use Rattle.disk_memory.proofs.log_rows.AddRows.{pushed}
use Rattle.disk_memory.proofs.events.Events.push_given.Goals as goal

pub invariant_of-self : goal.invariant_of-self
invariant_of-self c =
    let more : c.push.new.self.items ≡ c.self.inside.entries.items ++ Given c.args.event ∷ [] = pushed _ _ _ _ _ c.unwrap.ensures c.push.ensures.items in
    rw more (room_plain c.self.invariant (Given c.args.event) _ tt c.push.ensures.capacity)
