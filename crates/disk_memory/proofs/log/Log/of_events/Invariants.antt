use Rattle.std.proofs.Common.{◌≡◌, ◌++◌}
use Rattle.disk_memory.specs.Log.{write_count}
use Rattle.disk_memory.proofs.log.Log.of_events.Given as goal

-- the log has the events that came, and these with those to come are all
abbrev pub invariant-loop-event : goal.invariant-loop-event
invariant-loop-event l = (l.log ≡ record { events = l.yielded; room = write_count l.fn.events.items; ready = 0 }) × (l.yielded ++ l.event-iterator.rest.items ≡ l.fn.events.items)
