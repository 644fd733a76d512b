-- An event as it is looked up in a log.
use Rattle.disk_contract.specs.declared.event.Event.{Event}
use Rattle.disk_contract.specs.declared.event.Event.TheVariants as events
use Rattle.disk_memory.specs.declared.logged.Logged.{Logged}
use Rattle.disk_memory.specs.declared.logged.Logged.TheVariants.{Wrote, Lost, Noticed}

-- the event that is looked up so
abbrev pub event_of : Logged → Event
event_of (Wrote ticket block bytes) = events.Wrote ticket block bytes.now
event_of (Lost block bytes) = events.Lost block bytes.now
event_of (Noticed ticket) = events.Noticed ticket
