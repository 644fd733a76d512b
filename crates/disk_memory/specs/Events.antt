-- What is kept of the events of a disk in memory, and which events these are.
use Rattle.std.specs.Prelude.{ℕ, ◌+◌, ◌<◌, ◌≤◌, List, [], ◌∷◌, map, get_or}
use Rattle.disk_contract.specs.declared.event.Event.{Event}
use Rattle.disk_contract.specs.declared.event.Event.TheVariants as events
use Rattle.disk_memory.specs.declared.events.Entry.{Entry}
use Rattle.disk_memory.specs.declared.events.Entry.TheVariants.{Given, Wrote, Lost, Noticed}

-- the events, for how many writes more there is room for the bytes, and how many events there is room for
pub record EventsState : Type 0 where
  pub events : List Event
  pub ready : ℕ
  pub most : ℕ

-- the event of an entry, where these are the bytes of the disk's own writes
abbrev pub event_kept : List (List ℕ) → Entry → Event
event_kept blocks (Given event) = event
event_kept blocks (Wrote ticket block at) = events.Wrote ticket block (get_or blocks at [])
event_kept blocks (Lost block at) = events.Lost block (get_or blocks at [])
event_kept blocks (Noticed ticket) = events.Noticed ticket

-- those of all entries
abbrev pub events_kept : List (List ℕ) → List Entry → List Event
events_kept blocks entries = map (event_kept blocks) entries

-- the bytes of an entry are among the first n
abbrev pub IsHeld : ℕ → Entry → Type 0
IsHeld n (Given event) = Unit {0}
IsHeld n (Wrote ticket block at) = at < n
IsHeld n (Lost block at) = at < n
IsHeld n (Noticed ticket) = Unit {0}

-- those of all entries
abbrev pub AreHeld : ℕ → List Entry → Type 0
AreHeld n [] = Unit {0}
AreHeld n (entry ∷ entries) = IsHeld n entry × AreHeld n entries

-- the bytes of all entries are there, and there is room for what may come
pub record HasRoom (entries : List Entry) (written ready most most_blocks most_entries : ℕ) : Type 0 where
  pub held : AreHeld written entries
  pub bytes_fit : written + ready ≤ most_blocks
  pub events_fit : most ≤ most_entries
