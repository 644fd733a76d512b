-- The log of a mirror, which follows from the order of its events and from the logs of the two disks.
use Rattle.std.specs.Prelude.{ℕ, ◌+◌, ◌==◌, Bool, true, false, if◌then◌else◌, is_some, List, [], ◌∷◌, map, Option, None, Some}
use Rattle.std.specs.List.{list_all}
use Rattle.disk_contract.specs.declared.event.Event.{Event}
use Rattle.disk_contract.specs.declared.event.Event.TheVariants.{Wrote, Lost, Noticed}
use Rattle.disk_mirror.specs.declared.entry.Entry.{Entry}
use Rattle.disk_mirror.specs.declared.entry.Entry.TheVariants.{Accepted, Failed, Reported}
use Rattle.disk_mirror.specs.declared.entry.Side.{Side}
use Rattle.disk_mirror.specs.declared.entry.Side.TheVariants.{First, Second}
use Rattle.disk_mirror.specs.declared.entry.Pair.{Pair}
use Rattle.disk_mirror.specs.declared.entry.Heard.{Heard}
use Rattle.disk_mirror.specs.declared.entry.Came.{Came}

-- what a mirror keeps of its events: their order, how many events the two disks had when each had come, of each accepted write its tickets and the notices that came of it, and for how many writes there is room
pub record OrderState : Type 0 where
  pub events : List Entry
  pub times : List Came
  pub pairs : List Pair
  pub heard : List Heard
  pub room : ℕ

-- a write: which block, and which bytes
pub record Put : Type 0 where
  pub block : ℕ
  pub bytes : List ℕ

-- the accepted write with this ticket
abbrev pub put_with : ℕ → List Event → Option Put
put_with t [] = None
put_with t (Wrote ticket block bytes ∷ es) = if ticket == t then Some (record { block = block; bytes = bytes }) else put_with t es
put_with t (Lost block bytes ∷ es) = put_with t es
put_with t (Noticed ticket ∷ es) = put_with t es

-- the first lost write
abbrev pub lost_in : List Event → Option Put
lost_in [] = None
lost_in (Wrote ticket block bytes ∷ es) = lost_in es
lost_in (Lost block bytes ∷ es) = Some (record { block = block; bytes = bytes })
lost_in (Noticed ticket ∷ es) = lost_in es

-- the lost write of one of two disks
abbrev pub lost_on : Side → List Event → List Event → Option Put
lost_on First a b = lost_in a
lost_on Second a b = lost_in b

-- the write with these tickets on the two disks, told by the first one that accepted it
abbrev pub put_at : Option ℕ → Option ℕ → List Event → List Event → Option Put
put_at (Some t) second a b = put_with t a
put_at None (Some t) a b = put_with t b
put_at None None a b = None

-- what an event of a mirror wrote, by the logs of the two disks
abbrev pub put_of : List Event → List Event → Entry → Option Put
put_of a b (Accepted ticket first second) = put_at first second a b
put_of a b (Failed side) = lost_on side a b
put_of a b (Reported ticket) = None

abbrev pub block_of : Option Put → ℕ
block_of None = 0
block_of (Some p) = p.block

abbrev pub bytes_of : Option Put → List ℕ
bytes_of None = []
bytes_of (Some p) = p.bytes

abbrev pub event_with : Option Put → Entry → Event
event_with p (Accepted ticket first second) = Wrote ticket (block_of p) (bytes_of p)
event_with p (Failed side) = Lost (block_of p) (bytes_of p)
event_with p (Reported ticket) = Noticed ticket

-- one event of a mirror over disks with these logs
abbrev pub event_of : List Event → List Event → Entry → Event
event_of a b e = event_with (put_of a b e) e

-- the log of a mirror over disks with these logs
abbrev pub log_of : List Event → List Event → List Entry → List Event
log_of a b order = map (event_of a b) order

-- whether a write failed on the last live disk
abbrev pub has_failed : List Entry → Bool
has_failed [] = false
has_failed (Accepted ticket first second ∷ es) = has_failed es
has_failed (Failed side ∷ es) = true
has_failed (Reported ticket ∷ es) = has_failed es

-- how many of these events are writes, accepted or lost
abbrev pub writes_made : List Entry → ℕ
writes_made [] = 0
writes_made (Accepted ticket first second ∷ es) = 1 + writes_made es
writes_made (Failed side ∷ es) = 1 + writes_made es
writes_made (Reported ticket ∷ es) = writes_made es

-- whether the logs tell what this event wrote, and go on telling it as they grow
abbrev pub is_found : List Event → List Event → Entry → Bool
is_found a b (Accepted ticket first second) = is_some (put_at first second a b)
is_found a b (Failed side) = false
is_found a b (Reported ticket) = true

abbrev pub are_found : List Event → List Event → List Entry → Bool
are_found a b order = list_all (is_found a b) order
