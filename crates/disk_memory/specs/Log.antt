-- What the log of a disk in memory is as a list of events, and what its rows keep of that list.
use Rattle.std.specs.Prelude.{◌≡◌, ℕ, ◌+◌, ◌*◌, ◌^◌, ◌≤◌, ◌<◌, Bool, not, if◌then◌else◌, List, [], ◌∷◌, length}
use Rattle.std.specs.List.{filter}
use Rattle.disk_contract.specs.declared.event.Event.{Event}
use Rattle.disk_contract.specs.declared.event.Event.TheVariants.{Wrote, Lost, Noticed}
use Rattle.disk_contract.specs.Cell.{greatest_ticket, is_noticed}
use Rattle.disk_contract.specs.Lawful.{IsLawful, AreEventsOf}
use Rattle.disk_memory.specs.Ranks.{RanksState}

-- a log: its events, how many writes it has room for, accepted and lost, and for how many of them the room for their bytes is still free
pub record LogState : Type 0 where
  pub events : List Event
  pub room : ℕ
  pub ready : ℕ

-- the tickets of the accepted writes, in the order of the log
abbrev pub tickets : List Event → List ℕ
tickets [] = []
tickets (Wrote ticket block bytes ∷ es) = ticket ∷ tickets es
tickets (Lost block bytes ∷ es) = tickets es
tickets (Noticed ticket ∷ es) = tickets es

-- the tickets of accepted writes that have no notice yet, in the order of the log
abbrev pub open_tickets : List Event → List ℕ
open_tickets log = filter (λ t. not (is_noticed t log)) (tickets log)

-- how many writes there were, accepted and lost
abbrev pub write_count : List Event → ℕ
write_count [] = 0
write_count (Wrote ticket block bytes ∷ es) = write_count es + 1
write_count (Lost block bytes ∷ es) = write_count es + 1
write_count (Noticed ticket ∷ es) = write_count es

-- how many more writes an event is: one, or none where it is a notice
abbrev pub writes_in : Event → ℕ
writes_in (Wrote ticket block bytes) = 1
writes_in (Lost block bytes) = 1
writes_in (Noticed ticket) = 0

-- the places of the accepted writes among these events, which begin at place p
abbrev pub accepted_places : ℕ → List Event → List ℕ
accepted_places p [] = []
accepted_places p (Wrote ticket block bytes ∷ es) = p ∷ accepted_places (p + 1) es
accepted_places p (Lost block bytes ∷ es) = accepted_places (p + 1) es
accepted_places p (Noticed ticket ∷ es) = accepted_places (p + 1) es

-- the places of the lost writes among these events, which begin at place p
abbrev pub lost_places : ℕ → List Event → List ℕ
lost_places p [] = []
lost_places p (Wrote ticket block bytes ∷ es) = lost_places (p + 1) es
lost_places p (Lost block bytes ∷ es) = p ∷ lost_places (p + 1) es
lost_places p (Noticed ticket ∷ es) = lost_places (p + 1) es

-- the numbers, counted from n, of those that pass the test
abbrev pub numbers_of : (ℕ → Bool) → ℕ → List ℕ → List ℕ
numbers_of test n [] = []
numbers_of test n (t ∷ ts) = if test t then n ∷ numbers_of test (n + 1) ts else numbers_of test (n + 1) ts

-- each write among these events is to one of n blocks
abbrev pub AreWithin : ℕ → List Event → Type 0
AreWithin n [] = Unit {0}
AreWithin n (Wrote ticket block bytes ∷ es) = block < n × AreWithin n es
AreWithin n (Lost block bytes ∷ es) = block < n × AreWithin n es
AreWithin n (Noticed ticket ∷ es) = AreWithin n es

-- each event is one of some disk, the rows fit one another and the events, and each has room for what may come
pub record IsKeptLog (events : List Event) (row places lost : List ℕ) (ranks : RanksState) (room ready most_events most_tickets most_places most_lost : ℕ) : Type 0 where
  pub lawful : IsLawful events
  pub whole : AreEventsOf (2 ^ 32) events
  pub next : 0 < ready → greatest_ticket events ≡ length row
  pub few : write_count events + ready ≤ room
  pub short : room < 4294967296
  pub row_is : row ≡ tickets events
  pub places_are : places ≡ accepted_places 0 events
  pub lost_are : lost ≡ lost_places 0 events
  pub open_are : ranks.members ≡ numbers_of (λ t. not (is_noticed t events)) 1 (tickets events)
  pub joined : ranks.joined ≡ length row
  pub open_fit : room ≤ ranks.most
  pub count : length events + length ranks.members ≤ 2 * write_count events
  pub events_fit : 2 * room ≤ most_events
  pub tickets_fit : room ≤ most_tickets
  pub places_fit : room ≤ most_places
  pub lost_fit : room ≤ most_lost
