-- The rows of a mirror's writes: of which disks it has their notices, and which one it reports next.
use Rattle.std.specs.Prelude.{◌≡◌, ℕ, ◌+◌, ◌*◌, ◌<◌, ◌≤◌, ◌-◌, length, if◌then◌else◌, [], ◌∷◌, ◌++◌, ◌&&◌, ◌||◌, not, Bool, true, List, option_map, slice_set, get_or, Option, None, Some}
use Rattle.std.specs.List.{position}
use Rattle.disk_mirror.specs.declared.entry.Side.{Side}
use Rattle.disk_mirror.specs.declared.entry.Side.TheVariants.{First, Second}
use Rattle.disk_mirror.specs.declared.entry.Pair.{Pair}
use Rattle.disk_mirror.specs.declared.entry.Heard.{Heard}
use Rattle.disk_mirror.specs.declared.entry.Entry.{Entry}
use Rattle.disk_mirror.specs.declared.entry.Came.{Came}
use Rattle.disk_mirror.specs.declared.entry.Ripe.{Ripe}
use Rattle.disk_contract.specs.declared.event.Event.{Event}
use Rattle.disk_contract.specs.declared.event.Event.TheVariants.{Noticed}
use Rattle.disk_mirror.specs.Ripe.{IsTree}
use Rattle.disk_mirror.specs.Twin.{unheard, ticket_on}

abbrev pub set_heard : Side → Heard → Heard
set_heard First h = record h { first = true }
set_heard Second h = record h { second = true }

abbrev pub set_reported : Heard → Heard
set_reported h = record h { reported = true }

-- the notice of ticket i came from this disk
abbrev pub with_heard : Side → ℕ → List Heard → List Heard
with_heard side i heard = slice_set heard (i - 1) (set_heard side (get_or heard (i - 1) unheard))

-- ticket i was reported
abbrev pub with_report : ℕ → List Heard → List Heard
with_report i heard = slice_set heard (i - 1) (set_reported (get_or heard (i - 1) unheard))

-- the rows behind a report, where there was one
abbrev pub after_report : Option ℕ → List Heard → List Heard
after_report None heard = heard
after_report (Some i) heard = with_report i heard

-- whether a write is to be reported: it wasn't yet, and its notice came from each live disk
abbrev pub is_ready : Bool → Bool → Heard → Bool
is_ready first second h = not h.reported && ((not first || h.first) && (not second || h.second))

-- the least ticket that is to be reported
abbrev pub first_ready : Bool → Bool → List Heard → Option ℕ
first_ready first second heard = option_map (λ k. k + 1) (position (is_ready first second) heard)

-- how many of these writes were reported
abbrev pub reported_in : List Heard → ℕ
reported_in [] = 0
reported_in (h ∷ hs) = (if h.reported then 1 else 0) + reported_in hs

-- how many events there are, and how many more may come: two for each write that has room, and the notice of each that isn't reported
abbrev pub events_in_all : List Entry → List Pair → List Heard → ℕ → ℕ
events_in_all events pairs heard room = length events + (2 * (room - length pairs) + (length pairs - reported_in heard))

-- a poll of one disk: the notice that it brought, if any, is now in the row of its write, and no other row changed
pub record HearsPoll (side : Side) (pairs : List Pair) (old new : List Event) (rows later : List Heard) : Type 0 where
  pub none : new ≡ old → later ≡ rows
  pub one : (t : ℕ) → new ≡ old ++ Noticed t ∷ [] → (i : ℕ) × (ticket_on side pairs (Some i) ≡ Some t) × (later ≡ with_heard side i rows)

-- a poll of both disks, the first one first
abbrev pub HearsBoth : List Pair → List Event → List Event → List Event → List Event → List Heard → List Heard → Type 0
HearsBoth pairs a c b d rows later = (between : List Heard) × HearsPoll First pairs a c rows between × HearsPoll Second pairs b d between later

-- the rows fit one another, and each has room for what may come
pub record HasRoom (events : List Entry) (times : List Came) (pairs : List Pair) (heard : List Heard) (room most_events most_times most_pairs most_heard : ℕ) : Type 0 where
  pub rows : length heard ≡ length pairs
  pub timed : length times ≡ length events
  pub few : length pairs ≤ room
  pub short : room < 4294967296
  pub unreported : reported_in heard ≤ length pairs
  pub all : events_in_all events pairs heard room ≤ 8589934592
  pub events_fit : events_in_all events pairs heard room ≤ most_events
  pub times_fit : events_in_all events pairs heard room ≤ most_times
  pub pairs_fit : room ≤ most_pairs
  pub heard_fit : room ≤ most_heard

-- what an order keeps: its rows fit, and its tree is one over the rows of its notices
pub record IsKept (events : List Entry) (times : List Came) (pairs : List Pair) (heard : List Heard) (nodes : List Ripe) (size room most_events most_times most_pairs most_heard : ℕ) : Type 0 where
  pub fits : HasRoom events times pairs heard room most_events most_times most_pairs most_heard
  pub tree : IsTree nodes size heard room
