-- What one of a mirror's disks has of the mirror's log, while it is live.
use Rattle.std.specs.Prelude.{◌≡◌, ℕ, ◌≤◌, ◌<◌, nat_lt, Bool, true, false, is_some, List, ◌∷◌, length, map, get_or, Option, None, Some}
use Rattle.disk_contract.specs.declared.event.Event.{Event}
use Rattle.disk_contract.specs.Cell.{Write, accepted_from, greatest_ticket, is_noticed, IsWritten}
use Rattle.disk_contract.specs.Lawful.{writes_to}
use Rattle.disk_mirror.specs.Order.{lost_in}
use Rattle.disk_mirror.specs.declared.entry.Side.{Side}
use Rattle.disk_mirror.specs.declared.entry.Side.TheVariants.{First, Second}
use Rattle.disk_mirror.specs.declared.entry.Pair.{Pair}
use Rattle.disk_mirror.specs.declared.entry.Heard.{Heard}

-- a write's ticket on this disk
abbrev pub on : Side → Pair → Option ℕ
on First p = p.first
on Second p = p.second

-- whether its notice came from this disk
abbrev pub heard_on : Side → Heard → Bool
heard_on First h = h.first
heard_on Second h = h.second

abbrev pub no_pair : Pair
no_pair = record { first = None; second = None }

abbrev pub unheard : Heard
unheard = record { first = false; second = false; reported = false }

-- the row of a ticket of the mirror, which are counted from 1
abbrev pub pair_of : List Pair → ℕ → Pair
pair_of pairs i = get_or (no_pair ∷ pairs) i no_pair

abbrev pub heard_of : List Heard → ℕ → Heard
heard_of heard i = get_or (unheard ∷ heard) i unheard

-- the ticket on this disk of the write that has the mirror's ticket
abbrev pub ticket_on : Side → List Pair → Option ℕ → Option ℕ
ticket_on side pairs None = None
ticket_on side pairs (Some i) = on side (pair_of pairs i)

-- the same write on this disk
abbrev pub twin : Side → List Pair → Write → Write
twin side pairs w = record { ticket = ticket_on side pairs w.ticket; bytes = w.bytes }

-- whether a write is among these tickets; one that was lost has none
abbrev pub has : (ℕ → Bool) → Option ℕ → Bool
has among None = false
has among (Some t) = among t

-- whether the write with this ticket was noticed
abbrev pub is_over : List Event → Option ℕ → Bool
is_over log ticket = has (λ t. is_noticed t log) ticket

-- whether the first ticket is there and is the lesser one
abbrev pub is_less : Option ℕ → Option ℕ → Bool
is_less None u = false
is_less (Some t) None = false
is_less (Some t) (Some u) = nat_lt t u

-- the tickets of the rows ascend on this disk
abbrev pub AreAscending : Side → List Pair → Type 0
AreAscending side pairs = (i j : ℕ) → i < j → j < length pairs → is_less (on side (get_or pairs i no_pair)) (on side (get_or pairs j no_pair)) ≡ true

-- A live disk of a mirror: it has the mirror's writes to each block, in their order and each with its own ticket, which ascend; it has lost none, and has noticed each write of which the mirror has its notice, or which the mirror reported.
pub record IsTwin (side : Side) (pairs : List Pair) (rows : List Heard) (log events : List Event) : Type 0 where
  pub writes : (b : ℕ) → writes_to b events ≡ map (twin side pairs) (writes_to b log)
  pub accepted : (b : ℕ) (x : List ℕ) → accepted_from b x events ≡ accepted_from b x log
  pub lossless : lost_in events ≡ None
  pub written : (x : List ℕ) → IsWritten x log → IsWritten x events
  pub ascend : AreAscending side pairs
  pub low : (i t : ℕ) → ticket_on side pairs (Some i) ≡ Some t → t ≤ greatest_ticket events
  pub given : (i : ℕ) → 0 < i → i ≤ length pairs → is_some (ticket_on side pairs (Some i)) ≡ true
  pub heard : (i : ℕ) → heard_on side (heard_of rows i) ≡ true → is_over events (ticket_on side pairs (Some i)) ≡ true
  pub noticed : (i : ℕ) → is_noticed i log ≡ true → is_over events (ticket_on side pairs (Some i)) ≡ true
