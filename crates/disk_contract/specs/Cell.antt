-- What a disk holds of each block after a list of events: its settled content, and the writes that are
-- pending on it. The rules are described in docs/DISK.md; what a crash makes of it is in Crash.
use Rattle.std.specs.Prelude.{◌≡◌, ◌≢◌, ◌⊎◌, ℕ, max, ◌==◌, ◌||◌, Bool, true, false, IsTrue, if◌then◌else◌, List, [], ◌∷◌, ◌++◌, Option, None, Some}
use Rattle.base_types.specs.Seal.{Blocks}
use Rattle.disk_contract.specs.declared.event.Event.{Event}
use Rattle.disk_contract.specs.declared.event.Event.TheVariants.{Wrote, Lost, Noticed}

-- a write to some block: its ticket, none where the disk lost it, and its bytes
pub record Write : Type 0 where
  pub ticket : Option ℕ
  pub bytes : List ℕ

-- one block: its settled content, and its pending writes, the oldest first
pub record Cell : Type 0 where
  pub settled : List ℕ
  pub pending : List Write

-- whether a write has this ticket
abbrev pub is_ticket : ℕ → Option ℕ → Bool
is_ticket t None = false
is_ticket t (Some u) = u == t

-- the pending writes from the one with this ticket on, or none where it isn't there
abbrev pub from_ticket : ℕ → List Write → List Write
from_ticket t [] = []
from_ticket t (w ∷ ws) = if is_ticket t w.ticket then w ∷ ws else from_ticket t ws

-- the first of these writes is settled and the others stay pending; where there is none, nothing changes
abbrev pub settle : Cell → List Write → Cell
settle c [] = c
settle c (w ∷ ws) = record { settled = w.bytes; pending = ws }

-- one more pending write, the newest
abbrev pub with_write : Cell → Option ℕ → List ℕ → Cell
with_write c ticket bytes = record { settled = c.settled; pending = c.pending ++ record { ticket = ticket; bytes = bytes } ∷ [] }

-- block b after one event: a write, lost or not, is pending; the notice of a pending write settles it, and the writes before it are over
abbrev pub after : ℕ → Cell → Event → Cell
after b c (Wrote ticket block bytes) = if block == b then with_write c (Some ticket) bytes else c
after b c (Lost block bytes) = if block == b then with_write c None bytes else c
after b c (Noticed ticket) = settle c (from_ticket ticket c.pending)

-- block b after these events, in their order
abbrev pub after_all : ℕ → Cell → List Event → Cell
after_all b c [] = c
after_all b c (e ∷ es) = after_all b (after b c e) es

-- block b of a disk that began with the blocks `base`, settled all, after the events of the log
abbrev pub cell_of : Blocks → List Event → ℕ → Cell
cell_of base log b = after_all b (record { settled = base b; pending = [] }) log

-- nothing is pending on two blocks, and the second one hasn't these bytes yet
pub record IsReadyFor (base : Blocks) (log : List Event) (a b : ℕ) (second : List ℕ) : Type 0 where
  pub idle_a : (cell_of base log a).pending ≡ []
  pub idle_b : (cell_of base log b).pending ≡ []
  pub differs : (cell_of base log b).settled ≢ second

-- the bytes of the last accepted write to the block among these events, or else these bytes
abbrev pub accepted_from : ℕ → List ℕ → List Event → List ℕ
accepted_from b x [] = x
accepted_from b x (Wrote ticket block bytes ∷ es) = accepted_from b (if block == b then bytes else x) es
accepted_from b x (Lost block bytes ∷ es) = accepted_from b x es
accepted_from b x (Noticed ticket ∷ es) = accepted_from b x es

-- the last accepted bytes of a block: those of its last accepted write, or else of the base
abbrev pub accepted : Blocks → List Event → ℕ → List ℕ
accepted base log b = accepted_from b (base b) log

-- whether these events leave a write to the block lost after the last accepted one, where `lost` says it of the events before
abbrev pub is_lost_from : ℕ → Bool → List Event → Bool
is_lost_from b lost [] = lost
is_lost_from b lost (Wrote ticket block bytes ∷ es) = is_lost_from b (if block == b then false else lost) es
is_lost_from b lost (Lost block bytes ∷ es) = is_lost_from b (if block == b then true else lost) es
is_lost_from b lost (Noticed ticket ∷ es) = is_lost_from b lost es

-- whether a write to the block was lost after its last accepted one
abbrev pub is_lost : ℕ → List Event → Bool
is_lost b log = is_lost_from b false log

-- whether a write was lost
abbrev pub has_lost : List Event → Bool
has_lost [] = false
has_lost (Wrote ticket block bytes ∷ es) = has_lost es
has_lost (Lost block bytes ∷ es) = true
has_lost (Noticed ticket ∷ es) = has_lost es

-- the bytes of the writes to the block that were lost since its last accepted one, behind those of the events before
abbrev pub lost_from : ℕ → List (List ℕ) → List Event → List (List ℕ)
lost_from b xs [] = xs
lost_from b xs (Wrote ticket block bytes ∷ es) = lost_from b (if block == b then [] else xs) es
lost_from b xs (Lost block bytes ∷ es) = lost_from b (if block == b then xs ++ bytes ∷ [] else xs) es
lost_from b xs (Noticed ticket ∷ es) = lost_from b xs es

-- these bytes are among those of the list
abbrev pub IsOneOf : List (List ℕ) → List ℕ → Type 0
IsOneOf [] x = ⊥
IsOneOf (y ∷ ys) x = (x ≡ y) ⊎ IsOneOf ys x

-- the greatest ticket of an accepted write, or 0
abbrev pub greatest_ticket : List Event → ℕ
greatest_ticket [] = 0
greatest_ticket (Wrote ticket block bytes ∷ es) = max ticket (greatest_ticket es)
greatest_ticket (Lost block bytes ∷ es) = greatest_ticket es
greatest_ticket (Noticed ticket ∷ es) = greatest_ticket es

-- whether a write with this ticket was accepted
abbrev pub is_accepted : ℕ → List Event → Bool
is_accepted t [] = false
is_accepted t (Wrote ticket block bytes ∷ es) = (ticket == t) || is_accepted t es
is_accepted t (Lost block bytes ∷ es) = is_accepted t es
is_accepted t (Noticed ticket ∷ es) = is_accepted t es

-- whether the durability notification of this ticket came
abbrev pub is_noticed : ℕ → List Event → Bool
is_noticed t [] = false
is_noticed t (Wrote ticket block bytes ∷ es) = is_noticed t es
is_noticed t (Lost block bytes ∷ es) = is_noticed t es
is_noticed t (Noticed ticket ∷ es) = (ticket == t) || is_noticed t es

-- a write with this ticket was accepted
abbrev pub IsAccepted : ℕ → List Event → Type 0
IsAccepted t log = IsTrue (is_accepted t log)

-- the durability notification of this ticket came
abbrev pub IsNoticed : ℕ → List Event → Type 0
IsNoticed t log = IsTrue (is_noticed t log)

-- these bytes were written to some block, in a write that was accepted or lost
abbrev pub IsWritten : List ℕ → List Event → Type 0
IsWritten x [] = ⊥
IsWritten x (Wrote ticket block bytes ∷ es) = (bytes ≡ x) ⊎ IsWritten x es
IsWritten x (Lost block bytes ∷ es) = (bytes ≡ x) ⊎ IsWritten x es
IsWritten x (Noticed ticket ∷ es) = IsWritten x es

-- one durability notification for each of these tickets, in their order
abbrev pub notices : List ℕ → List Event
notices [] = []
notices (t ∷ ts) = Noticed t ∷ notices ts
