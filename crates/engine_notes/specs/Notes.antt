-- Tickets that are waited for, and which of them were noticed.
use Rattle.std.specs.Prelude.{ℕ, ◌==◌, ◌&&◌, nat_lt, not, Bool, true, false, if◌then◌else◌, List, [], ◌∷◌}
use Rattle.engine_notes.specs.declared.notes.Note.{Note}

-- a set of tickets, each with a mark: its notes, and for how many more there is room
pub record Expected : Type 0 where
  pub notes : List Note
  pub room : ℕ

-- what a note is of
abbrev pub ticket_of : Note → ℕ
ticket_of n = n.ticket

-- this ticket is among them
abbrev pub is_expected : ℕ → List Note → Bool
is_expected t [] = false
is_expected t (n ∷ ns) = if n.ticket == t then true else is_expected t ns

-- its notice came
abbrev pub is_noticed : ℕ → List Note → Bool
is_noticed t [] = false
is_noticed t (n ∷ ns) = if n.ticket == t then n.noticed else is_noticed t ns

-- all of these are among them
abbrev pub are_expected : List ℕ → List Note → Bool
are_expected [] ns = true
are_expected (t ∷ ts) ns = is_expected t ns && are_expected ts ns

-- the notices of all of these came
abbrev pub are_noticed : List ℕ → List Note → Bool
are_noticed [] ns = true
are_noticed (t ∷ ts) ns = is_noticed t ns && are_noticed ts ns

-- this ticket is expected, and its notice hasn't come
abbrev pub is_open : ℕ → List Note → Bool
is_open t ns = is_expected t ns && not (is_noticed t ns)

-- none of these is open
abbrev pub none_open : List ℕ → List Note → Bool
none_open [] ns = true
none_open (t ∷ ts) ns = not (is_open t ns) && none_open ts ns

-- this ticket is one of these
abbrev pub is_among : ℕ → List ℕ → Bool
is_among u [] = false
is_among u (t ∷ ts) = if t == u then true else is_among u ts

-- each ticket is above the one before, the first above s
abbrev pub are_above : ℕ → List Note → Bool
are_above s [] = true
are_above s (n ∷ ns) = nat_lt s n.ticket && are_above n.ticket ns

-- each ticket is above the one before
abbrev pub are_rising : List Note → Bool
are_rising [] = true
are_rising (n ∷ ns) = are_above n.ticket ns

-- with this ticket in its place, unmarked where it is new
abbrev pub with_ticket : ℕ → List Note → List Note
with_ticket t [] = record { ticket = t; noticed = false } ∷ []
with_ticket t (n ∷ ns) = if nat_lt n.ticket t then n ∷ with_ticket t ns else if n.ticket == t then n ∷ ns else record { ticket = t; noticed = false } ∷ n ∷ ns

-- without this ticket
abbrev pub without_ticket : ℕ → List Note → List Note
without_ticket t [] = []
without_ticket t (n ∷ ns) = if n.ticket == t then ns else n ∷ without_ticket t ns
