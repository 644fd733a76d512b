-- The ring of the journal: which of its places are taken. It is described in docs/JOURNAL.md.
use Rattle.std.specs.Prelude.{◌≡◌, ℕ, ◌+◌, ◌-◌, ◌%◌, ◌<◌}
use Rattle.layout_geometry.specs.Geometry.{Geometry}

-- the place at which the next record will begin, and how many places before it are taken
pub record RingPlaces : Type 0 where
  pub geom : Geometry
  pub next : ℕ
  pub taken : ℕ

-- the ring with so many places taken more
abbrev pub with_places : RingPlaces → ℕ → RingPlaces
with_places r places = record r { next = (r.next + places) % r.geom.j; taken = r.taken + places }

-- and with the oldest of them given back
abbrev pub without_places : RingPlaces → ℕ → RingPlaces
without_places r places = record r { taken = r.taken - places }

-- so many places behind the next one, around the ring
abbrev pub place_ahead : RingPlaces → ℕ → ℕ
place_ahead r k = (r.next + k) % r.geom.j

-- the place is taken: the next one is less than so many places behind the one after it
abbrev pub IsTaken : RingPlaces → ℕ → Type 0
IsTaken r q = (i : ℕ) × (i < r.taken) × ((q + 1 + i) % r.geom.j ≡ r.next)
