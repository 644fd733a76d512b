-- Which crash images a choice can make: those whose torn blocks have the first bytes of a pending write, and then the settled content.
use Rattle.std.specs.Prelude.{◌≡◌, ◌⊎◌, ℕ, ◌<◌, ◌≤◌, ◌==◌, List, [], ◌∷◌, ◌++◌, map, take, drop, Option, Some, None}
use Rattle.std.specs.List.{filter}
use Rattle.base_types.specs.Seal.{Blocks}
use Rattle.disk_contract.specs.declared.event.Event.{Event}
use Rattle.disk_contract.specs.Cell.{Write, cell_of}
use Rattle.disk_contract.specs.Crash.{IsImage, IsTorn}
use Rattle.disk_memory.specs.declared.choice.WriteName.{WriteName}
use Rattle.disk_memory.specs.declared.choice.WriteName.TheVariants as names
use Rattle.disk_memory.specs.Choice.{NamedWrite, pending_writes}

-- a write without its name and block, as it is pending on its block
abbrev pub ticket_of : WriteName → Option ℕ
ticket_of (names.Accepted ticket) = Some ticket
ticket_of (names.Lost number) = None

abbrev pub as_write : NamedWrite → Write
as_write w = record { ticket = ticket_of w.name; bytes = w.bytes }

-- the pending writes to a block
abbrev pub pending_on : ℕ → List Event → List Write
pending_on b log = map as_write (filter (λ w. w.block == b) (pending_writes log))

-- the first bytes of one of these writes, and then those that are settled
abbrev pub AreFirstBytes : List ℕ → List Write → List ℕ → Type 0
AreFirstBytes settled [] x = ⊥
AreFirstBytes settled (w ∷ ws) x = ((n : ℕ) × (n ≤ 1024) × (x ≡ take n w.bytes ++ drop n settled)) ⊎ AreFirstBytes settled ws x

-- a crash image each of whose torn blocks is torn so
pub record IsTornInFront (n : ℕ) (base : Blocks) (log : List Event) (img : Blocks) : Type 0 where
  pub leaves : IsImage n base log img
  pub torn : (b : ℕ) → b < n → IsTorn (cell_of base log b) (img b) → AreFirstBytes (cell_of base log b).settled (cell_of base log b).pending (img b)
