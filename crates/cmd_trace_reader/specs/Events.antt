-- Which event of a trace may come, and what is kept of those that came.
use Rattle.std.specs.Prelude.{◌≡◌, ◌++◌, ℕ, Bool, true, false, List, [], ◌∷◌}
use Rattle.disk_contract.specs.declared.event.Event.{Event}
use Rattle.disk_contract.specs.Cell.{greatest_ticket, is_accepted, is_noticed}
use Rattle.disk_contract.specs.Lawful.{MayCome, IsEventOf}
use Rattle.engine_notes.specs.declared.notes.Note.{Note}
use Rattle.engine_notes.specs.Notes.{is_expected, is_noticed as is_marked}

-- an event of a disk of n blocks that may come behind these
pub record IsNext (n : ℕ) (log : List Event) (event : Event) : Type 0 where
  pub comes : MayCome log event
  pub of : IsEventOf n event

-- What comes of an event: it stands behind the others where it may come, and else they stay; and whether it came is told.
abbrev pub TakesEvent : ℕ → List Event → Event → Bool → List Event → Type 0
TakesEvent n old event true new = IsNext n old event × (new ≡ old ++ event ∷ [])
TakesEvent n old event false new = (IsNext n old event → ⊥) × (new ≡ old)

-- the greatest ticket so far, and notes of the accepted tickets, marked where their notice came
pub record IsTracked (log : List Event) (last : ℕ) (notes : List Note) : Type 0 where
  pub greatest : last ≡ greatest_ticket log
  pub expected : (u : ℕ) → is_expected u notes ≡ is_accepted u log
  pub marked : (u : ℕ) → is_marked u notes ≡ is_noticed u log
