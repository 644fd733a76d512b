-- What is looked up where an event is told.
use Rattle.std.proofs.Common.{◌≡◌, ℕ, List, Bor, refl}
use Rattle.disk_contract.specs.declared.event.Event.TheVariants as events
use Rattle.disk_memory.specs.declared.logged.Logged.{Logged}
use Rattle.disk_memory.specs.declared.logged.Logged.TheVariants.{Wrote, Lost, Noticed}
use Rattle.disk_memory.specs.Logged.{event_of}

-- an accepted write is looked up as one
pub looked_up_wrote : (l : Logged) (t b : ℕ) (x : List ℕ) → event_of l ≡ events.Wrote t b x → (u : ℕ) × (d : ℕ) × (y : Bor (List ℕ)) × (l ≡ Wrote u d y)
looked_up_wrote (Wrote u d y) t b x is = (u, d, y, refl)
looked_up_wrote (Lost d y) t b x is = absurd cc
looked_up_wrote (Noticed u) t b x is = absurd cc
