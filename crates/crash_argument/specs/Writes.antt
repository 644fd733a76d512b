-- Writes that are issued and not waited for: what they add to a log.
use Rattle.std.specs.Prelude.{◌≡◌, ◌⊎◌, ℕ, ◌<◌, List, [], ◌∷◌, ◌++◌, take, Result, Ok, Err}
use Rattle.disk_contract.specs.declared.event.Event.{Event}
use Rattle.disk_contract.specs.declared.event.Event.TheVariants.{Wrote, Lost}
use Rattle.disk_contract.specs.Cell.{greatest_ticket, IsNoticed}

-- these writes, block and bytes, one after another, each accepted with a new ticket
abbrev pub AddsWrites : List (ℕ × List ℕ) → List ℕ → List Event → List Event → Type 0
AddsWrites [] [] old new = new ≡ old
AddsWrites [] (t ∷ ts) old new = ⊥
AddsWrites (w ∷ ws) [] old new = ⊥
AddsWrites (w ∷ ws) (t ∷ ts) old new = (greatest_ticket old < t) × (¬ IsNoticed t old) × AddsWrites ws ts (old ++ Wrote t w.0 w.1 ∷ []) new

-- a front of these writes, and then at most one that was lost, the next of them
pub record AddsFront (ws : List (ℕ × List ℕ)) (old new : List Event) : Type 0 where
  pub front : List (ℕ × List ℕ)
  pub rest : List (ℕ × List ℕ)
  pub split : ws ≡ front ++ rest
  pub tickets : List ℕ
  pub middle : List Event
  pub accepted : AddsWrites front tickets old middle
  pub ends : (new ≡ middle) ⊎ ((b : ℕ) × (x : List ℕ) × (later : List (ℕ × List ℕ)) × (rest ≡ (b, x) ∷ later) × (new ≡ middle ++ Lost b x ∷ []))

-- calls for these writes: all are accepted, and their tickets join the list; or a front of them is
abbrev pub AddsAll : {A E : Type 0} → List (ℕ × List ℕ) → Result A E → List ℕ → List ℕ → List Event → List Event → Type 0
AddsAll ws (Ok a) before now old new = (ts : List ℕ) × (now ≡ before ++ ts) × AddsWrites ws ts old new
AddsAll ws (Err e) before now old new = AddsFront ws old new

-- so many of these writes are accepted, and their tickets have joined the list
abbrev pub HasWritten : List (ℕ × List ℕ) → ℕ → List ℕ → List ℕ → List Event → List Event → Type 0
HasWritten ws count before now old new = (ts : List ℕ) × (now ≡ before ++ ts) × AddsWrites (take count ws) ts old new
