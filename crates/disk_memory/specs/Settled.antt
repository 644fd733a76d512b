-- Which write of a log a block's settled content is of, by its place in the log.
use Rattle.std.specs.Prelude.{◌≡◌, ℕ, zero, suc, ◌+◌, ◌<◌, Bool, List, [], ◌∷◌, length, drop, slice_index_or, Option, Some, None}
use Rattle.std.specs.List.{slice_get}
use Rattle.disk_contract.specs.declared.event.Event.{Event}
use Rattle.disk_contract.specs.declared.event.Event.TheVariants.{Wrote, Lost, Noticed}
use Rattle.disk_contract.specs.Lawful.{IsNewestNoticed, HasNoneNoticed}
use Rattle.disk_memory.specs.declared.choice.WriteName.{WriteName}
use Rattle.disk_memory.specs.declared.choice.WriteName.TheVariants as names
use Rattle.disk_memory.specs.declared.choice.Fate.{Fate}
use Rattle.disk_memory.specs.declared.choice.Named.{Named}
use Rattle.disk_memory.specs.Choice.{said_of, said_at_first}

-- 0 where no write to the block was noticed, else one more than the place of the newest that was
abbrev pub IsSettledPlace : List Event → ℕ → ℕ → Type 0
IsSettledPlace log b zero = HasNoneNoticed log b
IsSettledPlace log b (suc place) = (t : ℕ) × (x : List ℕ) × (slice_get log place ≡ Some (Wrote t b x)) × IsNewestNoticed log b t x (drop (suc place) log)

-- each of n blocks has its place
pub record AreSettledPlaces (n : ℕ) (log : List Event) (places : List ℕ) : Type 0 where
  pub size : length places ≡ n
  pub each : (b : ℕ) → b < n → IsSettledPlace log b (slice_index_or places b 0)

-- the name of the write at place p of these events, where so many were lost before them, or none where no write is there
abbrev pub name_from : ℕ → List Event → ℕ → Option WriteName
name_from lost [] p = None
name_from lost (Wrote t b x ∷ es) zero = Some (names.Accepted t)
name_from lost (Lost b x ∷ es) zero = Some (names.Lost (lost + 1))
name_from lost (Noticed t ∷ es) zero = None
name_from lost (Wrote t b x ∷ es) (suc p) = name_from lost es p
name_from lost (Lost b x ∷ es) (suc p) = name_from (lost + 1) es p
name_from lost (Noticed t ∷ es) (suc p) = name_from lost es p

-- the name of the write at place p of the log
abbrev pub name_at : List Event → ℕ → Option WriteName
name_at log p = name_from 0 log p

-- what is said of each write of the log, by its place there
pub record AreFates (log : List Event) (all : Bool) (named : List Named) (fates : List (Option Fate)) : Type 0 where
  pub size : length fates ≡ length log
  pub each : (p : ℕ) (name : WriteName) → name_at log p ≡ Some name → slice_get fates p ≡ Some (said_of named name (said_at_first all name))
