-- What naming a write gives, by the place that its name has in the whole log: its fate counts exactly where
-- the write is pending at the moment.
use Rattle.std.proofs.Common.{◌≡◌, ℕ, ◌<◌, ◌≤◌, Bool, false, List, [], ◌∷◌, ◌++◌, take, slice_set, slice_get, Option, Some, sym, ◌∙◌, ap, arith, length-take}
use Rattle.disk_contract.specs.declared.event.Event.{Event}
use Rattle.disk_contract.specs.Lawful.{IsLawful}
use Rattle.disk_memory.specs.declared.choice.WriteName.{WriteName}
use Rattle.disk_memory.specs.declared.choice.Fate.{Fate}
use Rattle.disk_memory.specs.declared.choice.Named.{Named}
use Rattle.disk_memory.specs.Choice.{is_pending, joined}
use Rattle.disk_memory.specs.Crash.{is_past, pending_answer}
use Rattle.disk_memory.specs.Log.{AreWithin}
use Rattle.disk_memory.specs.Settled.{name_at, AreSettledPlaces, AreFates}
use Rattle.disk_memory.proofs.crash_images.FateNames.{name_within, name_front, name_of_front, same_place}
use Rattle.disk_memory.proofs.crash_images.FatePending.{none_pending, pending_at}
use Rattle.disk_memory.proofs.crash_images.FateSaid.{fates_more}
use Rattle.disk_memory.proofs.log_rows.Events.{front_at, lawful_taken, within_front}

-- a name that no write of the log has is not that of a pending one
pub unknown : (log : List Event) (k : ℕ) (name : WriteName) → ((p : ℕ) → name_at log p ≡ Some name → ⊥) → is_pending (take k log) name ≡ false
unknown log k name none = none_pending (take k log) name 0 (take k log) (λ p h. none p (name_of_front k log p name h))

-- nor is one that a write behind the moment has
pub to_come : (log : List Event) (k p : ℕ) (name : WriteName) → IsLawful log → name_at log p ≡ Some name → k ≤ p → is_pending (take k log) name ≡ false
to_come log k p name lawful its far = none_pending (take k log) name 0 (take k log) (λ q h. omega (arith, same_place log p q name lawful its (name_of_front k log q name h), name_within 0 (take k log) q name h, length-take k log))

-- and one before the moment is pending by what is settled of its block
pending_there : (n : ℕ) (log : List Event) (places : List ℕ) (k p : ℕ) (e : Event) (name : WriteName) → IsLawful log → AreWithin n log → AreSettledPlaces n (take k log) places
    → slice_get log p ≡ Some e → name_at log p ≡ Some name → p < k → is_pending (take k log) name ≡ is_past places p e
pending_there n log places k p e name lawful within settled here its near =
    pending_at n (take k log) places p e name (lawful_taken log k lawful) (within_front n k log within) settled (front_at k log p near ∙ here) (name_front 0 k log p near ∙ its)

-- so its event tells the answer
pub answered : (n : ℕ) (log : List Event) (places : List ℕ) (k p : ℕ) (e : Event) (name : WriteName) (told : Bool) → IsLawful log → AreWithin n log → AreSettledPlaces n (take k log) places
    → slice_get log p ≡ Some e → name_at log p ≡ Some name → p < k → told ≡ is_past places p e → pending_answer name told ≡ pending_answer name (is_pending (take k log) name)
answered n log places k p e name told lawful within settled here its near is = ap (pending_answer name) (is ∙ sym (pending_there n log places k p e name lawful within settled here its near))

-- what is said of it counts from then on
pub named_there : (log : List Event) (k p : ℕ) (all : Bool) (said : List Named) (fates : List (Option Fate)) (write : WriteName) (fate : Fate) (now after : Option Fate) → IsLawful log → AreFates (take k log) all said fates
    → name_at log p ≡ Some write → p < k → slice_get fates p ≡ Some now → after ≡ joined now fate → AreFates (take k log) all (said ++ record { write = write; fate = fate } ∷ []) (slice_set fates p after)
named_there log k p all said fates write fate now after lawful were its near old is =
    fates_more (take k log) all said fates p write fate now after (lawful_taken log k lawful) were (name_front 0 k log p near ∙ its) old is
