-- What a longer log tells, by its two parts.
use Rattle.std.proofs.Common.{◌≡◌, ◌⊎◌, ⊎_elim, ℕ, ◌==◌, ◌||◌, if◌then◌else◌, List, [], ◌∷◌, ◌++◌, refl, sym, ◌∙◌, ap}
use Rattle.std.proofs.Math.Bool.{or_assoc}
use Rattle.disk_contract.specs.declared.event.Event.{Event}
use Rattle.disk_contract.specs.declared.event.Event.TheVariants.{Wrote, Lost, Noticed}
use Rattle.disk_contract.specs.Cell.{is_accepted}
pub use Rattle.disk_contract.specs.Logs.{IsWritten-append, accepted_from-append, cell_of-append, greatest-append, is_noticed-append, lawful_event}

pub is_accepted-append : (t : ℕ) (xs ys : List Event) → is_accepted t (xs ++ ys) ≡ (is_accepted t xs || is_accepted t ys)
is_accepted-append t [] ys = refl
is_accepted-append t (Wrote u b y ∷ xs) ys = ap (λ r. (u == t) || r) (is_accepted-append t xs ys) ∙ sym (or_assoc (u == t) (is_accepted t xs) (is_accepted t ys))
is_accepted-append t (Lost b y ∷ xs) ys = is_accepted-append t xs ys
is_accepted-append t (Noticed u ∷ xs) ys = is_accepted-append t xs ys
