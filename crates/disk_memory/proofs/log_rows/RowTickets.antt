-- The row of tickets of a lawful log: it ascends, and it has the tickets of all accepted writes and no others.
use Rattle.std.proofs.Common.{◌≡◌, inl, inr, ℕ, zero, suc, ◌<◌, true, ◌==◌, List, [], ◌∷◌, ◌++◌, length, get_or, Some, ap, subst, arith}
use Rattle.std.proofs.lemmas.Bool.{eqb-true, eq-eqb, or_cases, or_left, or_right, false≢true, cases_eq}
use Rattle.std.proofs.lemmas.Option.{none-some, same_Some}
use Rattle.std.proofs.lemmas.List.Sorted.{IsNonDecreasingBy-from_default}
use Rattle.std.specs.List.{slice_get}
use Rattle.std.specs.List.Sorted.{IsNonDecreasing}
use Rattle.disk_contract.specs.declared.event.Event.{Event}
use Rattle.disk_contract.specs.declared.event.Event.TheVariants.{Wrote, Lost, Noticed}
use Rattle.disk_contract.specs.Cell.{greatest_ticket, is_accepted}
use Rattle.disk_contract.specs.Lawful.{AreLawfulAfter, IsLawful}
use Rattle.disk_memory.specs.Log.{tickets}
use Rattle.disk_memory.proofs.log_rows.Events.{greatest_wrote, greatest_lost, greatest_noticed}

-- these numbers ascend, and stand above this one
abbrev pub AreAbove : ℕ → List ℕ → Type 0
AreAbove low [] = Unit {0}
AreAbove low (t ∷ ts) = (low < t) × AreAbove t ts

-- each of them is above it
pub above_at : (low i : ℕ) (ts : List ℕ) → AreAbove low ts → i < length ts → low < get_or ts i 0
above_at low i [] above within = absurd (omega arith)
above_at low zero (t ∷ ts) above within = above.0
above_at low (suc i) (t ∷ ts) above within = omega (arith, above.0, above_at t i ts above.1 (omega arith))

-- and above those before it
above_rise : (low i j : ℕ) (ts : List ℕ) → AreAbove low ts → i < j → j < length ts → get_or ts i 0 < get_or ts j 0
above_rise low i j [] above less within = absurd (omega arith)
above_rise low i zero (t ∷ ts) above less within = absurd (omega arith)
above_rise low zero (suc j) (t ∷ ts) above less within = above_at t j ts above.1 (omega arith)
above_rise low (suc i) (suc j) (t ∷ ts) above less within = above_rise t i j ts above.1 (omega arith) (omega arith)

-- the tickets of lawful events ascend, from above those before them
pub tickets_ascend : (before log : List Event) → AreLawfulAfter before log → AreAbove (greatest_ticket before) (tickets log)
tickets_ascend before [] h = tt
tickets_ascend before (Wrote t b x ∷ log) h = (h.0, subst (λ low. AreAbove low (tickets log)) (greatest_wrote before t b x h.0) (tickets_ascend (before ++ Wrote t b x ∷ []) log h.1))
tickets_ascend before (Lost b x ∷ log) h = subst (λ low. AreAbove low (tickets log)) (greatest_lost before b x) (tickets_ascend (before ++ Lost b x ∷ []) log h.1)
tickets_ascend before (Noticed t ∷ log) h = subst (λ low. AreAbove low (tickets log)) (greatest_noticed before t) (tickets_ascend (before ++ Noticed t ∷ []) log h.1)

-- the row is in order
pub tickets_in_order : (log : List Event) → IsLawful log → IsNonDecreasing (tickets log)
tickets_in_order log lawful = IsNonDecreasingBy-from_default (λ x. x) (tickets log) 0 (λ i j less within. elim (cases_eq i j) [
  | inl same ↦ omega (arith, ap (λ k. get_or (tickets log) k 0) same)
  | inr apart ↦ omega (arith, above_rise 0 i j (tickets log) (tickets_ascend [] log lawful) (omega arith) within)
])

-- a write has the ticket that is at a place of the row
pub accepted_at : (log : List Event) (i t : ℕ) → slice_get (tickets log) i ≡ Some t → is_accepted t log ≡ true
accepted_at [] i t e = absurd (none-some t e)
accepted_at (Wrote u b x ∷ es) zero t e = or_left (u == t) (is_accepted t es) (eq-eqb u t (same_Some u t e))
accepted_at (Wrote u b x ∷ es) (suc i) t e = or_right (u == t) (is_accepted t es) (accepted_at es i t e)
accepted_at (Lost b x ∷ es) i t e = accepted_at es i t e
accepted_at (Noticed u ∷ es) i t e = accepted_at es i t e

-- and the ticket of each write is at some place
pub ticket_place : (log : List Event) (t : ℕ) → is_accepted t log ≡ true → (i : ℕ) × (slice_get (tickets log) i ≡ Some t)
ticket_place [] t a = absurd (false≢true a)
ticket_place (Wrote u b x ∷ es) t a = elim (or_cases (u == t) (is_accepted t es) a) [
  | inl here ↦ (0, ap (λ (n : ℕ). Some n) (eqb-true u t here))
  | inr later ↦ let rest = ticket_place es t later in (suc rest.0, rest.1)
]
ticket_place (Lost b x ∷ es) t a = ticket_place es t a
ticket_place (Noticed u ∷ es) t a = ticket_place es t a
