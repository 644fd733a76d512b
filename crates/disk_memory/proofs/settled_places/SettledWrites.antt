-- Where the writes of a lawful log stand: each ticket comes once, and tickets ascend with their places.
use Rattle.std.proofs.Common.{◌≡◌, ◌⊎◌, inl, inr, ⊎_elim, ℕ, zero, suc, ◌<◌, ◌≤◌, List, [], ◌∷◌, ◌++◌, Some, refl, sym, ◌∙◌, ap, subst, arith}
use Rattle.std.specs.List.{slice_get}
use Rattle.std.proofs.lemmas.Bool.{eqb-true, or_cases, false≢true, cases_order}
use Rattle.disk_contract.specs.declared.event.Event.{Event}
use Rattle.disk_contract.specs.declared.event.Event.TheVariants.{Wrote, Lost, Noticed}
use Rattle.disk_contract.specs.Cell.{greatest_ticket, IsAccepted}
use Rattle.disk_contract.specs.Lawful.{AreLawfulAfter, IsLawful, IsWriteOf}
pub use Rattle.disk_contract.specs.Logs.{write_parts}
use Rattle.disk_memory.proofs.log_rows.Events.{greatest_before, greatest_behind, lawful_behind}

-- the write at a place
pub record StandsAt (u b : ℕ) (log : List Event) : Type 0 where
  pub place : ℕ
  pub bytes : List ℕ
  pub at : slice_get log place ≡ Some (Wrote u b bytes)

-- the same write where one more event is before
stands_behind : (u b : ℕ) (e : Event) (log : List Event) → StandsAt u b log → StandsAt u b (e ∷ log)
stands_behind u b e log stands = record { place = suc stands.place; bytes = stands.bytes; at = stands.at }

-- a write of the log is at some place
pub write_place : (u b : ℕ) (log : List Event) → IsWriteOf u b log → StandsAt u b log
write_place u b [] w = absurd w
write_place u b (Wrote t d x ∷ es) w = ⊎_elim
    (λ is. record { place = 0; bytes = x; at = ap (λ k. Some (Wrote k d x)) is.0 ∙ ap (λ k. Some (Wrote u k x)) is.1 })
    (λ more. stands_behind u b (Wrote t d x) es (write_place u b es more)) w
write_place u b (Lost d x ∷ es) w = stands_behind u b (Lost d x) es (write_place u b es w)
write_place u b (Noticed t ∷ es) w = stands_behind u b (Noticed t) es (write_place u b es w)

-- an accepted ticket is that of a write to some block
accepted_write : (u : ℕ) (log : List Event) → IsAccepted u log → (b : ℕ) × IsWriteOf u b log
accepted_write u [] a = absurd (false≢true a)
accepted_write u (Wrote t d x ∷ es) a = ⊎_elim (λ is. (d, inl (eqb-true t u is, refl))) (λ more. let rest = accepted_write u es more in (rest.0, inr rest.1)) (or_cases _ _ a)
accepted_write u (Lost d x ∷ es) a = accepted_write u es a
accepted_write u (Noticed t ∷ es) a = accepted_write u es a

-- so it is at some place
pub accepted_place : (u : ℕ) (log : List Event) → IsAccepted u log → (b : ℕ) × StandsAt u b log
accepted_place u log a = let write = accepted_write u log a in (write.0, write_place u write.0 log write.1)

-- the ticket of a write among lawful events is above all earlier ones
pub place_above : (before es : List Event) (p u b : ℕ) (x : List ℕ) → AreLawfulAfter before es → slice_get es p ≡ Some (Wrote u b x) → greatest_ticket before < u
place_above before [] p u b x h at = absurd cc
place_above before (e ∷ es) zero u b x h at =
    let is : e ≡ Wrote u b x = cc in
    (subst (λ (f : Event). AreLawfulAfter before (f ∷ es)) is h).0
place_above before (e ∷ es) (suc p) u b x h at =
    omega (arith, place_above (before ++ e ∷ []) es p u b x h.1 at, greatest_before before (e ∷ []))

-- so the tickets behind a write are above its own
pub later_above : (t u a b : ℕ) (x : List ℕ) (before first later : List Event) → AreLawfulAfter before (first ++ (Wrote t a x ∷ later)) → IsWriteOf u b later → t < u
later_above t u a b x before first later lawful w =
    let stands = write_place u b later w in
    let behind = lawful_behind before first (Wrote t a x ∷ later) lawful in
    omega (arith, greatest_behind (before ++ first) (Wrote t a x ∷ []), place_above ((before ++ first) ++ Wrote t a x ∷ []) later stands.place u b stands.bytes behind.1 stands.at)

-- tickets ascend with their places
pub ascend : (before es : List Event) (p q t u b d : ℕ) (x y : List ℕ) → AreLawfulAfter before es → slice_get es p ≡ Some (Wrote t b x) → slice_get es q ≡ Some (Wrote u d y) → p < q → t < u
ascend before [] p q t u b d x y h first second lt = absurd cc
ascend before (e ∷ es) p zero t u b d x y h first second lt = absurd (omega arith)
ascend before (e ∷ es) zero (suc q) t u b d x y h first second lt =
    let is : e ≡ Wrote t b x = cc in
    let above = place_above (before ++ e ∷ []) es q u d y h.1 second in
    let last = greatest_behind before (Wrote t b x ∷ []) in
    let same = ap (λ (f : Event). greatest_ticket (before ++ f ∷ [])) is in
    omega arith
ascend before (e ∷ es) (suc p) (suc q) t u b d x y h first second lt = ascend (before ++ e ∷ []) es p q t u b d x y h.1 first second (omega arith)

-- so a ticket comes once
pub once : (log : List Event) (p q t b d : ℕ) (x y : List ℕ) → IsLawful log → slice_get log p ≡ Some (Wrote t b x) → slice_get log q ≡ Some (Wrote t d y) → (p ≡ q) × (b ≡ d)
once log p q t b d x y h first second = elim (cases_order p q) [
  | inl same ↦ (same, ascribe (sym first ∙ ap (slice_get log) same ∙ second))
  | inr (inl below) ↦ absurd (omega (arith, ascend [] log p q t t b d x y h first second below))
  | inr (inr above) ↦ absurd (omega (arith, ascend [] log q p t t d b y x h second first above))
]
  where
    ascribe : Some (Wrote t b x) ≡ Some (Wrote t d y) → b ≡ d
    ascribe e = cc

-- and a ticket that is behind another, or where it does, is no smaller
pub no_smaller : (log : List Event) (p q t u b d : ℕ) (x y : List ℕ) → IsLawful log → slice_get log p ≡ Some (Wrote t b x) → slice_get log q ≡ Some (Wrote u d y) → p ≤ q → t ≤ u
no_smaller log p q t u b d x y h first second le = elim (cases_order p q) [
  | inl same ↦ let one : t ≡ u = ascribe (sym first ∙ ap (slice_get log) same ∙ second) in omega arith
  | inr (inl below) ↦ omega (arith, ascend [] log p q t u b d x y h first second below)
  | inr (inr above) ↦ absurd (omega arith)
]
  where
    ascribe : Some (Wrote t b x) ≡ Some (Wrote u d y) → t ≡ u
    ascribe e = cc
