-- Tickets of a log that goes on: those that were accepted or noticed before, and those of new writes.
use Rattle.std.proofs.Common.{append-nil, ◌≡◌, ⊎_elim, ℕ, zero, suc, ◌<◌, ◌==◌, Bool, true, false, if◌then◌else◌, List, [], ◌∷◌, ◌++◌, length, get_or, Result, Ok, Err, OnErr, refl, sym, ◌∙◌, subst, arith, inl, inr, ap}
use Rattle.std.proofs.lemmas.Bool.{eqb-true, false_from_ne_true, false≢true, ne_eqb, or_from, cases_Bool}
use Rattle.disk_contract.specs.declared.event.Event.{Event}
use Rattle.disk_contract.specs.declared.event.Event.TheVariants.{Wrote, Lost, Noticed}
use Rattle.disk_contract.specs.Cell.{greatest_ticket, is_accepted, IsAccepted, IsNoticed, notices}
use Rattle.disk_contract.specs.Disk.{AddsNotices, AreWrites, Grows, GrowsByWrites}
use Rattle.disk_contract.specs.Logs.{IsAccepted-last as accepted_behind}
pub use Rattle.disk_contract.specs.Logs.{IsAccepted-more as accepted_still}
use Rattle.crash_argument.specs.HomeTest.{is_one_of}
use Rattle.crash_argument.specs.Writes.{AddsWrites}
use Rattle.engine_store.specs.Formatting.{AllAccepted}
use Rattle.engine_store.proofs.Logs.{noticed_in, noticed_still}

-- so one that isn't wasn't
pub not_before : (t : ℕ) (old new : List Event) → Grows old new → is_accepted t new ≡ false → is_accepted t old ≡ false
not_before t old new grows none = false_from_ne_true (is_accepted t old) (λ was. false≢true (sym none ∙ subst (λ (log : List Event). IsAccepted t log) (sym grows.log) (accepted_still t old grows.more was)))

-- no ticket above the greatest was accepted
above_none : (t : ℕ) (log : List Event) → greatest_ticket log < t → is_accepted t log ≡ false
above_none t [] above = refl
above_none t (Wrote u b x ∷ log) above = or_from (u == t) (is_accepted t log) (ne_eqb u t (λ e. omega (arith, e, above))) (above_none t log (omega (arith, above)))
above_none t (Lost b x ∷ log) above = above_none t log above
above_none t (Noticed u ∷ log) above = above_none t log above

-- A ticket that is new to a log: no write of it was accepted, and its notice hasn't come.
pub record IsNew (t : ℕ) (log : List Event) : Type 0 where
  pub write : is_accepted t log ≡ false
  pub notice : ¬ IsNoticed t log

-- what is new to a longer log is so to its front
new_before : (t : ℕ) (log more : List Event) → IsNew t (log ++ more) → IsNew t log
new_before t log more is = record { write = not_before t log (log ++ more) (record { more = more; log = refl }) is.write; notice = λ was. is.notice (noticed_still t log more was) }

-- writes have tickets that were new
pub new_ticket : (ws : List (ℕ × List ℕ)) (ts : List ℕ) (old new : List Event) (t : ℕ) → AddsWrites ws ts old new → is_one_of t ts ≡ true → IsNew t old
new_ticket [] [] old new t adds own = absurd (false≢true own)
new_ticket [] (u ∷ us) old new t adds own = absurd adds
new_ticket (w ∷ ws) [] old new t adds own = absurd adds
new_ticket (w ∷ ws) (u ∷ us) old new t adds own = elim (cases_Bool (u == t)) [
  | inl same ↦ subst (λ (n : ℕ). IsNew n old) (eqb-true u t same) (record { write = above_none u old adds.0; notice = adds.1 })
  | inr apart ↦ new_before t old (Wrote u w.0 w.1 ∷ []) (new_ticket ws us (old ++ Wrote u w.0 w.1 ∷ []) new t adds.2 (ap (λ (b : Bool). if b then true else is_one_of t us) (sym apart) ∙ own))
]

-- writes bring no notice
none_noticed : (t : ℕ) (es : List Event) → AreWrites es → IsNoticed t es → ⊥
none_noticed t [] all n = false≢true n
none_noticed t (Wrote u b x ∷ es) all n = none_noticed t es all n
none_noticed t (Lost b x ∷ es) all n = none_noticed t es all n
none_noticed t (Noticed u ∷ es) all n = all

pub noticed_before : (t : ℕ) (old new : List Event) → GrowsByWrites old new → IsNoticed t new → IsNoticed t old
noticed_before t old new grows n = ⊎_elim (λ was. was) (λ late. absurd (none_noticed t grows.more grows.writes late)) (noticed_in t old grows.more (subst (λ (log : List Event). IsNoticed t log) grows.log n))

-- a log goes on from itself without a write
pub no_write : (log : List Event) → GrowsByWrites log log
no_write log = record { more = []; log = sym (append-nil log); writes = tt }

-- a log that goes on by writes goes on
pub grows_by : (old new : List Event) → GrowsByWrites old new → Grows old new
grows_by old new grows = record { more = grows.more; log = grows.log }

-- the tickets of writes are those of accepted ones

added_still : (t : ℕ) (ws : List (ℕ × List ℕ)) (ts : List ℕ) (old new : List Event) → AddsWrites ws ts old new → IsAccepted t old → IsAccepted t new
added_still t [] [] old new adds was = subst (IsAccepted t) (sym adds) was
added_still t [] (u ∷ ts) old new adds was = absurd adds
added_still t (w ∷ ws) [] old new adds was = absurd adds
added_still t (w ∷ ws) (u ∷ ts) old new adds was = added_still t ws ts (old ++ Wrote u w.0 w.1 ∷ []) new adds.2 (accepted_still t old (Wrote u w.0 w.1 ∷ []) was)

pub all_accepted : (ws : List (ℕ × List ℕ)) (ts : List ℕ) (old new : List Event) → AddsWrites ws ts old new → AllAccepted new ts
all_accepted [] [] old new adds = tt
all_accepted [] (t ∷ ts) old new adds = absurd adds
all_accepted (w ∷ ws) [] old new adds = absurd adds
all_accepted (w ∷ ws) (t ∷ ts) old new adds = (added_still t ws ts (old ++ Wrote t w.0 w.1 ∷ []) new adds.2 (accepted_behind t w.0 w.1 old), all_accepted ws ts (old ++ Wrote t w.0 w.1 ∷ []) new adds.2)

accepted_at : (ts : List ℕ) (k : ℕ) (log : List Event) → k < length ts → AllAccepted log ts → IsAccepted (get_or ts k 0) log
accepted_at [] k log low all = absurd (omega (arith, low))
accepted_at (t ∷ ts) zero log low all = all.0
accepted_at (t ∷ ts) (suc k) log low all = accepted_at ts k log (omega (arith, low)) all.1

-- one of them was accepted still, behind notices
pub given_still : (ts : List ℕ) (k : ℕ) (old new : List Event) → k < length ts → AllAccepted old ts → AddsNotices old new → IsAccepted (get_or ts k 0) new
given_still ts k old new low all adds = subst (IsAccepted (get_or ts k 0)) (sym adds.log) (accepted_still (get_or ts k 0) old (notices adds.tickets) (accepted_at ts k old low all))

-- what holds behind a call holds where it failed
pub on_err : {T E : Type 0} {P : Type 0} (result : Result T E) → P → OnErr result P
on_err (Ok x) p = tt
on_err (Err e) p = p
