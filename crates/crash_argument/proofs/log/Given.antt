-- A write that was accepted has its ticket in the log.
use Rattle.std.proofs.Common.{ℕ, ◌==◌, false, List, [], ◌∷◌, ◌++◌, Result, Ok, Err, OnErr, refl, sym, subst}
use Rattle.std.proofs.lemmas.Bool.{or_left, or_right, eq-eqb}
use Rattle.disk_contract.specs.declared.event.Event.{Event}
use Rattle.disk_contract.specs.declared.event.Event.TheVariants.{Wrote, Lost, Noticed}
use Rattle.disk_contract.specs.Cell.{is_accepted, IsAccepted}
use Rattle.disk_contract.specs.Disk.{AddsWrite}

last_given : (log : List Event) (t b : ℕ) (x : List ℕ) → IsAccepted t (log ++ Wrote t b x ∷ [])
last_given [] t b x = or_left (t == t) false (eq-eqb t t refl)
last_given (Wrote u c y ∷ log) t b x = or_right (u == t) (is_accepted t (log ++ Wrote t b x ∷ [])) (last_given log t b x)
last_given (Lost c y ∷ log) t b x = last_given log t b x
last_given (Noticed u ∷ log) t b x = last_given log t b x

pub given_now : (E : Type 0) (b t : ℕ) (x : List ℕ) (old new : List Event) → AddsWrite {E = E} b x (Ok t) old new → IsAccepted t new
given_now E b t x old new adds = subst (λ (l : List Event). IsAccepted t l) (sym adds.2) (last_given old t b x)

-- what holds where a call failed
pub on_err : {A E : Type 0} {P : Type 0} (r : Result A E) → P → OnErr r P
on_err (Ok a) p = tt
on_err (Err e) p = p
