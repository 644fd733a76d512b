-- A mount whose only write is the header that opens the journal.
use Rattle.std.proofs.Common.{◌≡◌, ◌<◌, List, [], length, Result, Ok, Err, IsErr, subst, ap, arith}
use Rattle.std.proofs.lemmas.Bool.{false≢true}
use Rattle.disk_contract.specs.declared.event.Event.{Event}
use Rattle.disk_contract.specs.Manner.{Manner}
use Rattle.disk_contract.specs.Disk.{State}
use Rattle.crash_argument.specs.Opening.{StopsAtOne, WritesOnce}

-- what hands on the error of a call that has stopped
pub stops_too : {T E : Type 0} (m : Manner) (r : Result T E) (old new : List Event) → IsErr r → StopsAtOne m old new → WritesOnce m r old new
stops_too m (Ok x) old new is stops = absurd (false≢true is)
stops_too m (Err e) old new is stops = stops

-- and so is a call behind others that left the log as it was
pub once_since : {T E : Type 0} (r : Result T E) (old mid new : State) → mid.manner ≡ old.manner → mid.log ≡ old.log → WritesOnce mid.manner r mid.log new.log → WritesOnce old.manner r old.log new.log
once_since r old mid new manner log once = subst (λ (m : Manner). WritesOnce m r old.log new.log) manner (subst (λ (l : List Event). WritesOnce mid.manner r l new.log) log once)

-- a run with a record isn't empty
pub not_empty : {A : Type 0} (xs : List A) → 0 < length xs → xs ≡ [] → ⊥
not_empty xs some none = omega (arith, some, ap length none)
