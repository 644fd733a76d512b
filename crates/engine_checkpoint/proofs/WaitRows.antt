-- Waits one after the other, as one.
use Rattle.std.proofs.Common.{◌≡◌, ⊎_elim, inl, inr, ℕ, List, Bool, true, IsTrue, Result, Ok, Err, IsErr, is_err, refl, ◌∙◌, ap}
use Rattle.std.proofs.lemmas.Bool.{false≢true}
use Rattle.disk_contract.specs.declared.disk.DiskFault.{DiskFault}
use Rattle.disk_contract.specs.declared.event.Event.{Event}
use Rattle.disk_contract.specs.Disk.{State}
use Rattle.disk_contract.specs.Manner.{Manner}
use Rattle.engine_notes.specs.Notes.{Expected}
use Rattle.engine_checkpoint.specs.declared.pipeline.Pipeline.{Pipeline}
use Rattle.engine_checkpoint.specs.Calls.{StaysAgreed}
use Rattle.engine_checkpoint.specs.Waits.{HearsMore, HearsOnly, OnlyNotices, WaitsSome}
use Rattle.engine_checkpoint.proofs.HeardRecords.{hears_nothing, only_then}
use Rattle.engine_checkpoint.proofs.Hears.{hears_on}
use Rattle.engine_checkpoint.proofs.Spent.{no_notices, no_waits, notices_on, waits_on}

-- Waits, of which each brings notices of such tickets alone where the disk's waits bring no others.
pub record Waits {A : Type 0} (tells : Bool) (P : ℕ → Type 0) (r : Result A DiskFault) (old new : State) (v w : Pipeline) : Type 0 where
  pub agrees : StaysAgreed tells old new v w
  pub hears : HearsMore v.notes w.notes
  pub rest : w ≡ record v { notes = w.notes }
  pub log : IsTrue tells → OnlyNotices old.log new.log
  pub spends : WaitsSome (is_err r) old new
  pub only : IsTrue tells → old.manner.waits_alone ≡ true → HearsOnly P r old.log new.log w.notes.notes

pub waits_none : (tells : Bool) (P : ℕ → Type 0) (d : State) (v : Pipeline) → Waits {A = Unit {0}} tells P (Ok tt) d d v v
waits_none tells P d v = record {
  agrees = λ told s l t floor ring waiting taken safe a. (safe, a);
  hears = record { tickets = refl; room = refl; noticed = λ u e. e };
  rest = refl;
  log = λ told. no_notices d.log;
  spends = no_waits d;
  only = λ told alone. hears_nothing P (Ok tt) d.log d.log v.notes.notes refl;
}

-- what they hear, behind what was heard
hears_behind : {A B F : Type 0} (P Q : ℕ → Type 0) (x : A) (r : Result B F) (a b c : List Event) (was now : Expected) → ((u : ℕ) → Q u → P u) → HearsMore was now → HearsOnly {A = A} {E = F} P (Ok x) a b was.notes → HearsOnly Q r b c now.notes → HearsOnly P r a c now.notes
hears_behind P Q x (Ok y) a b c was now turn hears one two = record {
  only = only_then P Q (Ok x) (Ok y) a b c was.notes now.notes turn one two;
  heard = λ u came. ⊎_elim (λ before. ⊎_elim inl (λ known. inr (hears.noticed u known)) (one.heard u before)) inr (two.heard u came);
}
hears_behind P Q x (Err e) a b c was now turn hears one two = record { only = only_then P Q (Ok x) (Err e) a b c was.notes now.notes turn one two; heard = tt }

-- others behind waits that succeeded
pub waits_then : {B : Type 0} {tells : Bool} {old mid new : State} {u v w : Pipeline} (P Q : ℕ → Type 0) (r : Result B DiskFault) → ((t : ℕ) → Q t → P t) → Waits {A = Unit {0}} tells P (Ok tt) old mid u v → Waits tells Q r mid new v w → Waits tells P r old new u w
waits_then {old = old} {mid = mid} {new = new} {u = u} {v = v} {w = w} P Q r turn one two = record {
  agrees = λ told s l t floor ring waiting taken safe a. let was = one.agrees told s l t floor ring waiting taken safe a in two.agrees told s l t floor ring waiting taken was.0 was.1;
  hears = hears_on u.notes v.notes w.notes one.hears two.hears;
  rest = two.rest ∙ ap (λ (p : Pipeline). record p { notes = w.notes }) one.rest;
  log = λ told. notices_on old.log mid.log new.log (one.log told) (two.log told);
  spends = waits_on (is_err r) old mid new one.spends two.spends;
  only = λ told alone. hears_behind P Q tt r old.log mid.log new.log v.notes w.notes turn two.hears (one.only told alone) (two.only told (ap (λ (m : Manner). m.waits_alone) one.spends.spends.same.manner ∙ alone));
}

-- the fault is passed on
pub waits_failed : {A B : Type 0} {tells : Bool} {P : ℕ → Type 0} {old new : State} {v w : Pipeline} (e : DiskFault) (r : Result B DiskFault) → IsErr r → Waits {A = A} tells P (Err e) old new v w → Waits tells P r old new v w
waits_failed e (Ok b) failed g = absurd (false≢true failed)
waits_failed e (Err x) failed g = record { agrees = g.agrees; hears = g.hears; rest = g.rest; log = g.log; spends = g.spends; only = λ told alone. record { only = (g.only told alone).only; heard = tt } }
