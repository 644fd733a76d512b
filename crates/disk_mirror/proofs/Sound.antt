-- A mirror is a sound disk.
use Rattle.std.proofs.Common.{◌≡◌, ℕ, ◌≤◌, ◌++◌, Bool, false, List, [], ◌∷◌, length, Option, refl, ◌∙◌, arith}
use Rattle.std.proofs.Props.{props}
use Rattle.std.proofs.Math.Logic.{∥∥₁_elim}
use Rattle.std.specs.Coded.{×_prop, Unit-prop}
use Rattle.disk_contract.specs.declared.event.Event.{Event}
use Rattle.disk_contract.specs.declared.event.Event.TheVariants.{Wrote, Lost, Noticed}
use Rattle.disk_contract.specs.Disk.{State}
use Rattle.disk_contract.specs.Lawful.{MayCome, AreLawfulAfter, IsEventOf, AreEventsOf, IsSoundDisk}
use Rattle.disk_contract.specs.Cell.{has_lost}
use Rattle.disk_mirror.specs.declared.entry.Entry.{Entry}
use Rattle.disk_mirror.specs.declared.entry.Entry.TheVariants.{Accepted, Failed, Reported}
use Rattle.disk_mirror.specs.Order.{OrderState, log_of, has_failed}
use Rattle.disk_mirror.specs.Mirror.{Counts, IsMirror, KeepsRoom, mirror_state}
use Rattle.disk_mirror.proofs.Made.{goes_within, made_log}

may_prop : (before : List Event) (e : Event) → IsProp (MayCome before e)
may_prop before (Wrote t b x) = hlevel props
may_prop before (Lost b x) = Unit-prop
may_prop before (Noticed t) = hlevel props

after_prop : (before es : List Event) → IsProp (AreLawfulAfter before es)
after_prop before [] = Unit-prop
after_prop before (e ∷ es) = ×_prop (may_prop before e) (after_prop (before ++ e ∷ []) es)

event_prop : (n : ℕ) (e : Event) → IsProp (IsEventOf n e)
event_prop n (Wrote t b x) = hlevel props
event_prop n (Lost b x) = hlevel props
event_prop n (Noticed t) = hlevel props

events_prop : (n : ℕ) (es : List Event) → IsProp (AreEventsOf n es)
events_prop n [] = Unit-prop
events_prop n (e ∷ es) = ×_prop (event_prop n e) (events_prop n es)

-- the mirror's log has a lost write only where one failed on its last live disk
lost_failed : (a b : List Event) (es : List Entry) → has_lost (log_of a b es) ≡ has_failed es
lost_failed a b [] = refl
lost_failed a b (Accepted t first second ∷ es) = lost_failed a b es
lost_failed a b (Failed side ∷ es) = refl
lost_failed a b (Reported t ∷ es) = lost_failed a b es

-- another event leaves that as it is
pub failed_accept : (es : List Entry) (t : ℕ) (first second : Option ℕ) → has_failed (es ++ Accepted t first second ∷ []) ≡ has_failed es
failed_accept [] t first second = refl
failed_accept (Accepted u f s ∷ es) t first second = failed_accept es t first second
failed_accept (Failed side ∷ es) t first second = refl
failed_accept (Reported u ∷ es) t first second = failed_accept es t first second

pub failed_report : (es : List Entry) (t : ℕ) → has_failed (es ++ Reported t ∷ []) ≡ has_failed es
failed_report [] t = refl
failed_report (Accepted u f s ∷ es) t = failed_report es t
failed_report (Failed side ∷ es) t = refl
failed_report (Reported u ∷ es) t = failed_report es t

pub sound : (a b : State) (f s : Bool) (ea eb : ℕ) (o : OrderState) (c : Counts) → IsSoundDisk a → ∥ IsMirror a b f s ea eb o ∥₁ → KeepsRoom c.most o → length o.pairs ≤ o.room → (c.faults ≡ 0 → has_failed o.events ≡ false) → IsSoundDisk (mirror_state a b o c)
sound a b f s ea eb o c d told keeps few counted = record {
  blocks = d.blocks;
  log = record {
    lawful = ∥∥₁_elim told (after_prop [] (log_of a.log b.log o.events)) (λ (is : IsMirror a b f s ea eb o). is.log.lawful);
    events = ∥∥₁_elim told (events_prop a.blocks (log_of a.log b.log o.events)) (λ (is : IsMirror a b f s ea eb o). is.log.events);
  };
  manner = goes_within c.most [] (log_of a.log b.log o.events) (omega (arith, made_log a.log b.log o.events, keeps, few));
  reads = λ _. refl;
  counted = λ _ none. lost_failed a.log b.log o.events ∙ counted none;
}
