-- Windows of any statement: how they go on, join, and follow from one another.
use Rattle.std.proofs.Common.{◌≡◌, ⊎_elim, ℕ, ◌≤◌, List, [], ◌∷◌, ◌++◌, length, take, Option, Some, None, Result, Ok, Err, sym, ◌∙◌, ap, subst, arith, append-nil, append_assoc, length-append}
use Rattle.std.proofs.lemmas.List.{take-append-le}
use Rattle.std.proofs.lemmas.Bool.{cases_lt}
use Rattle.std.proofs.Math.Seq.{take-length}
use Rattle.base_types.specs.Seal.{Blocks}
use Rattle.disk_contract.specs.declared.event.Event.{Event}
use Rattle.disk_contract.specs.declared.event.Event.TheVariants.{Wrote, Lost, Noticed}
use Rattle.disk_contract.specs.Cell.{notices}
use Rattle.disk_contract.specs.Crash.{IsHonest, Window}
use Rattle.disk_contract.specs.Disk.{AddsWrite, AddsPoll, AddsNotices, Grows}
use Rattle.crash_argument.specs.JournalLaws.{JournalLaws}
use Rattle.crash_argument.specs.Ledger.{Ledger, HoldsUnder, StandsForOne, IsConsistentWith, next_number}
use Rattle.crash_argument.specs.Opening.{AddsWaited, AddsDurable}
use Rattle.crash_argument.specs.Points.{MountedSession, IsPoint, HoldsPoint, IsSafe, points_in}
use Rattle.crash_argument.proofs.mount.Moments.{window_goes_on}
use Rattle.crash_argument.proofs.steps.WindowSteps.{last_is}
use Rattle.crash_argument.proofs.theorem.Whole.{stands_for_one}

-- notices add no image
pub window_noticed : ((n : ℕ) (base : Blocks) (log : List Event) (t : ℕ) (img : Blocks) → IsHonest n base (log ++ Noticed t ∷ []) img → IsHonest n base log img)
    → (n : ℕ) (base : Blocks) (log : List Event) (t : ℕ) (P : Blocks → Type 0) (ts : List ℕ) → t ≤ length log → Window n base log t P → Window n base (log ++ notices ts) t P
window_noticed none_new n base log t P [] le w = subst (λ (l : List Event). Window n base l t P) (sym (append-nil log)) w
window_noticed none_new n base log t P (u ∷ ts) le w =
    let one = window_goes_on n base log (Noticed u) t P w (λ img h. w.each (length log) img le (omega arith) (subst (λ (l : List Event). IsHonest n base l img) (sym (take-length log)) (none_new n base log u img h))) in
    subst (λ (l : List Event). Window n base l t P) (append_assoc log (Noticed u ∷ []) (notices ts))
    (window_noticed none_new n base (log ++ Noticed u ∷ []) t P ts (omega (arith, le, length-append log (Noticed u ∷ []))) one)

pub window_after_wait : ((n : ℕ) (base : Blocks) (log : List Event) (t : ℕ) (img : Blocks) → IsHonest n base (log ++ Noticed t ∷ []) img → IsHonest n base log img)
    → (n : ℕ) (base : Blocks) (log new : List Event) (t : ℕ) (P : Blocks → Type 0) → t ≤ length log → AddsNotices log new → Window n base log t P → Window n base new t P
window_after_wait none_new n base log new t P le a w = subst (λ (l : List Event). Window n base l t P) (sym a.log) (window_noticed none_new n base log t P a.tickets le w)

-- two windows one behind the other are one
pub window_joins : (n : ℕ) (base : Blocks) (log new : List Event) (t : ℕ) (P : Blocks → Type 0) → Grows log new → Window n base log t P → Window n base new (length log) P → Window n base new t P
window_joins n base log new t P grows first second = record {
  each = λ k img from upto honest. ⊎_elim (λ late. second.each k img (omega (arith, late)) upto honest)
      (λ early. first.each k img from early (subst (λ (l : List Event). IsHonest n base l img) (ap (take k) grows.log ∙ take-append-le k log grows.more early) honest))
      (cases_lt (length log) k);
}

-- a statement that follows from another
pub window_follows : (n : ℕ) (base : Blocks) (log : List Event) (t : ℕ) (P Q : Blocks → Type 0) → ((img : Blocks) → P img → Q img) → Window n base log t P → Window n base log t Q
window_follows n base log t P Q then w = record { each = λ k img from upto honest. then img (w.each k img from upto honest) }

-- calls only add to a log
as_it_was : (old new : List Event) → new ≡ old → Grows old new
as_it_was old new e = record { more = []; log = e ∙ sym (append-nil old) }

pub write_adds : {E : Type 0} (b : ℕ) (x : List ℕ) (r : Result ℕ E) (old new : List Event) → AddsWrite b x r old new → Grows old new
write_adds b x (Ok t) old new a = record { more = Wrote t b x ∷ []; log = a.2 }
write_adds b x (Err e) old new a = ⊎_elim (as_it_was old new) (λ lost. record { more = Lost b x ∷ []; log = lost }) a

pub poll_adds : {E : Type 0} (r : Result (Option ℕ) E) (old new : List Event) → AddsPoll r old new → Grows old new
poll_adds (Ok (Some t)) old new a = record { more = Noticed t ∷ []; log = a.1 }
poll_adds (Ok None) old new a = as_it_was old new a
poll_adds (Err e) old new a = as_it_was old new a

pub wait_adds : (old new : List Event) → AddsNotices old new → Grows old new
wait_adds old new a = record { more = notices a.tickets; log = a.log }

waited_adds : (b : ℕ) (x : List ℕ) (old new : List Event) → AddsWaited b x old new → Grows old new
waited_adds b x old new w = record { more = Wrote w.ticket b x ∷ notices w.waited.tickets; log = w.waited.log ∙ append_assoc old (Wrote w.ticket b x ∷ []) (notices w.waited.tickets) }

pub durable_adds : {T E : Type 0} (b : ℕ) (x : List ℕ) (r : Result T E) (old new : List Event) → AddsDurable b x r old new → Grows old new
durable_adds b x (Ok done) old new a = waited_adds b x old new a.0
durable_adds b x (Err e) old new a = ⊎_elim (as_it_was old new) (λ more. ⊎_elim (λ lost. record { more = Lost b x ∷ []; log = lost }) (waited_adds b x old new) more) a

-- a statement that each map of the ledger has goes on over a call that adds one event at most
pub window_carried : JournalLaws → {E : Type 0} (base : Blocks) (old new : List Event) (l : Ledger) (t b : ℕ) (x : List ℕ) (r : Result ℕ E) (P : Blocks → Type 0) → AddsWrite b x r old new → IsConsistentWith base new l
    → ((img : Blocks) → StandsForOne l img → P img) → Window l.geom.n base old t P → Window l.geom.n base new t P
window_carried laws base old new l t b x r P adds keeps has w = by r adds
  where
    one : (e : Event) → new ≡ old ++ e ∷ [] → Window l.geom.n base new t P
    one e is = subst (λ (lg : List Event). Window l.geom.n base lg t P) (sym is)
        (window_goes_on l.geom.n base old e t P w (λ img honest. has img (stands_for_one laws base (old ++ e ∷ []) l img (subst (λ (lg : List Event). IsConsistentWith base lg l) is keeps) honest)))

    by : {E : Type 0} (r : Result ℕ E) → AddsWrite b x r old new → Window l.geom.n base new t P
    by (Ok u) a = one (Wrote u b x) a.2
    by (Err e) a = ⊎_elim (λ same. subst (λ (lg : List Event). Window l.geom.n base lg t P) (sym same) w) (λ lost. one (Lost b x) lost) a

-- and one that each of its points has holds in a safe disk's window
pub window_of_points : (s : MountedSession) (base : Blocks) (log : List Event) (l : Ledger) (t floor : ℕ) (P : Blocks → Type 0) → IsSafe s base log l t floor → ((img : Blocks) → ∥ HoldsPoint s base log floor (points_in s log) img ∥₁ → P img)
    → Window s.geom.n base log t P
window_of_points s base log l t floor P safe has = record {
  each = λ k img from upto honest. has img (subst (λ (top : ℕ). ∥ HoldsPoint s base log floor top img ∥₁) (last_is s.first (points_in s log) (next_number l) safe.points.count) (safe.window.each k img from upto honest));
}

-- a window reaches back to where each image held the map of an allowed point
pub window_reaches_back : (s : MountedSession) (base : Blocks) (log : List Event) (l : Ledger) (t floor since point : ℕ) (m : Blocks) → IsSafe s base log l t floor → IsPoint s base log point m → floor ≤ point → point ≤ points_in s log
    → Window s.geom.n base log since (λ img. HoldsUnder s.geom.n s.geom img m) → IsSafe s base log l since floor
window_reaches_back s base log l t floor since point m safe is from upto w = record {
  keeps = safe.keeps;
  points = safe.points;
  low = safe.low;
  window = record { each = λ k img start end honest. ∣ record { map = m; held = w.each k img start end honest; point = point; from = from; upto = omega (arith, upto, safe.points.count); is = is } ∣₁ };
}
