-- How the statement on each moment goes on, event by event.
use Rattle.std.proofs.Common.{◌≡◌, ⊎_elim, ℕ, ◌+◌, ◌-◌, ◌≤◌, List, [], ◌∷◌, ◌++◌, length, take, sym, ◌∙◌, subst, arith, length-append}
use Rattle.std.proofs.Math.Logic.{∥∥₁_map}
use Rattle.std.proofs.lemmas.List.{take-append-le, take_all}
use Rattle.std.proofs.lemmas.Bool.{cases_lt}
use mathlib.Core.Path.{fun_ext}
use Rattle.base_types.specs.Seal.{Blocks}
use Rattle.disk_contract.specs.declared.event.Event.{Event}
use Rattle.disk_contract.specs.Crash.{IsHonest}
use Rattle.layout_geometry.specs.Geometry.{Geometry}
use Rattle.layout_journal.specs.Run.{live_part, HeldIs}
use Rattle.crash_argument.specs.JournalLaws.{JournalLaws}
use Rattle.crash_argument.specs.Ledger.{Ledger, HoldsUnder, IsConsistentWith, next_number}
use Rattle.crash_argument.specs.Points.{MountedSession, IsPoint, HoldsPoint, StandsBetween, HasPoints, IsSafe, commits, points_in}
use Rattle.crash_argument.proofs.theorem.Whole.{stands_for_one}
use Rattle.crash_argument.proofs.steps.PointSteps.{point_stays, points_in-append}
use Rattle.crash_argument.proofs.steps.KnownPoints.{noticed_stays}
use Rattle.crash_argument.proofs.steps.Told.{tells_still}

-- an image of this moment holds the map of a point
now_holds : JournalLaws → (s : MountedSession) (base : Blocks) (log : List Event) (l : Ledger) (img : Blocks) → IsConsistentWith base log l → HasPoints s base log l → IsHonest s.geom.n base log img → HoldsPoint s base log (l.known - s.first) (next_number l - s.first) img
now_holds laws s base log l img k p honest =
    let one = stands_for_one laws base log l img k (subst (λ (g : Geometry). IsHonest g.n base log img) p.geom honest) in
    record {
      map = live_part l.geom (l.map_before one.number);
      held = subst (λ (g : Geometry). HoldsUnder g.n g img (live_part l.geom (l.map_before one.number))) (sym p.geom) one.held;
      point = one.number - s.first;
      from = omega (arith, one.known);
      upto = omega (arith, one.issued);
      is = p.each one.number one.known one.issued;
    }

-- a point within bounds is within wider ones
widen : (s : MountedSession) (base : Blocks) (log : List Event) (floor top low high : ℕ) (img : Blocks) → low ≤ floor → top ≤ high → HoldsPoint s base log floor top img → HoldsPoint s base log low high img
widen s base log floor top low high img le ge i = record { map = i.map; held = i.held; point = i.point; from = omega (arith, i.from); upto = omega (arith, i.upto); is = i.is }

-- and in a longer log
longer : (s : MountedSession) (base : Blocks) (log more : List Event) (floor top : ℕ) (img : Blocks) → HoldsPoint s base log floor top img → HoldsPoint s base (log ++ more) floor top img
longer s base log more floor top img i = record { map = i.map; held = i.held; point = i.point; from = i.from; upto = i.upto; is = point_stays s base log more i.point i.map i.is }

-- what a crash from this moment on leaves holds a point, from what is known to the newest
pub between_start : JournalLaws → (s : MountedSession) (base : Blocks) (log : List Event) (l : Ledger) → IsConsistentWith base log l → HasPoints s base log l → StandsBetween s base log (length log) (l.known - s.first) (next_number l - s.first)
between_start laws s base log l k p = record {
  each = λ at img from within honest. ∣ now_holds laws s base log l img k p (subst (λ (lg : List Event). IsHonest s.geom.n base lg img) (take_all at log from) honest) ∣₁;
}

-- one event more
pub between_more : JournalLaws → (s : MountedSession) (base : Blocks) (log : List Event) (e : Event) (l : Ledger) (t floor top high : ℕ) → StandsBetween s base log t floor top → IsConsistentWith base (log ++ e ∷ []) l → HasPoints s base (log ++ e ∷ []) l
    → floor ≤ l.known - s.first → next_number l - s.first ≤ high → top ≤ high → StandsBetween s base (log ++ e ∷ []) t floor high
between_more laws s base log e l t floor top high w k p le ge up = record {
  each = λ at img from within honest. ⊎_elim (λ new. ∣ widen s base (log ++ e ∷ []) _ _ floor high img le ge (now_holds laws s base (log ++ e ∷ []) l img k p (subst (λ (lg : List Event). IsHonest s.geom.n base lg img) (take_all at (log ++ e ∷ []) (omega (arith, new, length-append log (e ∷ [])))) honest)) ∣₁)
      (λ old. ∥∥₁_map (w.each at img from old (subst (λ (lg : List Event). IsHonest s.geom.n base lg img) (take-append-le at log (e ∷ []) old) honest))
      (λ i. widen s base (log ++ e ∷ []) floor top floor high img (omega arith) up (longer s base log (e ∷ []) floor top img i)))
      (cases_lt (length log) at);
}

-- the points of a ledger that stays, an event on that is no commit block
pub points_stay : (s : MountedSession) (base : Blocks) (log : List Event) (e : Event) (l : Ledger) → commits s.geom s.epoch (e ∷ []) ≡ 0 → HasPoints s base log l → HasPoints s base (log ++ e ∷ []) l
points_stay s base log e l none p = record {
  geom = p.geom;
  epoch = p.epoch;
  first = p.first;
  late = omega (arith, p.late, length-append log (e ∷ []));
  count = omega (arith, points_in-append s log (e ∷ []) p.late, none, p.count);
  told = tells_still s log e l p.late none p.told;
  each = λ n low high. point_stays s base log (e ∷ []) (n - s.first) _ (p.each n low high);
  noticed = λ q some le. noticed_stays s base log (e ∷ []) q (p.noticed q some le);
}

-- the last point has the number of commit blocks
pub last_is : (first made next : ℕ) → first + made ≡ next → next - first ≡ made
last_is first made next e = omega (arith, e)

-- what a crash at a moment of the window leaves holds a point, up to the last one
pub crash_holds : (s : MountedSession) (base : Blocks) (log : List Event) (l : Ledger) (t floor k : ℕ) (img : Blocks) → IsSafe s base log l t floor → t ≤ k → k ≤ length log → IsHonest s.geom.n base (take k log) img → ∥ HoldsPoint s base log floor (points_in s log) img ∥₁
crash_holds s base log l t floor k img safe from within honest = subst (λ (top : ℕ). ∥ HoldsPoint s base log floor top img ∥₁) (last_is s.first (points_in s log) (next_number l) safe.points.count) (safe.window.each k img from within honest)

-- and each map that it holds is that of one
pub crash_each : JournalLaws → (s : MountedSession) (base : Blocks) (log : List Event) (l : Ledger) (t floor k : ℕ) (img m : Blocks) → IsSafe s base log l t floor → t ≤ k → k ≤ length log → IsHonest s.geom.n base (take k log) img → HeldIs s.geom.n img m
    → ∥ ((p : ℕ) × (floor ≤ p) × (p ≤ points_in s log) × IsPoint s base log p m) ∥₁
crash_each laws s base log l t floor k img m safe from within honest held =
    ∥∥₁_map (crash_holds s base log l t floor k img safe from within honest)
    (λ h. (h.point, h.from, h.upto, subst (λ (q : Blocks). IsPoint s base log h.point q) (fun_ext (λ b. laws.one_map s.geom.n img _ _ h.held.held held b)) h.is))
