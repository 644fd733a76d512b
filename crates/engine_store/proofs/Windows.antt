-- What crashes leave of a session whose disk is safe, as the contract of maps of blocks says it.
use Rattle.std.proofs.Common.{◌≡◌, ◌⊎◌, ◌↔◌, inl, inr, ⊎_elim, ℕ, ◌-◌, ◌≤◌, false, List, [], ◌∷◌, ◌++◌, length, drop, refl, sym, ap, subst, arith}
use Rattle.std.proofs.Math.Logic.{∥∥₁_map}
use Rattle.std.proofs.lemmas.List.{take-append-le, drop-append-le}
use Rattle.std.proofs.lemmas.Bool.{cases_lt}
use mathlib.Core.Path.{fun_ext}
use Rattle.base_types.specs.Seal.{Blocks}
use Rattle.disk_contract.specs.declared.event.Event.{Event}
use Rattle.disk_contract.specs.declared.event.Event.TheVariants.{Wrote, Lost, Noticed}
use Rattle.disk_contract.specs.Cell.{accepted, is_lost}
use Rattle.disk_contract.specs.Crash.{IsHonest}
use Rattle.disk_contract.specs.Disk.{Grows}
use Rattle.layout_geometry.specs.Geometry.{Geometry}
use Rattle.layout_journal.specs.Run.{HeldIs, live_part}
use Rattle.crash_argument.specs.Ledger.{Ledger, HoldsUnder, issued, next_number}
use Rattle.crash_argument.specs.Points.{MountedSession, IsPoint, HoldsPoint, IsSafe, commits, points_in}
use Rattle.engine_blocks.specs.State.{Bookkeeping, Counts}
use Rattle.engine_blocks.specs.Crashes.{Advances, AwaitsSince, HoldsPointBetween, IssuesNothing, StandsForLast}
use Rattle.engine_store.specs.declared.parts.StoreParts.{StoreParts}
use Rattle.engine_store.specs.SessionView.{LeftImage, state_of}
use Rattle.engine_store.specs.Told.{awaited_in}

-- What crash_argument promises of points and calls, and layout_journal of maps.
abbrev pub Stays : Type 0
Stays = (s : MountedSession) (base : Blocks) (log more : List Event) (p : ℕ) (m : Blocks) → IsPoint s base log p m → IsPoint s base (log ++ more) p m

abbrev pub Was : Type 0
Was = (s : MountedSession) (base : Blocks) (log more : List Event) (p : ℕ) (m : Blocks) → s.mounted ≤ length log → p ≤ points_in s log → IsPoint s base (log ++ more) p m → IsPoint s base log p m

abbrev pub BeginsSafe : Type 0
BeginsSafe = (s : MountedSession) (base : Blocks) (log : List Event) (l : Ledger) (t floor : ℕ) → IsSafe s base log l t floor → IsSafe s base log l (length log) (l.known - s.first)

abbrev pub IssuedHolds : Type 0
IssuedHolds = (s : MountedSession) (base : Blocks) (log : List Event) (l : Ledger) (t floor : ℕ) → IsSafe s base log l t floor → HoldsUnder l.geom.n l.geom (issued base log) (live_part l.geom (l.map_before (next_number l)))

abbrev pub LastIs : Type 0
LastIs = (s : MountedSession) (base : Blocks) (log : List Event) (l : Ledger) (t floor : ℕ) → IsSafe s base log l t floor → IsPoint s base log (points_in s log) (live_part l.geom (l.map_before (next_number l)))

abbrev pub OneMap : Type 0
OneMap = (n : ℕ) (img m q : Blocks) → HeldIs n img m → HeldIs n img q → (b : ℕ) → m b ≡ q b

abbrev pub ReadsLast : Type 0
ReadsLast = (base : Blocks) (log : List Event) (b : ℕ) → is_lost b log ≡ false → accepted base log b ≡ issued base log b

-- a longer log has no fewer commit blocks
commits_more : (g : Geometry) (epoch : ℕ) (xs ys : List Event) → commits g epoch xs ≤ commits g epoch (xs ++ ys)
commits_more g epoch [] ys = omega arith
commits_more g epoch (Wrote t b x ∷ xs) ys = omega (arith, commits_more g epoch xs ys)
commits_more g epoch (Lost b x ∷ xs) ys = omega (arith, commits_more g epoch xs ys)
commits_more g epoch (Noticed t ∷ xs) ys = commits_more g epoch xs ys

-- so it has no fewer points
pub points_more : (s : MountedSession) (xs ys : List Event) → s.mounted ≤ length xs → points_in s xs ≤ points_in s (xs ++ ys)
points_more s xs ys late = omega (arith, commits_more s.geom s.epoch (drop s.mounted xs) ys, ap (commits s.geom s.epoch) (drop-append-le s.mounted xs ys late))

-- the last point is the number of commit blocks
pub points_are : (s : MountedSession) (base : Blocks) (log : List Event) (l : Ledger) (t floor p : ℕ) → IsSafe s base log l t floor → p ≡ next_number l - s.first → points_in s log ≡ p
points_are s base log l t floor p safe is = omega (arith, safe.points.count, is)

-- what was left by a moment of the old log, or since
pub by_moment : (s : MountedSession) (base : Blocks) (log more : List Event) (t : ℕ) (img : Blocks) → LeftImage s base (log ++ more) t img → LeftImage s base log t img ⊎ LeftImage s base (log ++ more) (length log) img
by_moment s base log more t img left = ⊎_elim
    (λ high. inr (record { moment = left.moment; from = omega (arith, high); within = left.within; honest = left.honest }))
    (λ low. inl (record {
      moment = left.moment;
      from = left.from;
      within = low;
      honest = subst (λ (es : List Event). IsHonest s.geom.n base es img) (take-append-le left.moment log more low) left.honest;
    }))
    (cases_lt (length log) left.moment)

-- what is left in the window of a safe disk holds a point
pub in_window : (s : MountedSession) (base : Blocks) (log : List Event) (l : Ledger) (t floor u low : ℕ) (k : Bookkeeping) (c : Counts) (m img : Blocks) (w : StoreParts) → IsSafe s base log l t floor → t ≤ u → low ≤ floor → next_number l - s.first ≤ k.point → LeftImage s base log u img → ∥ HoldsPointBetween (state_of s k c m base log (awaited_in w)) low k.point img ∥₁
in_window s base log l t floor u low k c m img w safe early lower last left =
    ∥∥₁_map (safe.window.each left.moment img (omega (arith, early, left.from)) left.within left.honest)
    (λ (h : HoldsPoint s base log floor (next_number l - s.first) img). record { point = h.point; from = omega (arith, h.from, lower); upto = omega (arith, h.upto, last); map = h.map; holds = h.held; is = ∣ h.is ∣₁ })

-- a crash now leaves a point from the floor on
pub told_of : BeginsSafe → (s : MountedSession) (base : Blocks) (log : List Event) (l : Ledger) (k : Bookkeeping) (c : Counts) (m : Blocks) (w : StoreParts) (t floor : ℕ) (img : Blocks) → IsSafe s base log l t floor → k.floor ≤ l.known - s.first → next_number l - s.first ≤ k.point → LeftImage s base log (length log) img → ∥ HoldsPointBetween (state_of s k c m base log (awaited_in w)) k.floor k.point img ∥₁
told_of begins s base log l k c m w t floor img safe lower last left = in_window s base log l (length log) (l.known - s.first) (length log) k.floor k c m img w (begins s base log l t floor safe) (omega arith) lower last left

-- time goes on as the log does
goes_on : Stays → Was → (s : MountedSession) (base : Blocks) (log more : List Event) (l n : Ledger) (j k : Bookkeeping) (c d : Counts) (a b : Blocks) (v w : StoreParts) (t floor since low : ℕ) → IsSafe s base log l t floor → IsSafe s base (log ++ more) n since low → since ≤ length log → j.floor ≤ low
    → j.point ≡ next_number l - s.first → next_number n - s.first ≤ k.point → j.floor ≤ k.floor → ((p u : ℕ) → awaited_in w p u → awaited_in v p u ⊎ AwaitsSince (state_of s j c a base log (awaited_in v)) p u) → Advances (state_of s j c a base log (awaited_in v)) (state_of s k d b base (log ++ more) (awaited_in w))
goes_on stays was s base log more l n j k c d a b v w t floor since low before after early lower first last floors awaits = record {
  base = refl;
  grows = record { more = more; log = refl };
  window = window;
  earlier = λ u img from left. ⊎_elim (λ old. inl old) (λ new. inr (window img new)) (by_moment s base log more u img left);
  holds = λ img m. (λ is. is, λ is. is);
  sure = λ log p. (λ is. is, λ is. is);
  records = record { told = refl; starts = λ log n. (λ is. is, λ is. is) };
  point = λ p m le. (λ is. ∥∥₁_map is (was s base log more p m before.points.late (omega (arith, le, count))), λ is. ∥∥₁_map is (stays s base log more p m));
  last = omega (arith, count, points_are s base (log ++ more) n since low (next_number n - s.first) after refl, last, points_more s log more before.points.late);
  floor = floors;
  awaits = awaits;
}
  where
    count : points_in s log ≡ j.point
    count = points_are s base log l t floor j.point before first

    window : (img : Blocks) → LeftImage s base (log ++ more) (length log) img → ∥ HoldsPointBetween (state_of s k d b base (log ++ more) (awaited_in w)) j.floor k.point img ∥₁
    window img left = in_window s base (log ++ more) n since low (length log) j.floor k d b img w after early lower last left

pub advances_of : Stays → Was → (s : MountedSession) (base : Blocks) (old new : List Event) (l n : Ledger) (j k : Bookkeeping) (c d : Counts) (a b : Blocks) (v w : StoreParts) (t floor since low : ℕ) → IsSafe s base old l t floor → Grows old new → IsSafe s base new n since low → since ≤ length old → j.floor ≤ low
    → j.point ≡ next_number l - s.first → next_number n - s.first ≤ k.point → j.floor ≤ k.floor → ((p u : ℕ) → awaited_in w p u → awaited_in v p u ⊎ AwaitsSince (state_of s j c a base old (awaited_in v)) p u) → Advances (state_of s j c a base old (awaited_in v)) (state_of s k d b base new (awaited_in w))
advances_of stays was s base old new l n j k c d a b v w t floor since low before grows after early lower first last floors awaits =
    subst (λ (log : List Event). Advances (state_of s j c a base old (awaited_in v)) (state_of s k d b base log (awaited_in w))) (sym grows.log)
    (goes_on stays was s base old grows.more l n j k c d a b v w t floor since low before (subst (λ (log : List Event). IsSafe s base log n since low) grows.log after) early lower first last floors awaits)

-- all that was issued is the last point
pub last_of : IssuedHolds → LastIs → OneMap → (s : MountedSession) (base : Blocks) (log : List Event) (l : Ledger) (k : Bookkeeping) (c : Counts) (m : Blocks) (w : StoreParts) (t floor : ℕ) → IsSafe s base log l t floor → k.point ≡ next_number l - s.first → StandsForLast (state_of s k c m base log (awaited_in w))
last_of issued_holds last_is one_map s base log l k c m w t floor safe last = record {
  some = ∣ (newest, held) ∣₁;
  each = λ q is. ∣ subst (λ (x : Blocks). IsPoint s base log k.point x) (fun_ext (λ b. one_map s.geom.n (issued base log) newest q held.held is.held b))
      (subst (λ (p : ℕ). IsPoint s base log p newest) (points_are s base log l t floor k.point safe last) (last_is s base log l t floor safe)) ∣₁;
}
  where
    newest : Blocks
    newest = live_part l.geom (l.map_before (next_number l))

    held : HoldsUnder s.geom.n s.geom (issued base log) newest
    held = subst (λ (g : Geometry). HoldsUnder g.n g (issued base log) newest) (sym safe.points.geom) (issued_holds s base log l t floor safe)

-- where no write was lost, all that was issued is all that was accepted
pub accepted_of : ReadsLast → (s : MountedSession) (base : Blocks) (log : List Event) (w : StoreParts) (m : Blocks) → ((b : ℕ) → is_lost b log ≡ false) → HoldsUnder s.geom.n s.geom (issued base log) m ↔ HoldsUnder s.geom.n s.geom (accepted base log) m
accepted_of reads s base log w m none =
    let same : accepted base log ≡ issued base log = fun_ext (λ b. reads base log b (none b)) in
    (λ is. subst (λ (img : Blocks). HoldsUnder s.geom.n s.geom img m) (sym same) is, λ is. subst (λ (img : Blocks). HoldsUnder s.geom.n s.geom img m) same is)

-- where the log stays, nothing is issued
pub nothing_of : (s : MountedSession) (base : Blocks) (old new : List Event) (j k : Bookkeeping) (c d : Counts) (a b : Blocks) (v w : StoreParts) → new ≡ old → ((p u : ℕ) → awaited_in w p u ↔ awaited_in v p u) → IssuesNothing (state_of s j c a base old (awaited_in v)) (state_of s k d b base new (awaited_in w))
nothing_of s base old new j k c d a b v w same awaits = subst (λ (log : List Event). IssuesNothing (state_of s j c a base old (awaited_in v)) (state_of s k d b base log (awaited_in w))) (sym same) (record {
  base = refl;
  log = refl;
  point = λ p m. (λ is. is, λ is. is);
  left = λ t img. (λ is. is, λ is. is);
  holds = λ img m. (λ is. is, λ is. is);
  sure = λ log p. (λ is. is, λ is. is);
  records = record { told = refl; starts = λ log n. (λ is. is, λ is. is) };
  issued = λ m. (λ is. is, λ is. is);
  awaits = awaits;
})
