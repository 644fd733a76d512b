-- A mark has come on a disk of a mirror, by the disk's own moments, exactly where the mirror's mark has come at the moment that stands for that.
use Rattle.std.proofs.Common.{◌≡◌, ℕ, ◌+◌, ◌≤◌, min, nat_le, Bool, true, false, true≢false, if◌then◌else◌, List, [], ◌∷◌, length, refl, sym, ◌∙◌, arith}
use Rattle.std.proofs.lemmas.Bool.{leb-true, leb-false, le-leb, lt-leb}
use Rattle.disk_mirror.specs.Times as mirror
use Rattle.disk_mirror.specs.Times.{came_by, moment_of, moment_on}
use Rattle.cmd_trace.specs.Trace.{Ascend}
use Rattle.cmd_mirror.specs.Sides.{Course, mirror_moment, own_moment}

-- the law of disk_mirror, both ways: the disk's own moment for the mirror's first j events is at most k exactly where these are among those of the moment that stands for k
pub record Comes : Type 0 where
  pub came : (j k : ℕ) (times : List ℕ) (live : Bool) (end : ℕ) → mirror.Ascend times → j ≤ length times → (live ≡ false → j ≤ end) → moment_on j times ≤ k → j ≤ moment_of live end k times
  pub back : (j k : ℕ) (times : List ℕ) (live : Bool) (end : ℕ) → j ≤ moment_of live end k times → moment_on j times ≤ k

-- two tests say the same where each follows from the other
same_test : (a b c d : ℕ) (v w : Bool) → nat_le a b ≡ v → nat_le c d ≡ w → (a ≤ b → c ≤ d) → (c ≤ d → a ≤ b) → v ≡ w
same_test a b c d true true x y there back = refl
same_test a b c d false false x y there back = refl
same_test a b c d true false x y there back = sym (le-leb c d (there (leb-true a b x))) ∙ y
same_test a b c d false true x y there back = sym x ∙ le-leb a b (back (leb-true c d y))

-- while the disk was live
live_test : Comes → (ts : List ℕ) (live : Bool) (end j k : ℕ) → mirror.Ascend ts → j ≤ length ts → (live ≡ false → j ≤ end) → nat_le (moment_on j ts) k ≡ nat_le j (moment_of live end k ts)
live_test law ts live end j k up low before = same_test (moment_on j ts) k j (moment_of live end k ts) (nat_le (moment_on j ts) k) (nat_le j (moment_of live end k ts)) refl refl (law.came j k ts live end up low before) (law.back j k ts live end)

-- where it is down
down_test : Comes → (ts : List ℕ) (end j k events : ℕ) (v : Bool) → nat_le j end ≡ v → mirror.Ascend ts → j ≤ length ts → k ≤ events → nat_le (if v then moment_on j ts else events + 1) k ≡ nat_le j (moment_of false end k ts)
down_test law ts end j k events true e up low within = live_test law ts false end j k up low (λ _. leb-true j end e)
down_test law ts end j k events false e up low within =
    lt-leb (events + 1) k (omega (arith, within)) ∙ sym (lt-leb j (min end (came_by k ts)) (omega (arith, leb-false j end e)))

side_test : Comes → (ts : List ℕ) (live : Bool) (end j k events : ℕ) → mirror.Ascend ts → j ≤ length ts → k ≤ events
    → nat_le (own_moment (record { times = ts; live = live; end = end }) events j) k ≡ nat_le j (moment_of live end k ts)
side_test law ts true end j k events up low within = live_test law ts true end j k up low (λ e. absurd (true≢false e))
side_test law ts false end j k events up low within = down_test law ts end j k events (nat_le j end) refl up low within

pub own_test : Comes → (c : Course) (j k events : ℕ) → mirror.Ascend c.times → j ≤ length c.times → k ≤ events → nat_le (own_moment c events j) k ≡ nat_le j (mirror_moment c k)
own_test law c j k events up low within = side_test law c.times c.live c.end j k events up low within

-- no more of the mirror's events had come than there are
came_low : (k : ℕ) (ts : List ℕ) → came_by k ts ≤ length ts
came_low k [] = omega arith
came_low k (t ∷ ts) = step (nat_le t k) (came_low k ts)
  where
    step : (v : Bool) → came_by k ts ≤ length ts → (if v then 1 + came_by k ts else 0) ≤ length (t ∷ ts)
    step true low = omega (arith, low)
    step false low = omega arith

moment_low : (live : Bool) (end k : ℕ) (ts : List ℕ) → moment_of live end k ts ≤ length ts
moment_low true end k ts = came_low k ts
moment_low false end k ts = omega (arith, came_low k ts)

pub mirror_low : (c : Course) (k : ℕ) → mirror_moment c k ≤ length c.times
mirror_low c k = moment_low c.live c.end k c.times

-- Moments that agree.

-- by the time k of the one and the time `at` of the other, the same of these moments have come
abbrev pub Agree : (ℕ → ℕ) → ℕ → ℕ → List ℕ → Type 0
Agree own k at [] = Unit {0}
Agree own k at (m ∷ ms) = (nat_le (own m) k ≡ nat_le m at) × Agree own k at ms

-- moments that ascend to the end are none past it
first_low : (from : ℕ) (moments : List ℕ) (events : ℕ) → Ascend from moments events → from ≤ events
first_low from [] events is = omega (arith, is)
first_low from (m ∷ ms) events up = omega (arith, up.0, first_low m ms events up.1)

pub agree : Comes → (c : Course) (k events from : ℕ) (moments : List ℕ) → mirror.Ascend c.times → k ≤ events → Ascend from moments (length c.times)
    → (nat_le (own_moment c events from) k ≡ nat_le from (mirror_moment c k)) × Agree (own_moment c events) k (mirror_moment c k) moments
agree law c k events from [] up within marks = (own_test law c from k events up (first_low from [] (length c.times) marks) within, tt)
agree law c k events from (m ∷ ms) up within marks =
    (own_test law c from k events up (first_low from (m ∷ ms) (length c.times) marks) within, agree law c k events m ms up within marks.1)
