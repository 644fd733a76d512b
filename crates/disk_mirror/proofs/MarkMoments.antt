-- A mark of the mirror has come on a disk exactly by the disk's own mark of it.
use Rattle.std.proofs.Common.{◌≡◌, ℕ, zero, suc, ◌+◌, ◌≤◌, nat_le, Bool, true, false, if◌then◌else◌, List, [], ◌∷◌, length, get_or, refl, sym, subst, arith}
use Rattle.disk_mirror.specs.Times.{AreFrom, Ascend, came_by, moment_of, moment_on}

le_true : (t k : ℕ) → t ≤ k → nat_le t k ≡ true
le_true t k low = grind (arith, low)

-- each later one is at least the first
from_at : (m : ℕ) (ts : List ℕ) (i : ℕ) → i + 1 ≤ length ts → AreFrom m ts → m ≤ get_or ts i 0
from_at m [] i low up = absurd (none i low)
  where
    none : (i : ℕ) → i + 1 ≤ 0 → ⊥
    none i low = omega (arith, low)
from_at m (t ∷ ts) zero low up = up.0
from_at m (t ∷ ts) (suc i) low up = from_at m ts i (omega (arith, low)) up.1

came_then : (j k : ℕ) (times : List ℕ) → Ascend times → j ≤ length times → moment_on j times ≤ k → j ≤ came_by k times
came_then zero k times up low by = omega arith
came_then (suc j) k [] up low by = absurd (none j low)
  where
    none : (j : ℕ) → suc j ≤ 0 → ⊥
    none j low = omega (arith, low)
came_then (suc zero) k (t ∷ ts) up low by = subst (λ v. 1 ≤ (if v then 1 + came_by k ts else 0)) (sym (le_true t k by)) (omega arith)
came_then (suc (suc j)) k (t ∷ ts) up low by =
    let rest = came_then (suc j) k ts up.1 (omega (arith, low)) by in
    let first = from_at t ts j (omega (arith, low)) up.0 in
    subst (λ v. suc (suc j) ≤ (if v then 1 + came_by k ts else 0)) (sym (le_true t k (omega (arith, first, by)))) (omega (arith, rest))

-- one event of the mirror more
came_step : (j k t : ℕ) (ts : List ℕ) → (v : Bool) → nat_le t k ≡ v → suc j ≤ (if v then 1 + came_by k ts else 0) → (j ≤ came_by k ts → moment_on j ts ≤ k) → get_or (t ∷ ts) j 0 ≤ k
came_step j k t ts false e low more = absurd (none j low)
  where
    none : (j : ℕ) → suc j ≤ 0 → ⊥
    none j low = omega (arith, low)
came_step zero k t ts true e low more = under t k e
  where
    under : (t k : ℕ) → nat_le t k ≡ true → t ≤ k
    under t k e = grind (arith, e)
came_step (suc j) k t ts true e low more = more (omega (arith, low))

then_came : (j k : ℕ) (times : List ℕ) → j ≤ came_by k times → moment_on j times ≤ k
then_came zero k times by = omega arith
then_came (suc j) k [] by = absurd (none j by)
  where
    none : (j : ℕ) → suc j ≤ 0 → ⊥
    none j by = omega (arith, by)
then_came (suc j) k (t ∷ ts) by = came_step j k t ts (nat_le t k) refl by (then_came j k ts)

-- the same by the moment that stands for k
pub mark_came : (j k : ℕ) (times : List ℕ) (live : Bool) (end : ℕ) → Ascend times → j ≤ length times → (live ≡ false → j ≤ end) → moment_on j times ≤ k → j ≤ moment_of live end k times
mark_came j k times true end up low before by = came_then j k times up low by
mark_came j k times false end up low before by = omega (arith, came_then j k times up low by, before refl)

pub came_mark : (j k : ℕ) (times : List ℕ) (live : Bool) (end : ℕ) → j ≤ moment_of live end k times → moment_on j times ≤ k
came_mark j k times true end by = then_came j k times by
came_mark j k times false end by = then_came j k times (omega (arith, by))

-- and moments ascend
pub marks_order : (i j : ℕ) (times : List ℕ) → Ascend times → i ≤ j → j ≤ length times → moment_on i times ≤ moment_on j times
marks_order i j times up low within =
    let all = came_then j (moment_on j times) times up within (omega arith) in
    then_came i (moment_on j times) times (omega (arith, low, all))
