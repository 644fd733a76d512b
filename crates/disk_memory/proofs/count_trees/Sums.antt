-- Sums of counts: each level of a tree of sums has the sum of the leaves.
use Rattle.std.proofs.Common.{◌≡◌, ℕ, zero, suc, ◌+◌, ◌-◌, ◌*◌, ◌^◌, ◌<◌, ◌≤◌, List, refl, sym, ap, ◌∙◌, arith}
use Rattle.std.specs.Prelude.{slice_index}
use Rattle.std.proofs.lemmas.Grind.{pow_more}
use Rattle.std.proofs.Math.Nat.{mul_assoc, mul_comm}
use Rattle.disk_memory.specs.Counts.{sum_from, AreSums, IsDoubled}

-- the sum of a part of one level is that of what stands below it
pub sum_below : (counts : List ℕ) (size p n : ℕ) → AreSums counts size → 0 < p → p + n ≤ size → sum_from counts (2 * p) (2 * n) ≡ sum_from counts p n
sum_below counts size p zero sums some within = refl
sum_below counts size p (suc n) sums some within =
    let rest = sum_below counts size p n sums some (omega arith) in
    let here = sums (p + n) (omega arith) (omega arith) in
    let first : slice_index counts (2 * p + 2 * n) ≡ slice_index counts (2 * (p + n)) = ap (slice_index counts) (omega arith) in
    let second : slice_index counts (2 * p + suc (2 * n)) ≡ slice_index counts (2 * (p + n) + 1) = ap (slice_index counts) (omega arith) in
    ap (sum_from counts (2 * p)) {x = 2 * suc n} {y = suc (suc (2 * n))} (omega arith) ∙ omega (arith, rest, here, first, second)

-- a doubled number is no smaller
pub doubled_up : (times a b : ℕ) → IsDoubled times a b → a ≤ b
doubled_up zero a b d = omega (arith, d)
doubled_up (suc times) a b d = omega (arith, doubled_up times (2 * a) b d)

-- a whole level has the sum of the leaves
pub level_sum : (counts : List ℕ) (size times p : ℕ) → AreSums counts size → 0 < p → IsDoubled times p size → sum_from counts p p ≡ sum_from counts size size
level_sum counts size zero p sums some d = ap (λ k. sum_from counts k k) d
level_sum counts size (suc times) p sums some d =
    sym (sum_below counts size p p sums some (omega (arith, doubled_up times (2 * p) size d))) ∙ level_sum counts size times (2 * p) sums (omega arith) d

-- leaves of 0 at the end add nothing
pub sum_later : (counts : List ℕ) (size n k : ℕ) → ((m : ℕ) → n ≤ m → slice_index counts (size + m) ≡ 0) → sum_from counts size (n + k) ≡ sum_from counts size n
sum_later counts size n zero later = ap (sum_from counts size) {x = n + zero} {y = n} (omega arith)
sum_later counts size n (suc k) later =
    ap (sum_from counts size) {x = n + suc k} {y = suc (n + k)} (omega arith) ∙ omega (arith, sum_later counts size n k later, later (n + k) (omega arith))

-- the root has the sum of the first leaves, where all later ones are 0
pub root_sum : (counts : List ℕ) (size times n : ℕ) → AreSums counts size → IsDoubled times 1 size → n ≤ size → ((m : ℕ) → n ≤ m → slice_index counts (size + m) ≡ 0) → slice_index counts 1 ≡ sum_from counts size n
root_sum counts size times n sums d few later =
    let all : sum_from counts size size ≡ sum_from counts size n = ap (sum_from counts size) {x = size} {y = n + (size - n)} (omega arith) ∙ sum_later counts size n (size - n) later in
    omega (arith, level_sum counts size times 1 sums (omega arith) d, all)

-- a number times a power of 2 is that number, doubled
pub doubled_power : (times a b : ℕ) → b ≡ a * 2 ^ times → IsDoubled times a b
doubled_power zero a b is = omega (arith, is)
doubled_power (suc times) a b is =
    let more : 2 ^ suc times ≡ 2 ^ times * 2 = ap (λ k. 2 ^ k) {x = suc times} {y = times + 1} (omega arith) ∙ pow_more 2 times in
    let moved : a * (2 ^ times * 2) ≡ a * 2 ^ times * 2 = sym (mul_assoc a (2 ^ times) 2) in
    doubled_power times (2 * a) b (is ∙ ap (λ k. a * k) more ∙ moved ∙ mul_comm (a * 2 ^ times) 2 ∙ sym (mul_assoc 2 a (2 ^ times)))
