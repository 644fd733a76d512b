-- The counts that a set of numbers is kept as: a tree in a list, whose root is at 1, and below place p the places 2 p and 2 p + 1. Its leaves are the places from `size` on, one for each number.
use Rattle.std.specs.Prelude.{◌≡◌, ℕ, zero, suc, ◌+◌, ◌*◌, ◌≤◌, ◌<◌, ◌==◌, if◌then◌else◌, List, [], ◌∷◌, ◌++◌, length, slice_index}

-- the numbers from 1 to n whose leaf is 1
abbrev pub marked : List ℕ → ℕ → ℕ → List ℕ
marked counts size zero = []
marked counts size (suc n) = if slice_index counts (size + n) == 1 then marked counts size n ++ (n + 1) ∷ [] else marked counts size n

-- the sum of n counts from place p on
abbrev pub sum_from : List ℕ → ℕ → ℕ → ℕ
sum_from counts p zero = 0
sum_from counts p (suc n) = sum_from counts p n + slice_index counts (p + n)

-- the second number is the first one, doubled so often
abbrev pub IsDoubled : ℕ → ℕ → ℕ → Type 0
IsDoubled zero a b = a ≡ b
IsDoubled (suc times) a b = IsDoubled times (2 * a) b

-- each place above the leaves has the sum of the two below it
abbrev pub AreSums : List ℕ → ℕ → Type 0
AreSums counts size = (p : ℕ) → 0 < p → p < size → slice_index counts p ≡ slice_index counts (2 * p) + slice_index counts (2 * p + 1)

-- each leaf is 0 or 1
abbrev pub AreMarks : List ℕ → ℕ → Type 0
AreMarks counts size = (n : ℕ) → slice_index counts (size + n) ≤ 1

-- the counts fit one another and the numbers that joined
pub record IsKept (counts : List ℕ) (size joined most : ℕ) : Type 0 where
  pub times : ℕ
  pub doubled : IsDoubled times 1 size
  pub twice : length counts ≡ 2 * size
  pub room : most ≤ size
  pub short : most ≤ 4294967295
  pub few : joined ≤ most
  pub sums : AreSums counts size
  pub marks : AreMarks counts size
  pub later : (n : ℕ) → joined ≤ n → slice_index counts (size + n) ≡ 0
  pub small : (p : ℕ) → slice_index counts p ≤ joined
