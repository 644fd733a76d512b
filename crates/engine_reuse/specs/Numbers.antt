-- Lists of numbers, and sets of them.
use Rattle.std.specs.Prelude.{ℕ, ◌==◌, Bool, List}
use Rattle.std.specs.List.{filter, list_any, range_with_len}

-- the number is one of these
abbrev pub is_among : ℕ → List ℕ → Bool
is_among b xs = list_any (λ x. x == b) xs

-- the numbers below a limit that pass the test, ascending
abbrev pub numbers_below : ℕ → (ℕ → Bool) → List ℕ
numbers_below limit test = filter test (range_with_len 0 limit)

-- a set of numbers below a limit: its members, ascending
pub record NumberSet : Type 0 where
  pub limit : ℕ
  pub members : List ℕ

-- the set of all numbers below the limit that pass the test
abbrev pub set_of : ℕ → (ℕ → Bool) → NumberSet
set_of limit test = record { limit = limit; members = numbers_below limit test }
