-- Which number goes on with the last run of a list.
use Rattle.std.specs.Prelude.{ℕ, ◌+◌, Bool, false, ◌==◌, List, [], ◌∷◌, Option, Some, None}

-- one more than the last number, or else this one
abbrev pub next_after : Option ℕ → List ℕ → Option ℕ
next_after next [] = next
next_after next (x ∷ xs) = next_after (Some (x + 1)) xs

-- one more than the last number of a list, where it has one
abbrev pub next_number : List ℕ → Option ℕ
next_number xs = next_after None xs

-- whether a number is the one that goes on
abbrev pub goes_on : Option ℕ → ℕ → Bool
goes_on None x = false
goes_on (Some next) x = x == next
