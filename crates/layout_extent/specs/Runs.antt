-- A list of block numbers as its runs of neighbours. It is described in docs/LAYOUT.md.
use Rattle.std.specs.Prelude.{◌≢◌, ℕ, ◌+◌, ◌<◌, ◌≤◌, Bool, not, ◌==◌, ⊤, if◌then◌else◌, List, [], ◌∷◌}
use Rattle.std.specs.List.{All, zip, count_by}
use Rattle.base_types.specs.declared.places.Run.{Run}

-- the most blocks of a disk, all of whose numbers lie below it
abbrev pub most_blocks : ℕ
most_blocks = 1048576

-- the second of two neighbours isn't one more than the first
abbrev pub is_break : ℕ × ℕ → Bool
is_break p = not (p.1 == p.0 + 1)

-- how many stretches a list has: its first place begins one, and so does each place whose number isn't one more than the number before
abbrev pub stretches : List ℕ → ℕ
stretches [] = 0
stretches (x ∷ xs) = 1 + count_by is_break (zip (x ∷ xs) xs)

-- a number before the runs of those behind it: it joins the first run where that begins one above it
abbrev pub before_runs : ℕ → List Run → List Run
before_runs x [] = record { first = x; count = 1 } ∷ []
before_runs x (r ∷ rs) = if r.first == x + 1 then record { first = x; count = r.count + 1 } ∷ rs else record { first = x; count = 1 } ∷ r ∷ rs

-- the runs of a list: its longest stretches of numbers each one more than the one before
abbrev pub runs_of : List ℕ → List Run
runs_of [] = []
runs_of (x ∷ xs) = before_runs x (runs_of xs)

-- tidy runs: each has numbers, and none begins right behind the end of the one before
abbrev pub AreTidy : List Run → Type 0
AreTidy [] = ⊤
AreTidy (r ∷ []) = 0 < r.count
AreTidy (r ∷ s ∷ rs) = (0 < r.count) × (s.first ≢ r.first + r.count) × AreTidy (s ∷ rs)

-- all numbers of the runs lie below this one
abbrev pub LieBelow : ℕ → List Run → Type 0
LieBelow n rs = All (λ r. r.first + r.count ≤ n) rs
