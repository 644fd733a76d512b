-- The numbers of runs. They are described in docs/LAYOUT.md.
use Rattle.std.specs.Prelude.{ℕ, zero, suc, ◌+◌, List, [], ◌∷◌, ◌++◌}
use Rattle.base_types.specs.declared.places.Run.{Run}

-- so many neighbouring numbers, from the first one on
abbrev pub blocks_from : ℕ → ℕ → List ℕ
blocks_from first zero = []
blocks_from first (suc n) = first ∷ blocks_from (first + 1) n

-- the numbers of runs, in order
abbrev pub run_places : List Run → List ℕ
run_places [] = []
run_places (r ∷ rs) = blocks_from r.first r.count ++ run_places rs
