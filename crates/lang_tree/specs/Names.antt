-- What follows from the map of paths: how many paths a node has, which names a directory holds, and the map after a move. They are described in docs/TREE.md.
use Rattle.std.specs.Prelude.{ℕ, ◌+◌, ◌==◌, Bool, if◌then◌else◌, List, [], ◌∷◌, map}
use Rattle.std.specs.List.{filter_map, list_any}
use Rattle.std.specs.FinMap.{entries, from_entries}
use Rattle.lang_tree.specs.Tree.{Names}
use Rattle.lang_tree.specs.Paths.{name_in, is_below, moved_path}

-- how often the number is in the list
abbrev pub times : ℕ → List (List (List ℕ) × ℕ) → ℕ
times n [] = 0
times n (e ∷ es) = (if e.1 == n then 1 else 0) + times n es

-- how many paths lead to node n
abbrev pub path_count : Names → ℕ → ℕ
path_count names n = times n (entries names)

-- the names in the directory at that path, ascending by their bytes, as paths with one front do
abbrev pub names_in : Names → List (List ℕ) → List (List ℕ)
names_in names up = filter_map (λ e. name_in up e.0) (entries names)

-- whether some path lies below that one
abbrev pub holds_names : Names → List (List ℕ) → Bool
holds_names names top = list_any (λ e. is_below top e.0) (entries names)

-- every path at or below `from` moves to `to`
abbrev pub renamed : Names → List (List ℕ) → List (List ℕ) → Names
renamed names from to = from_entries (map (λ e. (moved_path from to e.0, e.1)) (entries names))
