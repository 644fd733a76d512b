-- Paths as lists of names: which lie below which, which names are too long, and where a path comes to lie when what it leads through moves. They are described in docs/TREE.md.
use Rattle.std.specs.Prelude.{ℕ, ◌-◌, Bool, true, false, if◌then◌else◌, List, [], ◌∷◌, ◌++◌, length, nat_lt, take, slice_get, bytes_eq, is_some, Option, None, Some}
use Rattle.base_types.specs.declared.layout.Layout.{Layout}
use Rattle.base_types.specs.Layouts.{longest_name}

-- what is left of a path behind another one with which it begins
abbrev pub strip : List (List ℕ) → List (List ℕ) → Option (List (List ℕ))
strip [] path = Some path
strip (a ∷ front) [] = None
strip (a ∷ front) (b ∷ path) = if bytes_eq a b then strip front path else None

-- whether the second path is the first one or lies below it
abbrev pub is_within : List (List ℕ) → List (List ℕ) → Bool
is_within top path = is_some (strip top path)

abbrev pub has_names : Option (List (List ℕ)) → Bool
has_names (Some (name ∷ names)) = true
has_names _ = false

-- whether the second path lies below the first one
abbrev pub is_below : List (List ℕ) → List (List ℕ) → Bool
is_below top path = has_names (strip top path)

abbrev pub lone_name : Option (List (List ℕ)) → Option (List ℕ)
lone_name (Some (name ∷ [])) = Some name
lone_name _ = None

-- the last name of a path that lies in the directory at `up` itself
abbrev pub name_in : List (List ℕ) → List (List ℕ) → Option (List ℕ)
name_in up path = lone_name (strip up path)

-- all names of a path but the last
abbrev pub parent : List (List ℕ) → List (List ℕ)
parent path = take (length path - 1) path

-- the last name of a path. The root has none
abbrev pub last_name : List (List ℕ) → Option (List ℕ)
last_name path = slice_get path (length path - 1)

-- whether a name has more bytes than one in a directory of the layout may have
abbrev pub is_long : Layout → Option (List ℕ) → Bool
is_long l None = false
is_long l (Some name) = nat_lt (longest_name l) (length name)

-- whether the last name of a path is too long for the layout
abbrev pub is_too_long : Layout → List (List ℕ) → Bool
is_too_long l path = is_long l (last_name path)

abbrev pub moved_by : List (List ℕ) → List (List ℕ) → Option (List (List ℕ)) → List (List ℕ)
moved_by to path None = path
moved_by to path (Some rest) = to ++ rest

-- where a path lies after the move: at or below `from` it begins with `to` in its place, and elsewhere it is as it was
abbrev pub moved_path : List (List ℕ) → List (List ℕ) → List (List ℕ) → List (List ℕ)
moved_path from to path = moved_by to path (strip from path)
