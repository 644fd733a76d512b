-- The walk from the root, name by name, and what is at a path. It is described in docs/TREE.md.
use Rattle.std.specs.Prelude.{ℕ, ◌==◌, Bool, true, false, if◌then◌else◌, List, [], ◌∷◌, ◌++◌, is_some, Option, None, Some, option_and_then, Result, Ok, Err}
use Rattle.std.specs.FinMap.{get}
use Rattle.lang_tree.specs.declared.command.Refusal.{Refusal}
use Rattle.lang_tree.specs.declared.command.Refusal.TheVariants.{NotFound, NotDir}
use Rattle.lang_tree.specs.Tree.{Tree, Thing, Dir, File}
use Rattle.lang_tree.specs.Paths.{parent}
use Rattle.lang_tree.specs.Names.{path_count}

-- whether something is there that is a directory
abbrev pub is_dir : Option Thing → Bool
is_dir (Some Dir) = true
is_dir _ = false

-- whether something is there that is a file
abbrev pub is_file : Option Thing → Bool
is_file (Some (File bytes)) = true
is_file _ = false

-- from a directory to what is under a name there, and on
abbrev pub enter : Bool → Option ℕ → (ℕ → Result ℕ Refusal) → Result ℕ Refusal
enter false found on = Err NotDir
enter true None on = Err NotFound
enter true (Some n) on = on n

-- the walk that has come to `here`, which is node n, and has the names `rest` to go
abbrev pub walk_from : Tree → List (List ℕ) → ℕ → List (List ℕ) → Result ℕ Refusal
walk_from t here n [] = Ok n
walk_from t here n (name ∷ rest) =
    enter (is_dir (get t.nodes n)) (get t.names (here ++ name ∷ [])) (λ m. walk_from t (here ++ name ∷ []) m rest)

-- the number that the path leads to, or what the walk meets in its way
abbrev pub walk : Tree → List (List ℕ) → Result ℕ Refusal
walk t path = walk_from t [] 1 path

abbrev pub refusal_in : Result ℕ Refusal → Option Refusal
refusal_in (Ok n) = None
refusal_in (Err why) = Some why

-- why the walk doesn't come to its end
abbrev pub walk_refusal : Tree → List (List ℕ) → Option Refusal
walk_refusal t path = refusal_in (walk t path)

abbrev pub no_directory : Tree → Result ℕ Refusal → Option Refusal
no_directory t (Err why) = Some why
no_directory t (Ok n) = if is_dir (get t.nodes n) then None else Some NotDir

-- why a path can't come to be there: its parent is walked to and must be a directory. The root has no walk
abbrev pub parent_refusal : Tree → List (List ℕ) → Option Refusal
parent_refusal t [] = None
parent_refusal t (name ∷ names) = no_directory t (walk t (parent (name ∷ names)))

-- What is at a path.

-- the node at the path
abbrev pub thing_at : Tree → List (List ℕ) → Option Thing
thing_at t path = option_and_then (λ n. get t.nodes n) (get t.names path)

abbrev pub is_there : Tree → List (List ℕ) → Bool
is_there t path = is_some (get t.names path)

abbrev pub bytes_in : Option Thing → List ℕ
bytes_in (Some (File bytes)) = bytes
bytes_in _ = []

-- the bytes of the file at the path
abbrev pub content : Tree → List (List ℕ) → List ℕ
content t path = bytes_in (thing_at t path)

abbrev pub are_same : Option ℕ → Option ℕ → Bool
are_same (Some n) (Some m) = n == m
are_same _ _ = false

-- whether both paths are there and lead to one node
abbrev pub is_same_node : Tree → List (List ℕ) → List (List ℕ) → Bool
is_same_node t p q = are_same (get t.names p) (get t.names q)

abbrev pub counted : Tree → Option ℕ → ℕ
counted t None = 0
counted t (Some n) = path_count t.names n

-- how many paths lead to the node at the path
abbrev pub links : Tree → List (List ℕ) → ℕ
links t path = counted t (get t.names path)
