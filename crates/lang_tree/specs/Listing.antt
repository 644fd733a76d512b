-- How paths and bytes are written, and the listing of a tree. It is described in docs/TREE.md.
use Rattle.std.specs.Prelude.{ℕ, List, [], ◌∷◌, ◌++◌, codes, decimal, length, Option, None, Some}
use Rattle.std.specs.List.{flat_map}
use Rattle.std.specs.FinMap.{get, entries}
use Rattle.hex.specs.Hex.{encode_lower}
use Rattle.lang_tree.specs.Tree.{Tree, Names, Nodes, Kept, Thing, Dir, File}

-- a slash and the name, for each name in turn
abbrev pub slashed : List (List ℕ) → List ℕ
slashed names = flat_map (λ name. 47 ∷ name) names

-- `/` for the root, else a slash and each name in turn
abbrev pub path_text : List (List ℕ) → List ℕ
path_text [] = codes "/"
path_text (name ∷ names) = slashed (name ∷ names)

-- nothing for no bytes, else a blank and their digits
abbrev pub digits_behind_blank : List ℕ → List ℕ
digits_behind_blank [] = []
digits_behind_blank (byte ∷ bytes) = codes " " ++ encode_lower (byte ∷ bytes)

-- the line of a path that leads to node n
abbrev pub line_of : List (List ℕ) → ℕ → Option Thing → List ℕ
line_of path n None = []
line_of path n (Some Dir) = codes "dir " ++ path_text path ++ codes " " ++ decimal n ++ codes "\n"
line_of path n (Some (File bytes)) =
    codes "file " ++ path_text path ++ codes " " ++ decimal n ++ codes " " ++ decimal (length bytes) ++ digits_behind_blank bytes ++ codes "\n"

-- a line for each path, the paths ascending
abbrev pub path_lines : Names → Nodes → List ℕ
path_lines names nodes = flat_map (λ e. line_of e.0 e.1 (get nodes e.1)) (entries names)

-- a line with the name of a snapshot, and then those of the tree that it keeps
abbrev pub snapshot_lines : List ℕ → Kept → List ℕ
snapshot_lines name k = (codes "snap " ++ name ++ codes "\n") ++ path_lines k.names k.nodes

-- the lines of the tree, and behind them those of each snapshot, the names ascending
abbrev pub listing : Tree → List ℕ
listing t = path_lines t.names t.nodes ++ flat_map (λ e. snapshot_lines e.0 e.1) (entries t.snapshots)
