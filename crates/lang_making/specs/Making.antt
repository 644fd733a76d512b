-- The commands that make a tree from the root alone. First each directory gets its names, and then each file gets its bytes. What snapshots keep is no part of it. It is described in the README.
use Rattle.std.specs.Prelude.{ℕ, ◌≡◌, ◌≤◌, ◌+◌, ◌*◌, ◌/◌, Bool, false, if◌then◌else◌, List, [], ◌∷◌, ◌++◌, length, map, take, drop, find, Option, None, Some}
use Rattle.std.specs.List.{flat_map, fold, range_with_len}
use Rattle.std.specs.FinMap.{get, keys}
use Rattle.std.specs.Ordering.{eq_by_cmp}
use Rattle.base_types.specs.declared.layout.Layout.{Layout}
use Rattle.lang_tree.specs.declared.command.Cmd.{Cmd}
use Rattle.lang_tree.specs.declared.command.Cmd.TheVariants.{Mkdir, Create, Write, Link}
use Rattle.lang_tree.specs.Tree.{Tree, Bounds, Names, path_cmp}
use Rattle.lang_tree.specs.Paths.{is_too_long}
use Rattle.lang_tree.specs.Names.{names_in, path_count}
use Rattle.lang_tree.specs.Step.{step, start}
use Rattle.lang_tree.specs.Walk.{thing_at, is_dir, is_same_node, content}

-- the paths of what lies in a directory, ascending
abbrev pub paths_in : Names → List (List ℕ) → List (List (List ℕ))
paths_in names up = map (λ name. up ++ name ∷ []) (names_in names up)

-- all paths but the root, in the order in which they are made: directory by directory, the directories in the order of the listing
abbrev pub paths_made : Names → List (List (List ℕ))
paths_made names = flat_map (paths_in names) (keys names)

-- the first one of the paths that leads to the node at this path
abbrev pub first_alike : Tree → List (List (List ℕ)) → List (List ℕ) → Option (List (List ℕ))
first_alike t paths path = find (is_same_node t path) paths

-- whether what was found is this path
abbrev pub is_path : List (List ℕ) → Option (List (List ℕ)) → Bool
is_path path None = false
is_path path (Some other) = eq_by_cmp path_cmp other path

-- a file that another path leads to gets a link from there
abbrev pub link_from : Option (List (List ℕ)) → List (List ℕ) → Cmd
link_from None path = Create path
link_from (Some other) path = Link other path

-- a file is created at the first path that leads to it, and linked at each other one
abbrev pub file_command : Option (List (List ℕ)) → List (List ℕ) → Cmd
file_command first path = if is_path path first then Create path else link_from first path

-- the command by which a path comes to be, where these are all that are made
abbrev pub path_command : Tree → List (List (List ℕ)) → List (List ℕ) → Cmd
path_command t paths path = if is_dir (thing_at t path) then Mkdir path else file_command (first_alike t paths path) path

-- so many pieces of so many bytes each: piece i is written where i pieces end
abbrev pub pieces : ℕ → ℕ → List (List ℕ) → List ℕ → List Cmd
pieces size count path bytes = map (λ i. Write path (size * i) (take size (drop (size * i) bytes))) (range_with_len 0 count)

-- the bytes are written in pieces of 65,536, and the last one has what is left
abbrev pub writing : List (List ℕ) → List ℕ → List Cmd
writing path bytes = pieces 65536 ((length bytes + 65535) / 65536) path bytes

-- a file gets its bytes at the first path that leads to it
abbrev pub byte_commands : Tree → List (List (List ℕ)) → List (List ℕ) → List Cmd
byte_commands t paths path = if is_path path (first_alike t paths path) then writing path (content t path) else []

-- all paths come to be in their order, and then each file gets its bytes
abbrev pub making : Tree → List Cmd
making t = map (path_command t (paths_made t.names)) (paths_made t.names) ++ flat_map (byte_commands t (paths_made t.names)) (paths_made t.names)

-- the tree that commands leave from the root alone
abbrev pub tree_after : Bounds → List Cmd → Tree
tree_after limit cmds = (fold (λ s cmd. (step s cmd).0) (start limit) cmds).tree

-- no node has more paths than a file may have
abbrev pub HasFewPaths : Names → Type 0
HasFewPaths names = (n : ℕ) → path_count names n ≤ 65535

-- no path ends with a name that is too long for the layout
abbrev pub HasShortNames : Layout → Names → Type 0
HasShortNames l names = (p : List (List ℕ)) (n : ℕ) → get names p ≡ Some n → is_too_long l p ≡ false
