-- What is planned of a tree on the way of an upgrade: its paths in the order in which they are to be made, with what is there. Only private contracts speak of it.
use Rattle.std.specs.Prelude.{◌≡◌, ◌≢◌, ◌≤◌, ℕ, suc, ◌+◌, ◌-◌, ◌^◌, ◌==◌, min, Bool, true, false, if◌then◌else◌, ◌||◌, List, [], ◌∷◌, ◌++◌, length, map, reverse, is_some, Option, Some, None, option_map, unwrap_or}
use Rattle.std.specs.Ordering.{nat_cmp}
use Rattle.std.specs.BTreeMap as btree
use Rattle.std.specs.BTreeMap.{BTreeMap}
use Rattle.std.specs.List.{All, filter, flat_map}
use Rattle.std.specs.FinMap.{entries, get, len}
use Rattle.base_types.specs.declared.layout.Layout.{Layout}
use Rattle.layout_geometry.specs.Geometry.{Geometry}
use Rattle.lang_tree.specs.declared.command.Kind.{Kind}
use Rattle.lang_tree.specs.declared.command.Kind.TheVariants.{Dir as DirKind, File as FileKind}
use Rattle.lang_tree.specs.declared.command.Reply.{Reply}
use Rattle.lang_tree.specs.declared.command.Stat.{Stat as Found}
use Rattle.lang_tree.specs.Figures.{all_directory_blocks, blocks_for, file_blocks}
use Rattle.lang_tree.specs.Step.{stat}
use Rattle.lang_tree.specs.Tree.{HasSmallFiles, IsSound, Nodes, Thing, Tree}
use Rattle.lang_tree.specs.Walk.{content, is_dir, thing_at}
use Rattle.lang_making.specs.Making.{HasFewPaths, HasShortNames, paths_in, paths_made}
use Rattle.fs_inodes.specs.Listing.{at_and_below}
use Rattle.cmd_upgrade.specs.declared.plan.Entry.{Entry}
use Rattle.cmd_upgrade.specs.declared.plan.Plan.{Plan}

-- An entry says what is at its path: the number, whether it is a directory, and how many bytes the file has.
pub record IsEntry (t : Tree) (e : Entry) : Type 0 where
  pub number : get t.names e.path ≡ Some e.number
  pub dir : e.is_dir ≡ is_dir (thing_at t e.path)
  pub size : e.is_dir ≡ false → e.size ≡ length (content t e.path)

-- the place of the first of these entries that has this number
abbrev pub place_of : ℕ → List Entry → Option ℕ
place_of n [] = None
place_of n (e ∷ es) = if e.number == n then Some 0 else option_map suc (place_of n es)

-- These nodes of the tree were met: the root, and those of the entries.
pub record AreMet (t : Tree) (es : List Entry) (met : Nodes) : Type 0 where
  pub some : (n : ℕ) (x : Thing) → get met n ≡ Some x → get t.nodes n ≡ Some x
  pub which : (n : ℕ) → is_some (get met n) ≡ (n == 1 || is_some (place_of n es))

-- The plan has met some nodes and counted them, and so many blocks of directories.
pub record HasMet (t : Tree) (p : Plan) (visited : ℕ) : Type 0 where
  pub met : Nodes
  pub are_met : AreMet t p.entries.items met
  pub count : length p.firsts.entries + 1 ≡ len met
  pub blocks : p.blocks ≡ min (file_blocks (entries met) + visited) (2 ^ 64 - 1)

-- the paths that are made in the directories at and below a path
abbrev pub made_below : Tree → List (List ℕ) → List (List (List ℕ))
made_below t path = flat_map (λ e. paths_in t.names e.0) (at_and_below t path)

-- the blocks of the directories at and below a path
abbrev pub dirs_below : Layout → Tree → List (List ℕ) → ℕ
dirs_below l t path = all_directory_blocks l t.names (at_and_below t path)

-- the blocks of the directories at and below each of these paths
abbrev pub dirs_to_come : Layout → Tree → List (List (List ℕ)) → ℕ
dirs_to_come l t [] = 0
dirs_to_come l t (p ∷ ps) = dirs_below l t p + dirs_to_come l t ps

-- The plan of a tree so far, in a layout, where the directories at and below these are still to be visited, the last of the list first: each entry says what is at its path, the first place of each number is known, and the blocks are those of the files that were met and of the directories that were visited.
pub record IsPlanOf (l : Layout) (t : Tree) (todo : List (List (List ℕ))) (p : Plan) : Type 0 where
  pub paths : paths_made t.names ≡ map (λ e. e.path) p.entries.items ++ flat_map (made_below t) (reverse todo)
  pub dirs : All (λ q. is_dir (thing_at t q) ≡ true) todo
  pub each : All (IsEntry t) p.entries.items
  pub firsts : (n : ℕ) → btree.get nat_cmp p.firsts n ≡ place_of n p.entries.items
  pub visited : ℕ
  pub met : HasMet t p visited
  pub all : visited + dirs_to_come l t (reverse todo) ≡ dirs_below l t []

-- whether it is the kind of a directory
abbrev pub is_dir_kind : Kind → Bool
is_dir_kind DirKind = true
is_dir_kind FileKind = false

-- how many blocks the node of an entry has, where it is a file
abbrev pub entry_blocks : Entry → ℕ
entry_blocks e = if e.is_dir then 0 else blocks_for e.size

-- The node of an entry counts where no path of it was met before; then its first place is the one behind the entries.
pub record Meets (old : Plan) (e : Entry) (new : Plan) : Type 0 where
  pub entries : new.entries ≡ old.entries
  pub there : (i : ℕ) → btree.get nat_cmp old.firsts e.number ≡ Some i → new ≡ old
  pub first : btree.get nat_cmp old.firsts e.number ≡ None → (n : ℕ) → btree.get nat_cmp new.firsts n ≡ (if e.number == n then Some (length old.entries.items) else btree.get nat_cmp old.firsts n)
  pub count : btree.get nat_cmp old.firsts e.number ≡ None → length new.firsts.entries ≡ length old.firsts.entries + 1
  pub blocks : btree.get nat_cmp old.firsts e.number ≡ None → new.blocks ≡ min (old.blocks + entry_blocks e) (2 ^ 64 - 1)

-- One path more of a directory that is visited: with it the plan has what it had, and what is there, where this is so; and nothing else is said of the directories.
pub record Adds (l : Layout) (t : Tree) (path : List (List ℕ)) (found : Reply) (old new : Plan) : Type 0 where
  pub paths : map (λ e. e.path) new.entries.items ≡ map (λ e. e.path) old.entries.items ++ path ∷ []
  pub each : path ≢ [] → stat t path ≡ found → All (IsEntry t) old.entries.items → All (IsEntry t) new.entries.items
  pub firsts : ((n : ℕ) → btree.get nat_cmp old.firsts n ≡ place_of n old.entries.items) → (n : ℕ) → btree.get nat_cmp new.firsts n ≡ place_of n new.entries.items
  pub met : path ≢ [] → stat t path ≡ found → ((n : ℕ) → btree.get nat_cmp old.firsts n ≡ place_of n old.entries.items) → (visited : ℕ) → HasMet t old visited → HasMet t new visited

-- the entry of a path at which this was found
abbrev pub entry_of : List (List ℕ) → Found → Entry
entry_of path found = record { path = path; number = found.number; is_dir = is_dir_kind found.kind; size = found.size }

-- whether the bytes of a file are written at the path of an entry at this place, where these are the first places
abbrev pub is_written_at : BTreeMap ℕ ℕ → ℕ → Entry → Bool
is_written_at firsts place e = if e.is_dir then false else unwrap_or (btree.get nat_cmp firsts e.number) place == place

-- how many of the entries are directories
abbrev pub dirs_among : List Entry → ℕ
dirs_among es = length (filter (λ e. e.is_dir) es)

-- the plan of the whole tree
abbrev pub IsWholePlan : Layout → Tree → Plan → Type 0
IsWholePlan l t p = IsPlanOf l t [] p

-- A tree that can be made on a disk of this geometry: it is sound, with files of the bytes and paths that files may have, its names aren't too long, and there are as many numbers as it has nodes.
pub record CanBeMade (g : Geometry) (t : Tree) : Type 0 where
  pub most : ℕ
  pub sound : IsSound most t
  pub small : HasSmallFiles t.nodes
  pub few : HasFewPaths t.names
  pub short : HasShortNames g.layout t.names
  pub nodes : len t.nodes ≤ g.i
