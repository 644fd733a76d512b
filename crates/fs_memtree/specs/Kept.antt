-- What is kept of a tree: for each number a directory with its names, or a file with its links and bytes; and how they change.
-- What they mean is said by the inode map that they are, and by the tree of that map.
use Rattle.std.specs.Prelude.{◌≡◌, ℕ, zero, suc, ◌-◌, ◌≤◌, ◌==◌, if◌then◌else◌, List, [], ◌∷◌, map, length, is_some, Option, None, Some, option_map, option_and_then, refl}
use Rattle.std.specs.Coded.{Coded, code_by, coded_list, coded_ℕ, coded×, coded_option}
use Rattle.std.specs.List.{flat_map}
use Rattle.std.specs.declared.cmp.Ordering.{Ordering}
use Rattle.std.specs.Ordering.{nat_cmp}
use Rattle.std.specs.Cmp.Lexicographic.{slice_cmp}
use Rattle.std.specs.FinMap.{FinMap, get, insert, remove, empty, entries, from_entries, len}
use Rattle.std.specs.FinMap as finite
use Rattle.layout_bytes.specs.declared.slot.Slot.{Slot}
use Rattle.lang_tree.specs.Tree.{Tree, alone}
use Rattle.crash_stands.specs.Inodes.{Inode, Inodes, ADir, AFile, thing_of}
use Rattle.fs_inodes.specs.Changes.{slot_of}
use Rattle.fs_inodes.specs.Lookups.{slots_of, number_at}

-- names are ordered by their bytes
abbrev pub name_cmp : List ℕ → List ℕ → Ordering
name_cmp = slice_cmp nat_cmp

-- the names of a directory with their numbers
abbrev pub DirNames : Type 0
DirNames = FinMap name_cmp ℕ

-- the entries of a search tree as a finite map
abbrev pub names_in : List (List ℕ × ℕ) → DirNames
names_in es = from_entries es

-- a directory with its names, or a file with its links and its bytes
pub data Kept : Type 0 where
  KeptDir : DirNames → Kept
  KeptFile : ℕ → List ℕ → Kept

-- by their numbers
abbrev pub KeptNodes : Type 0
KeptNodes = FinMap nat_cmp Kept

-- How a node is stored, so that it can be in the value of a model.

abbrev pub shown : Kept → Option (ℕ × List ℕ) × DirNames
shown (KeptDir names) = (None, names)
shown (KeptFile links bytes) = (Some (links, bytes), empty)

abbrev pub read_by : Option (ℕ × List ℕ) → DirNames → Kept
read_by None names = KeptDir names
read_by (Some file) names = KeptFile file.0 file.1

abbrev pub read_back : Option (ℕ × List ℕ) × DirNames → Kept
read_back p = read_by p.0 p.1

pub shown_same : (x : Kept) → read_back (shown x) ≡ x
shown_same (KeptDir names) = refl
shown_same (KeptFile links bytes) = refl

abbrev pub coded_kept : Coded Kept
coded_kept = code_by (Option (ℕ × List ℕ) × DirNames) (coded× (coded_option (coded× coded_ℕ (coded_list coded_ℕ))) (finite.code (coded_list coded_ℕ) coded_ℕ)) shown read_back shown_same

-- The inode map and the tree.

-- a slot for each name, in their order
abbrev pub slots_for : DirNames → List Slot
slots_for names = map (λ e. slot_of e.1 e.0) (entries names)

abbrev pub inode_of : Kept → Inode
inode_of (KeptDir names) = ADir (slots_for names)
inode_of (KeptFile links bytes) = AFile links bytes

-- the inode map that the nodes are
abbrev pub map_of : KeptNodes → Inodes
map_of nodes k = option_map inode_of (get nodes k)

-- the paths of fewer than so many names from node k on, with the numbers that they lead to
abbrev pub paths_from : ℕ → Inodes → ℕ → List (List (List ℕ) × ℕ)
paths_from zero m k = []
paths_from (suc n) m k = ([], k) ∷ flat_map (λ s. map (λ e. (s.name ∷ e.0, e.1)) (paths_from n m s.node)) (slots_of (m k))

-- The tree of the nodes, without snapshots: the paths from the root, and what each node stands for. No path of a tree has as many names as there are nodes.
unfoldable pub tree_of : KeptNodes → Tree
tree_of nodes =
    alone (from_entries (paths_from (len nodes) (map_of nodes) 1)) (from_entries (map (λ e. (e.0, thing_of (inode_of e.1))) (entries nodes)))

-- no file has more than 2^30 bytes
abbrev pub AreSmall : Inodes → Type 0
AreSmall m = (k links : ℕ) (bytes : List ℕ) → m k ≡ Some (AFile links bytes) → length bytes ≤ 1073741824

-- Changes of one node. A node that a change isn't for stays as it is.

abbrev pub with_names : (DirNames → DirNames) → Kept → Kept
with_names change (KeptDir names) = KeptDir (change names)
with_names change (KeptFile links bytes) = KeptFile links bytes

abbrev pub with_links : (ℕ → ℕ) → Kept → Kept
with_links change (KeptDir names) = KeptDir names
with_links change (KeptFile links bytes) = KeptFile (change links) bytes

abbrev pub with_bytes : (List ℕ → List ℕ) → Kept → Kept
with_bytes change (KeptDir names) = KeptDir names
with_bytes change (KeptFile links bytes) = KeptFile links (change bytes)

-- the name with this number, where it is there
abbrev pub renumbered : DirNames → List ℕ → ℕ → DirNames
renumbered names name number = if is_some (get names name) then insert names name number else names

abbrev pub with_name : List ℕ → ℕ → Kept → Kept
with_name name number = with_names (λ names. insert names name number)

abbrev pub without_name : List ℕ → Kept → Kept
without_name name = with_names (λ names. remove names name)

abbrev pub with_number : List ℕ → ℕ → Kept → Kept
with_number name number = with_names (λ names. renumbered names name number)

-- Changes of all nodes.

abbrev pub put_changed : KeptNodes → ℕ → (Kept → Kept) → Option Kept → KeptNodes
put_changed nodes n change None = nodes
put_changed nodes n change (Some x) = insert nodes n (change x)

-- the nodes with node n changed so, where it is there
abbrev pub changed_at : KeptNodes → ℕ → (Kept → Kept) → KeptNodes
changed_at nodes n change = put_changed nodes n change (get nodes n)

abbrev pub less_by : KeptNodes → ℕ → Option Kept → KeptNodes
less_by nodes n None = nodes
less_by nodes n (Some (KeptDir names)) = remove nodes n
less_by nodes n (Some (KeptFile links bytes)) = if links == 1 then remove nodes n else insert nodes n (KeptFile (links - 1) bytes)

-- the nodes where node n has one link less: it goes with its last one, and a directory has one
abbrev pub without_link : KeptNodes → ℕ → KeptNodes
without_link nodes n = less_by nodes n (get nodes n)

-- Paths.

abbrev pub split_on : List ℕ → List (List ℕ) → List (List ℕ) × List ℕ
split_on name [] = ([], name)
split_on name (next ∷ names) = (name ∷ (split_on next names).0, (split_on next names).1)

-- the names of a path above its last one, and the last one
abbrev pub split : List (List ℕ) → Option (List (List ℕ) × List ℕ)
split [] = None
split (name ∷ names) = Some (split_on name names)

-- the number of what is above a path, and the path's last name
abbrev pub spot_at : Inodes → List (List ℕ) → Option (ℕ × List ℕ)
spot_at m path = option_and_then (λ s. option_map (λ up. (up, s.1)) (number_at m s.0)) (split path)
