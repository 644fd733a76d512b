-- The tree of names and byte files, and what snapshots keep of it, as finite maps. It is described in docs/TREE.md.
use Rattle.std.specs.Prelude.{◌≡◌, ℕ, ◌≤◌, List, [], ◌∷◌, ◌++◌, length, None, Some}
use Rattle.std.specs.declared.cmp.Ordering.{Ordering}
use Rattle.std.specs.Ordering.{nat_cmp}
use Rattle.std.specs.Cmp.Lexicographic.{slice_cmp}
use Rattle.std.specs.FinMap.{FinMap, get, empty}
use Rattle.base_types.specs.declared.layout.Layout.{Layout}
use Rattle.base_types.specs.declared.layout.Layout.TheVariants.{One}

-- paths in order: names are compared by their bytes, and a path is before the longer ones that begin with it
abbrev pub path_cmp : List (List ℕ) → List (List ℕ) → Ordering
path_cmp = slice_cmp (slice_cmp nat_cmp)

-- a node: a directory, or a file with its bytes
pub data Thing : Type 0 where
  Dir : Thing
  File : List ℕ → Thing

-- from paths to numbers
abbrev pub Names : Type 0
Names = FinMap path_cmp ℕ

-- from numbers to nodes
abbrev pub Nodes : Type 0
Nodes = FinMap nat_cmp Thing

-- what a snapshot keeps: a number for itself, and the paths and the nodes of the tree as it was
pub record Kept : Type 0 where
  pub number : ℕ
  pub names : Names
  pub nodes : Nodes

-- from the names of snapshots to what they keep
abbrev pub Snapshots : Type 0
Snapshots = FinMap (slice_cmp nat_cmp) Kept

pub record Tree : Type 0 where
  pub names : Names
  pub nodes : Nodes
  pub snapshots : Snapshots

-- what bounds a tree: the greatest number that it may use, and the layout of its disk, which says how long names may be and how many blocks all takes
pub record Bounds : Type 0 where
  pub nodes : ℕ
  pub layout : Layout

-- so many numbers on a disk of layout 1
abbrev pub in_layout_one : ℕ → Bounds
in_layout_one nodes = record { nodes = nodes; layout = One }

-- a tree without snapshots
abbrev pub alone : Names → Nodes → Tree
alone names nodes = record { names = names; nodes = nodes; snapshots = empty }

-- what a snapshot keeps, as a tree
abbrev pub kept_tree : Kept → Tree
kept_tree k = alone k.names k.nodes

-- The root is directory 1, each other path lies in a directory, each node has a path, a directory has one path alone, and no number is above the limit.
pub record IsSound (limit : ℕ) (t : Tree) : Type 0 where
  pub root : get t.names [] ≡ Some 1
  pub root_dir : get t.nodes 1 ≡ Some Dir
  pub parents : (up : List (List ℕ)) (name : List ℕ) (n : ℕ) → get t.names (up ++ name ∷ []) ≡ Some n
      → (k : ℕ) × (get t.names up ≡ Some k) × (get t.nodes k ≡ Some Dir)
  pub named : (p : List (List ℕ)) (n : ℕ) → get t.names p ≡ Some n → (x : Thing) × (get t.nodes n ≡ Some x)
  pub reached : (n : ℕ) (x : Thing) → get t.nodes n ≡ Some x → (p : List (List ℕ)) × (get t.names p ≡ Some n)
  pub one_path : (n : ℕ) (p q : List (List ℕ)) → get t.nodes n ≡ Some Dir → get t.names p ≡ Some n → get t.names q ≡ Some n → p ≡ q
  pub within : (n : ℕ) (x : Thing) → get t.nodes n ≡ Some x → (1 ≤ n) × (n ≤ limit)

-- Each snapshot has a number within the limit that no node and no other snapshot has, and the tree that it keeps is sound.
pub record HasSoundSnapshots (limit : ℕ) (t : Tree) : Type 0 where
  pub within : (name : List ℕ) (k : Kept) → get t.snapshots name ≡ Some k → (1 ≤ k.number) × (k.number ≤ limit)
  pub apart : (name : List ℕ) (k : Kept) → get t.snapshots name ≡ Some k → get t.nodes k.number ≡ None
  pub once : (a b : List ℕ) (k l : Kept) → get t.snapshots a ≡ Some k → get t.snapshots b ≡ Some l → k.number ≡ l.number → a ≡ b
  pub sound : (name : List ℕ) (k : Kept) → get t.snapshots name ≡ Some k → IsSound limit (kept_tree k)

-- no file has more than 2^30 bytes
abbrev pub HasSmallFiles : Nodes → Type 0
HasSmallFiles nodes = (n : ℕ) (bytes : List ℕ) → get nodes n ≡ Some (File bytes) → length bytes ≤ 1073741824
