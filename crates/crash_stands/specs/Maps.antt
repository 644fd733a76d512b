-- When an inode map is that of a tree. docs/LAYOUT.md describes it.
use Rattle.std.specs.Prelude.{◌≡◌, ℕ, ◌≤◌, List, Some, option_map}
use Rattle.std.specs.FinMap.{get}
use Rattle.layout_bytes.specs.declared.slot.Slot.{Slot}
use Rattle.lang_tree.specs.Tree.{Tree}
use Rattle.lang_tree.specs.Names.{path_count}
use Rattle.crash_stands.specs.Inodes.{Inode, Inodes, ADir, AFile, AreDistinct, thing_of}
use Rattle.crash_stands.specs.Walks.{entries_of, walk, LeadsTo, OnlyBy}

-- The inode map shows the tree, its snapshots aside: its paths are the walks from the root, and its nodes are those in the map.
-- A file's links are the slots that name it. They are its paths too, since one path leads to each directory and names are distinct.
pub record Shows (t : Tree) (m : Inodes) : Type 0 where
  pub names : (p : List (List ℕ)) → get t.names p ≡ walk (entries_of m) 1 p
  pub nodes : (k : ℕ) → get t.nodes k ≡ option_map thing_of (m k)
  pub links : (k links : ℕ) (bytes : List ℕ) → m k ≡ Some (AFile links bytes) → path_count t.names k ≡ links
  -- one path alone leads to each directory
  pub only : (k : ℕ) (slots : List Slot) (p : List (List ℕ)) → m k ≡ Some (ADir slots) → LeadsTo m p k → OnlyBy m k p
  -- a path leads to each of these nodes, and each path leads to one
  pub reached : (k : ℕ) (x : Inode) → m k ≡ Some x → (p : List (List ℕ)) × LeadsTo m p k
  pub used : (p : List (List ℕ)) (k : ℕ) → LeadsTo m p k → (x : Inode) × (m k ≡ Some x)

-- The inode map is that of the tree: it shows the tree, its root is a directory, no directory has a name twice, and no number is above the limit.
pub record IsMapOf (limit : ℕ) (m : Inodes) (t : Tree) : Type 0 where
  pub root : (slots : List Slot) × (m 1 ≡ Some (ADir slots))
  pub distinct : (k : ℕ) (slots : List Slot) → m k ≡ Some (ADir slots) → AreDistinct slots
  pub within : (k : ℕ) (x : Inode) → m k ≡ Some x → (1 ≤ k) × (k ≤ limit)
  pub shows : Shows t m
