-- The rules by which an inode map is that of some tree, of nodes and slots alone, as docs/LAYOUT.md lists them.
use Rattle.std.specs.Prelude.{◌≡◌, ◌≢◌, ℕ, ◌≤◌, List, slice_get, Some}
use Rattle.layout_bytes.specs.declared.slot.Slot.{Slot}
use Rattle.crash_stands.specs.Inodes.{Inode, Inodes, ADir, AFile, AreDistinct}
use Rattle.crash_stands.specs.Walks.{LeadsTo}
use Rattle.fs_inodes.specs.Links.{slots_naming}

-- The root is a directory; names are distinct, slots name nodes in use and never the root; one slot names each other directory, and as many a file as it says; and each node in use is reached from the root.
pub record FollowsRules (limit : ℕ) (m : Inodes) : Type 0 where
  pub root : (slots : List Slot) × (m 1 ≡ Some (ADir slots))
  pub within : (k : ℕ) (x : Inode) → m k ≡ Some x → (1 ≤ k) × (k ≤ limit)
  pub distinct : (k : ℕ) (slots : List Slot) → m k ≡ Some (ADir slots) → AreDistinct slots
  pub named : (k i : ℕ) (slots : List Slot) (s : Slot) → m k ≡ Some (ADir slots) → slice_get slots i ≡ Some s → (s.node ≢ 1) × ((x : Inode) × (m s.node ≡ Some x))
  pub dirs : (k : ℕ) (slots : List Slot) → m k ≡ Some (ADir slots) → k ≢ 1 → slots_naming limit m k ≡ 1
  pub links : (k links : ℕ) (bytes : List ℕ) → m k ≡ Some (AFile links bytes) → slots_naming limit m k ≡ links
  pub reached : (k : ℕ) (x : Inode) → m k ≡ Some x → (path : List (List ℕ)) × LeadsTo m path k
