-- What is broken in the tree of some nodes, and where. The rules are those of docs/LAYOUT.md.
use Rattle.std.specs.Prelude.{◌≡◌, ◌≢◌, ℕ, ◌<◌, List, slice_get, None, Some}
use Rattle.layout_bytes.specs.declared.node.NodeKind.TheVariants.{Snapshot}
use Rattle.layout_bytes.specs.declared.slot.Slot.{Slot}
use Rattle.base_types.specs.declared.layout.Layout.{Layout}
use Rattle.lang_tree.specs.Tree.{Bounds}
use Rattle.crash_stands.specs.Files.{FileNode, Files}
use Rattle.crash_stands.specs.Inodes.{Inode, Inodes, ADir, AFile, inode_of, inodes_of}
use Rattle.crash_stands.specs.Walks.{LeadsTo}
use Rattle.fs_inodes.specs.Links.{slots_naming}
use Rattle.fs_check.specs.declared.damage.TreeDamage.{TreeDamage}
use Rattle.fs_check.specs.declared.damage.TreeDamage.TheVariants as damage

-- A node in use that is no snapshot reads as no inode: it is a directory with another number of links than one, or with bytes that are no slot's.
pub record IsUnreadable (l : Layout) (files : Files) (node : ℕ) : Type 0 where
  pub file : FileNode
  pub used : files node ≡ Some file
  pub plain : file.kind ≢ Snapshot
  pub unread : inode_of l file ≡ None

-- this slot is at a place of a directory
pub record HasSlot (m : Inodes) (dir place : ℕ) (s : Slot) : Type 0 where
  pub slots : List Slot
  pub is_dir : m dir ≡ Some (ADir slots)
  pub at : slice_get slots place ≡ Some s

-- The slot at a place of a directory names the root.
pub record NamesRoot (m : Inodes) (dir place : ℕ) : Type 0 where
  pub slot : Slot
  pub has : HasSlot m dir place slot
  pub root : slot.node ≡ 1

-- The slot at a place of a directory names a node that is no inode: one that isn't in use, or a snapshot.
pub record NamesUnused (m : Inodes) (dir place : ℕ) : Type 0 where
  pub slot : Slot
  pub has : HasSlot m dir place slot
  pub unused : m slot.node ≡ None

-- The slot at a place of a directory has the name of a slot before it.
pub record RepeatsName (m : Inodes) (dir place : ℕ) : Type 0 where
  pub slot : Slot
  pub has : HasSlot m dir place slot
  pub earlier : ℕ
  pub before : earlier < place
  pub other : Slot
  pub has_other : HasSlot m dir earlier other
  pub same : other.name ≡ slot.name

-- Another number of slots than one names a directory that isn't the root.
pub record IsNotNamedOnce (limit : ℕ) (m : Inodes) (node : ℕ) : Type 0 where
  pub slots : List Slot
  pub is_dir : m node ≡ Some (ADir slots)
  pub other : node ≢ 1
  pub count : slots_naming limit m node ≢ 1

-- Another number of slots names a file than it has links.
pub record HasWrongLinks (limit : ℕ) (m : Inodes) (node : ℕ) : Type 0 where
  pub links : ℕ
  pub bytes : List ℕ
  pub is_file : m node ≡ Some (AFile links bytes)
  pub count : slots_naming limit m node ≢ links

-- No path leads to a node in use.
pub record IsUnreached (m : Inodes) (node : ℕ) : Type 0 where
  pub inode : Inode
  pub used : m node ≡ Some inode
  pub unreached : (path : List (List ℕ)) → LeadsTo m path node → ⊥

-- the damage is there, among nodes of so many numbers on a disk of this layout
abbrev pub IsBroken : Bounds → Files → TreeDamage → Type 0
IsBroken limit files damage.NoRoot = (slots : List Slot) → inodes_of limit.layout files 1 ≢ Some (ADir slots)
IsBroken limit files (damage.Unreadable node) = IsUnreadable limit.layout files node
IsBroken limit files (damage.NamesRoot dir place) = NamesRoot (inodes_of limit.layout files) dir place
IsBroken limit files (damage.NamesUnused dir place) = NamesUnused (inodes_of limit.layout files) dir place
IsBroken limit files (damage.RepeatsName dir place) = RepeatsName (inodes_of limit.layout files) dir place
IsBroken limit files (damage.NotNamedOnce node) = IsNotNamedOnce limit.nodes (inodes_of limit.layout files) node
IsBroken limit files (damage.WrongLinks node) = HasWrongLinks limit.nodes (inodes_of limit.layout files) node
IsBroken limit files (damage.Unreached node) = IsUnreached (inodes_of limit.layout files) node
