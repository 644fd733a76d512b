-- What nodes are where their blocks no longer count: lists of slots, and links with bytes. docs/LAYOUT.md describes them.
use Rattle.std.specs.Prelude.{◌≡◌, ℕ, zero, suc, ◌==◌, List, [], length, slice_get, Option, None, Some, option_map, option_and_then}
use Rattle.base_types.specs.declared.layout.Layout.{Layout}
use Rattle.base_types.specs.Layouts.{slots_held}
use Rattle.layout_bytes.specs.declared.node.NodeKind.{NodeKind}
use Rattle.layout_bytes.specs.declared.node.NodeKind.TheVariants.{Free, Dir, File, Snapshot}
use Rattle.layout_bytes.specs.declared.slot.Slot.{Slot}
use Rattle.layout_bytes.specs.Bytes.{when}
use Rattle.layout_bytes.specs.Slot.{slots_in}
use Rattle.lang_tree.specs.Tree.{Thing, Dir as DirThing, File as FileThing}
use Rattle.crash_stands.specs.Files.{FileNode, Files}

-- a directory with its slots in order, or a file with its links and its bytes
pub data Inode : Type 0 where
  ADir : List Slot → Inode
  AFile : ℕ → List ℕ → Inode

-- the nodes in use, by their numbers
abbrev pub Inodes : Type 0
Inodes = ℕ → Option Inode

-- a directory has one link, and its bytes are slots; a snapshot is no inode
abbrev pub inode_by : Layout → NodeKind → ℕ → List ℕ → Option Inode
inode_by l Free links bytes = None
inode_by l Dir links bytes = when (links == 1) (option_map ADir (slots_in l (slots_held l (length bytes)) bytes))
inode_by l File links bytes = Some (AFile links bytes)
inode_by l Snapshot links bytes = None

-- the inode that a node in use is, if it reads as one
abbrev pub inode_of : Layout → FileNode → Option Inode
inode_of l file = inode_by l file.kind file.links file.bytes

-- nothing where there is no node or a snapshot's, and any other node's inode
abbrev pub IsInodeOf : Layout → Option FileNode → Option Inode → Type 0
IsInodeOf l None inode = inode ≡ None
IsInodeOf l (Some file) None = file.kind ≡ Snapshot
IsInodeOf l (Some file) (Some inode) = inode_of l file ≡ Some inode

-- each node in use that is no snapshot reads as the inode under its number, and nothing else is in the map
abbrev pub AreInodesOf : Layout → Files → Inodes → Type 0
AreInodesOf l files inodes = (k : ℕ) → IsInodeOf l (files k) (inodes k)

-- what the nodes in use read as; one that reads as none has nothing
abbrev pub inodes_of : Layout → Files → Inodes
inodes_of l files k = option_and_then (inode_of l) (files k)

-- the root as a directory without slots, and nothing else
abbrev pub root_alone : Inodes
root_alone zero = None
root_alone (suc zero) = Some (ADir [])
root_alone (suc (suc k)) = None

-- no two of the slots have one name
abbrev pub AreDistinct : List Slot → Type 0
AreDistinct slots = (i j : ℕ) (s t : Slot) → slice_get slots i ≡ Some s → slice_get slots j ≡ Some t → s.name ≡ t.name → i ≡ j

-- what the tree has for an inode
abbrev pub thing_of : Inode → Thing
thing_of (ADir slots) = DirThing
thing_of (AFile links bytes) = FileThing bytes
