-- What the check keeps of each node once it looked at it.
use Rattle.std.specs.Prelude.{◌≡◌, ◌≢◌, ℕ, ◌+◌, ◌^◌, ◌<◌, List, get_or, length, Option, None, Some}
use Rattle.layout_bytes.specs.declared.node.NodeKind.{NodeKind}
use Rattle.layout_bytes.specs.declared.node.NodeKind.TheVariants as kind
use Rattle.layout_bytes.specs.declared.slot.Slot.{Slot}
use Rattle.crash_stands.specs.Files.{FileNode, Files}
use Rattle.crash_stands.specs.Inodes.{Inode, ADir, AFile, Inodes}
use Rattle.fs_files.specs.declared.look.FileFacts.{FileFacts}
use Rattle.fs_check.specs.declared.damage.TreeDamage.{TreeDamage}
use Rattle.fs_check.specs.declared.damage.TreeDamage.TheVariants.{Unreadable}
use Rattle.fs_check.specs.declared.looked.Looked.{Looked}
use Rattle.fs_check.specs.declared.looked.Looked.TheVariants.{Unused, Directory, Links}

-- what was seen of node k; nothing of a number without a place
abbrev pub seen : List Looked → ℕ → Looked
seen nodes k = get_or nodes k Unused

-- a directory with its one link and its size, a file with its links, and nothing of a snapshot
abbrev pub IsSeenAs : NodeKind → FileNode → Looked → Type 0
IsSeenAs kind.Free x look = ⊥
IsSeenAs kind.Dir x look = (x.links ≡ 1) × (look ≡ Directory (length x.bytes))
IsSeenAs kind.File x look = look ≡ Links x.links
IsSeenAs kind.Snapshot x look = look ≡ Unused

-- that is what was seen of the node
abbrev pub IsSeen : Option FileNode → Looked → Type 0
IsSeen None look = look ≡ Unused
IsSeen (Some x) look = IsSeenAs x.kind x look

-- what was seen of each node
abbrev pub AreSeen : Files → List Looked → Type 0
AreSeen files nodes = (k : ℕ) → IsSeen (files k) (seen nodes k)

-- there is a place for each number up to the limit, and no node has number 0
pub record HasPlaces (limit : ℕ) (nodes : List Looked) : Type 0 where
  pub count : length nodes ≡ limit + 1
  pub few : length nodes < 2 ^ 32
  pub zero : seen nodes 0 ≡ Unused

-- an inode is as it was seen
abbrev pub IsInodeAs : Looked → Option Inode → Type 0
IsInodeAs Unused inode = inode ≡ None
IsInodeAs (Directory size) inode = (slots : List Slot) × (inode ≡ Some (ADir slots))
IsInodeAs (Links links) inode = (bytes : List ℕ) × (inode ≡ Some (AFile links bytes))

abbrev pub AreInodesAs : List Looked → Inodes → Type 0
AreInodesAs nodes m = (k : ℕ) → IsInodeAs (seen nodes k) (m k)

-- What is kept of what was looked up of a node.

abbrev pub IsLookAs : NodeKind → FileFacts → Looked → Type 0
IsLookAs kind.Free facts look = ⊥
IsLookAs kind.Dir facts look = (facts.links ≡ 1) × (look ≡ Directory facts.size)
IsLookAs kind.File facts look = look ≡ Links facts.links
IsLookAs kind.Snapshot facts look = look ≡ Unused

abbrev pub IsLookOf : Option FileFacts → Looked → Type 0
IsLookOf None look = look ≡ Unused
IsLookOf (Some facts) look = IsLookAs facts.kind facts look

-- a directory with another number of links than one
pub record HasWrongLink (node : ℕ) (found : Option FileFacts) (why : TreeDamage) : Type 0 where
  pub facts : FileFacts
  pub there : found ≡ Some facts
  pub is_dir : facts.kind ≡ kind.Dir
  pub link : facts.links ≢ 1
  pub is : why ≡ Unreadable node
