-- What can be broken in some blocks, and when that is so at a place. It is described in docs/FSCK.md.
use Rattle.std.specs.Prelude.{◌≡◌, ◌⊎◌, ℕ, ◌+◌, ◌<◌, ◌≤◌, true, false, replicate, None, Some}
use Rattle.base_types.specs.Seal.{Blocks}
use Rattle.layout_geometry.specs.Geometry.{Geometry, bitmap_start, data_start}
use Rattle.layout_bytes.specs.declared.node.Node.{Node}
use Rattle.layout_bytes.specs.declared.node.NodeKind.TheVariants.{Dir}
use Rattle.layout_bytes.specs.Bitmap.{is_set}
use Rattle.layout_bytes.specs.Bytes.{are_zeros}
use Rattle.layout_bytes.specs.Node.{node_size, node_at, node_bytes}
use Rattle.layout_bitmap.specs.Bits.{is_bad_bit}
use Rattle.crash_stands.specs.Files.{used_node, past_content}
use Rattle.crash_stands.specs.Sharing.{IsKeptBlock}
use Rattle.crash_stands.specs.Stands.{HasBlock}
use Rattle.fs_check.specs.declared.block_damage.BlockDamage.{BlockDamage}
use Rattle.fs_check.specs.declared.block_damage.BlockDamage.TheVariants.{WrongBit, BadNode, Unmarked, Shared, Tail, Lost}

-- the blocks of the bitmap, by their places in it
abbrev pub bitmap_of : Geometry → Blocks → Blocks
bitmap_of g m k = m (bitmap_start g + k)

-- the bytes of node k are neither zeros nor those of a node in use
pub record IsBadNode (g : Geometry) (m : Blocks) (k : ℕ) : Type 0 where
  pub from : 1 ≤ k
  pub upto : k ≤ g.i
  pub unread : node_at g m k ≡ None
  pub carries : node_bytes g m k ≡ replicate (node_size g.layout) 0 → ⊥

-- node k has block b, whose bit is clear
pub record HasUnmarked (g : Geometry) (m : Blocks) (k b : ℕ) : Type 0 where
  pub place : ℕ
  pub has : HasBlock g m k place b
  pub clear : is_set g m b ≡ false

-- place j of node l comes before place i of node k: it is one of a lower node, or a lower place of the same
abbrev pub Precedes : ℕ → ℕ → ℕ → ℕ → Type 0
Precedes l j k i = (l < k) ⊎ ((l ≡ k) × (j < i))

-- node k has block b, which is at an earlier place too
pub record HasShared (g : Geometry) (m : Blocks) (k b : ℕ) : Type 0 where
  pub place : ℕ
  pub has : HasBlock g m k place b
  pub other : ℕ
  pub other_place : ℕ
  pub before : Precedes other other_place k place
  pub other_has : HasBlock g m other other_place b

-- node k is a directory, and its blocks carry something past its last slot
pub record HasTail (g : Geometry) (m : Blocks) (k : ℕ) : Type 0 where
  pub node : Node
  pub is_node : used_node g m k ≡ Some node
  pub is_dir : node.kind ≡ Dir
  pub carries : are_zeros (past_content g.layout m node) ≡ false

-- the bit of data block b is set, no node has the block, and no snapshot keeps it
pub record IsLost (g : Geometry) (m : Blocks) (b : ℕ) : Type 0 where
  pub from : data_start g ≤ b
  pub below : b < g.n
  pub marked : is_set g m b ≡ true
  pub unowned : (k i : ℕ) → HasBlock g m k i b → ⊥
  pub unkept : IsKeptBlock g m b → ⊥

-- this is broken in the blocks, and there
abbrev pub IsBroken : Geometry → Blocks → BlockDamage → Type 0
IsBroken g m (WrongBit b) = is_bad_bit g (bitmap_of g m) b ≡ true
IsBroken g m (BadNode k) = IsBadNode g m k
IsBroken g m (Unmarked k b) = HasUnmarked g m k b
IsBroken g m (Shared k b) = HasShared g m k b
IsBroken g m (Tail k) = HasTail g m k
IsBroken g m (Lost b) = IsLost g m b
