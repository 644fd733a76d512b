-- What a check knows once it went through the blocks of some nodes. It is described in docs/FSCK.md.
use Rattle.std.specs.Prelude.{◌≡◌, ◌≢◌, ◌↔◌, Bool, ℕ, ◌*◌, ◌<◌, ◌≤◌, true, false, IsTrue, List, length, replicate, None, Some}
use Rattle.base_types.specs.Runs.{run_places}
use Rattle.base_types.specs.Seal.{Blocks, blocks_of}
use Rattle.layout_geometry.specs.Geometry.{Geometry, bitmap_blocks, data_start}
use Rattle.layout_bytes.specs.declared.node.Node.{Node}
use Rattle.layout_bytes.specs.declared.node.NodeKind.{NodeKind}
use Rattle.layout_bytes.specs.declared.node.NodeKind.TheVariants.{Dir, Snapshot}
use Rattle.layout_bytes.specs.Bitmap.{bit_in, is_set}
use Rattle.layout_bytes.specs.Bytes.{are_zeros}
use Rattle.layout_bytes.specs.Node.{node_size, node_at, node_bytes}
use Rattle.engine_blocks.specs.Running.{HasNoBare}
use Rattle.engine_blocks.specs.State.{State}
use Rattle.crash_stands.specs.Files.{used_node, past_content}
use Rattle.crash_stands.specs.Stands.{HasBlock}
use Rattle.fs_check.specs.declared.block_damage.BlockDamage.{BlockDamage}
use Rattle.fs_check.specs.declared.block_damage.BlockDamage.TheVariants.{WrongBit, BadNode, Unmarked, Shared, Tail, Lost}
use Rattle.fs_check.specs.Broken.{Precedes}

-- these are the blocks of the bitmap
abbrev pub AreBits : Geometry → Blocks → List (List ℕ) → Type 0
AreBits g m bits = (b : ℕ) → b < 8192 * bitmap_blocks g → bit_in (blocks_of bits) b ≡ is_set g m b

-- block b is at a place before place i of node k
pub record IsMet (g : Geometry) (m : Blocks) (k i b : ℕ) : Type 0 where
  pub node : ℕ
  pub place : ℕ
  pub before : Precedes node place k i
  pub has : HasBlock g m node place b

-- The places before place i of node k were gone through: the bits of `met` are those of just their blocks, none of these is at two of the places, and the bit of each is set.
pub record HasMet (g : Geometry) (m : Blocks) (k i : ℕ) (met : Blocks) : Type 0 where
  pub bits : (b : ℕ) → b < g.n → (bit_in met b ≡ true) ↔ IsMet g m k i b
  pub once : (l j h f b : ℕ) → Precedes l j k i → Precedes h f k i → HasBlock g m l j b → HasBlock g m h f b → (l ≡ h) × (j ≡ f)
  pub marked : (l j b : ℕ) → Precedes l j k i → HasBlock g m l j b → is_set g m b ≡ true

-- The nodes below k were gone through, and nothing was broken there.
pub record AreSoundBelow (g : Geometry) (m : Blocks) (k : ℕ) (met : Blocks) : Type 0 where
  pub blocks : HasMet g m k 0 met
  pub free : (l : ℕ) → 1 ≤ l → l < k → node_at g m l ≡ None → node_bytes g m l ≡ replicate (node_size g.layout) 0
  pub tail : (l : ℕ) (node : Node) → l < k → used_node g m l ≡ Some node → node.kind ≡ Dir → IsTrue (are_zeros (past_content g.layout m node))

-- node k has these blocks, in order
pub record HasPlaces (g : Geometry) (m : Blocks) (k : ℕ) (list : List ℕ) : Type 0 where
  pub node : Node
  pub is_node : used_node g m k ≡ Some node
  pub places : run_places node.runs ≡ list

-- what is broken where a block of node k can't be met: its bit is clear, or it was met before
abbrev pub IsUnmeetable : Blocks → Blocks → ℕ → ℕ → BlockDamage → Type 0
IsUnmeetable bits met k b (WrongBit c) = ⊥
IsUnmeetable bits met k b (BadNode l) = ⊥
IsUnmeetable bits met k b (Unmarked l c) = (l ≡ k) × (c ≡ b) × (bit_in bits b ≡ false)
IsUnmeetable bits met k b (Shared l c) = (l ≡ k) × (c ≡ b) × (bit_in met b ≡ true)
IsUnmeetable bits met k b (Tail l) = ⊥
IsUnmeetable bits met k b (Lost c) = ⊥

-- a data block has its bit in the bitmap, and wasn't met
pub record IsUnmet (g : Geometry) (bits met : Blocks) (b : ℕ) : Type 0 where
  pub from : data_start g ≤ b
  pub below : b < g.n
  pub marked : bit_in bits b ≡ true
  pub unmet : bit_in met b ≡ false

-- The bits are those of the bitmap, and the nodes below k were gone through: where no snapshot was found none of them is one.
pub record IsCheckedTo (g : Geometry) (m : Blocks) (bits met : List (List ℕ)) (found : Bool) (k : ℕ) : Type 0 where
  pub are : AreBits g m bits
  pub sound : AreSoundBelow g m k (blocks_of met)
  pub plain : found ≡ false → (l : ℕ) (node : Node) → l < k → used_node g m l ≡ Some node → node.kind ≢ Snapshot

-- What a check needs of a map of blocks of this geometry, and of its two bitmaps.
pub record MayCheck (g : Geometry) (s : State) (bits met : List (List ℕ)) : Type 0 where
  pub going : s.books.stopped ≡ false
  pub none_bare : HasNoBare s.books.running
  pub geom : s.books.geom ≡ g
  pub bits_size : length bits ≡ bitmap_blocks g
  pub met_size : length met ≡ bitmap_blocks g

-- what is broken where a directory's blocks carry something past its last slot
abbrev pub IsTailOf : ℕ → NodeKind → List ℕ → BlockDamage → Type 0
IsTailOf k kind past (WrongBit c) = ⊥
IsTailOf k kind past (BadNode l) = ⊥
IsTailOf k kind past (Unmarked l c) = ⊥
IsTailOf k kind past (Shared l c) = ⊥
IsTailOf k kind past (Tail l) = (l ≡ k) × (kind ≡ Dir) × (are_zeros past ≡ false)
IsTailOf k kind past (Lost c) = ⊥
