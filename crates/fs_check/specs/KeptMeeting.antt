-- What a check knows once it went through some of the nodes that one snapshot keeps. It is described in docs/FSCK.md.
use Rattle.std.specs.Prelude.{◌≡◌, ◌≢◌, ◌↔◌, ℕ, ◌+◌, ◌-◌, ◌<◌, ◌≤◌, true, false, IsTrue, if◌then◌else◌, List, length, drop, replicate, None, Some}
use Rattle.base_types.specs.Seal.{Blocks}
use Rattle.layout_geometry.specs.Geometry.{Geometry, bitmap_blocks}
use Rattle.layout_bytes.specs.declared.node.Node.{Node}
use Rattle.layout_bytes.specs.declared.node.NodeKind.TheVariants.{Dir, Snapshot}
use Rattle.layout_bytes.specs.Bitmap.{bit_in, is_set}
use Rattle.layout_bytes.specs.Bytes.{are_zeros}
use Rattle.layout_bytes.specs.Node.{node_size, content_of, node_bytes}
use Rattle.engine_blocks.specs.Running.{HasNoBare}
use Rattle.engine_blocks.specs.State.{State}
use Rattle.crash_stands.specs.Files.{joined}
use Rattle.crash_stands.specs.Places.{dirs_from, kept_table}
use Rattle.crash_stands.specs.Kept.{kept_nodes, kept_places}
use Rattle.crash_stands.specs.Sharing.{HasKeptBlock}
use Rattle.fs_files.specs.Shared.{keepers}
use Rattle.fs_check.specs.Broken.{Precedes}
use Rattle.fs_check.specs.BrokenSnapshots.{IsFirm}
use Rattle.fs_check.specs.Meeting.{AreBits}
use Rattle.fs_check.specs.Snapshots.{AreFirm}
use Rattle.fs_check.specs.declared.snapshot_damage.SnapshotDamage.{SnapshotDamage}
use Rattle.fs_check.specs.declared.snapshot_damage.SnapshotDamage.TheVariants as damage

-- What a check of snapshots needs of a map of blocks of this geometry, and of its two bitmaps: that of the disk, and that of the blocks that directories and snapshots have.
pub record MayCheckKept (g : Geometry) (s : State) (bits firm : List (List ℕ)) : Type 0 where
  pub going : s.books.stopped ≡ false
  pub none_bare : HasNoBare s.books.running
  pub geom : s.books.geom ≡ g
  pub bits_size : length bits ≡ bitmap_blocks g
  pub firm_size : length firm ≡ bitmap_blocks g

-- the two bitmaps are what they should be
pub record AreTrueMaps (g : Geometry) (m : Blocks) (bits firm : List (List ℕ)) : Type 0 where
  pub are : AreBits g m bits
  pub own : AreFirm g m firm

-- block b is at a place before place i of node k in the files that the snapshot at these places keeps
pub record IsKeptMet (g : Geometry) (m : Blocks) (places : List ℕ) (k i b : ℕ) : Type 0 where
  pub node : ℕ
  pub place : ℕ
  pub before : Precedes node place k i
  pub has : HasKeptBlock g m places node place b

-- The kept places before place i of node k were gone through: the bits of `met` are those of just their blocks, none of these is at two of the places, and each is marked and no directory's and no snapshot's.
pub record HasMetKept (g : Geometry) (m : Blocks) (places : List ℕ) (k i : ℕ) (met : Blocks) : Type 0 where
  pub bits : (b : ℕ) → (bit_in met b ≡ true) ↔ IsKeptMet g m places k i b
  pub once : (l j h f b : ℕ) → Precedes l j k i → Precedes h f k i → HasKeptBlock g m places l j b → HasKeptBlock g m places h f b → (l ≡ h) × (j ≡ f)
  pub marked : (l j b : ℕ) → Precedes l j k i → HasKeptBlock g m places l j b → is_set g m b ≡ true
  pub apart : (l j b : ℕ) → Precedes l j k i → HasKeptBlock g m places l j b → IsFirm g m b → ⊥

-- The kept nodes below k were gone through, and nothing was broken there; the directories among them have so many blocks.
pub record IsKeptSoundBelow (g : Geometry) (m : Blocks) (places : List ℕ) (k dirs : ℕ) (met : Blocks) : Type 0 where
  pub blocks : HasMetKept g m places k 0 met
  pub plain : (l : ℕ) (node : Node) → l < k → kept_nodes g m places l ≡ Some node → node.kind ≢ Snapshot
  pub free : (l : ℕ) → 1 ≤ l → l < k → kept_nodes g m places l ≡ None → node_bytes g (kept_table m places g) l ≡ replicate (node_size g.layout) 0
  pub tail : (l : ℕ) (node : Node) → l < k → kept_nodes g m places l ≡ Some node → node.kind ≡ Dir
      → IsTrue (are_zeros (drop (content_of g.layout node.kind node.size) (joined m (kept_places g m places l node))))
  pub behind : dirs ≡ dirs_from g.layout (kept_nodes g m places) 1 (k - 1)

-- One snapshot more keeps just the blocks that were met.
abbrev pub CountsMet : Blocks → List ℕ → List ℕ → Type 0
CountsMet met old new = (b : ℕ) → keepers new b ≡ keepers old b + (if bit_in met b then 1 else 0)

-- There is a count for each block of the disk, and no block that wasn't met has as many keepers as a count can say.
pub record HasRoomToCount (g : Geometry) (met : Blocks) (counts : List ℕ) : Type 0 where
  pub room : length counts ≡ g.n
  pub few : (b : ℕ) → bit_in met b ≡ false → keepers counts b < 65535

-- what is broken where snapshot k can't keep block b: its bit is clear, a directory or a snapshot has it, or it was met before
abbrev pub IsUnkeepable : Blocks → Blocks → Blocks → ℕ → ℕ → SnapshotDamage → Type 0
IsUnkeepable bits firm met k b (damage.WrongSize l) = ⊥
IsUnkeepable bits firm met k b (damage.BadName l) = ⊥
IsUnkeepable bits firm met k b (damage.SameName l h) = ⊥
IsUnkeepable bits firm met k b (damage.KeptNode l h) = ⊥
IsUnkeepable bits firm met k b (damage.KeptTail l h) = ⊥
IsUnkeepable bits firm met k b (damage.KeptUnmarked l c) = (l ≡ k) × (c ≡ b) × (bit_in bits b ≡ false)
IsUnkeepable bits firm met k b (damage.KeptShared l c) = (l ≡ k) × (c ≡ b) × (bit_in met b ≡ true)
IsUnkeepable bits firm met k b (damage.KeptElsewhere l c) = (l ≡ k) × (c ≡ b) × (bit_in firm b ≡ true)
IsUnkeepable bits firm met k b (damage.InSnapshot l what) = ⊥
