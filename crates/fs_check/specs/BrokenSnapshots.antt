-- What can be broken in a snapshot, and when that is so. It is described in docs/FSCK.md.
use Rattle.std.specs.Prelude.{◌≡◌, ◌≢◌, ◌⊎◌, ℕ, ◌*◌, ◌<◌, ◌≤◌, false, IsTrue, List, length, drop, replicate, get_or, None, Some}
use Rattle.base_types.specs.Name.{is_name}
use Rattle.base_types.specs.Runs.{run_places}
use Rattle.base_types.specs.Seal.{Blocks}
use Rattle.layout_geometry.specs.Geometry.{Geometry}
use Rattle.layout_bytes.specs.declared.node.Node.{Node}
use Rattle.layout_bytes.specs.declared.node.NodeKind.TheVariants.{Dir, File, Snapshot}
use Rattle.layout_bytes.specs.Bitmap.{is_set}
use Rattle.layout_bytes.specs.Bytes.{are_zeros}
use Rattle.layout_bytes.specs.Node.{node_size, content_of, node_bytes}
use Rattle.layout_bytes.specs.SnapshotName.{name_block}
use Rattle.crash_stands.specs.Bounds.{bounds_of}
use Rattle.crash_stands.specs.Files.{joined, used_node}
use Rattle.crash_stands.specs.Places.{kept_table}
use Rattle.crash_stands.specs.Kept.{kept_files, kept_nodes, kept_places}
use Rattle.crash_stands.specs.Sharing.{HasKeptBlock}
use Rattle.crash_stands.specs.Stands.{HasBlock}
use Rattle.fs_snapshots.specs.Kept.{HasItsParts}
use Rattle.fs_check.specs.declared.damage.TreeDamage.{TreeDamage}
use Rattle.fs_check.specs.declared.snapshot_damage.SnapshotDamage.{SnapshotDamage}
use Rattle.fs_check.specs.declared.snapshot_damage.SnapshotDamage.TheVariants as damage
use Rattle.fs_check.specs.Broken.{Precedes}
use Rattle.fs_check.specs.Damage.{IsBroken as IsBrokenTree}

-- node k is a snapshot
pub record IsSnapshot (g : Geometry) (m : Blocks) (k : ℕ) : Type 0 where
  pub node : Node
  pub is_node : used_node g m k ≡ Some node
  pub kind : node.kind ≡ Snapshot

-- the blocks of a snapshot's own, in order
abbrev pub places_of : Node → List ℕ
places_of node = run_places node.runs

-- snapshot k hasn't one link, or its size isn't that of its blocks, or these are more or fewer than its parts need
pub record HasWrongSize (g : Geometry) (m : Blocks) (k : ℕ) : Type 0 where
  pub is : IsSnapshot g m k
  pub wrong : is.node.links ≡ 1 → is.node.size ≡ 1024 * length (places_of is.node) → HasItsParts g m (places_of is.node) → ⊥

-- the first block of snapshot k has no name
pub record HasBadName (g : Geometry) (m : Blocks) (k : ℕ) : Type 0 where
  pub is : IsSnapshot g m k
  pub unnamed : (name : List ℕ) → IsTrue (is_name name) → m (get_or (places_of is.node) 0 0) ≡ name_block name → ⊥

-- snapshot k has the name of snapshot l, which comes before it
pub record HasSameName (g : Geometry) (m : Blocks) (k l : ℕ) : Type 0 where
  pub is : IsSnapshot g m k
  pub other : IsSnapshot g m l
  pub before : l < k
  pub same : m (get_or (places_of is.node) 0 0) ≡ m (get_or (places_of other.node) 0 0)

-- the snapshot at these places keeps as node l one that is a snapshot, or none with bytes that aren't zeros
abbrev pub KeepsBadNode : Geometry → Blocks → List ℕ → ℕ → Type 0
KeepsBadNode g m places l =
    ((node : Node) × (kept_nodes g m places l ≡ Some node) × (node.kind ≡ Snapshot))
    ⊎ ((kept_nodes g m places l ≡ None) × (node_bytes g (kept_table m places g) l ≢ replicate (node_size g.layout) 0))

pub record HasBadNode (g : Geometry) (m : Blocks) (k l : ℕ) : Type 0 where
  pub is : IsSnapshot g m k
  pub from : 1 ≤ l
  pub upto : l ≤ g.i
  pub keeps : KeepsBadNode g m (places_of is.node) l

-- snapshot k keeps a directory as node l, whose blocks carry something past its last slot
pub record HasKeptTail (g : Geometry) (m : Blocks) (k l : ℕ) : Type 0 where
  pub is : IsSnapshot g m k
  pub node : Node
  pub is_node : kept_nodes g m (places_of is.node) l ≡ Some node
  pub is_dir : node.kind ≡ Dir
  pub carries : are_zeros (drop (content_of g.layout node.kind node.size) (joined m (kept_places g m (places_of is.node) l node))) ≡ false

-- snapshot k keeps block b as one of a file, at a place of its list
pub record KeepsAt (g : Geometry) (m : Blocks) (k b : ℕ) : Type 0 where
  pub is : IsSnapshot g m k
  pub number : ℕ
  pub place : ℕ
  pub has : HasKeptBlock g m (places_of is.node) number place b

-- snapshot k keeps block b, whose bit is clear
pub record HasKeptUnmarked (g : Geometry) (m : Blocks) (k b : ℕ) : Type 0 where
  pub keeps : KeepsAt g m k b
  pub clear : is_set g m b ≡ false

-- snapshot k keeps block b, which is at an earlier place of a file that it keeps too
pub record HasKeptShared (g : Geometry) (m : Blocks) (k b : ℕ) : Type 0 where
  pub keeps : KeepsAt g m k b
  pub other : ℕ
  pub other_place : ℕ
  pub before : Precedes other other_place keeps.number keeps.place
  pub other_has : HasKeptBlock g m (places_of keeps.is.node) other other_place b

-- a directory or a snapshot has block b as one of its own
pub record IsFirm (g : Geometry) (m : Blocks) (b : ℕ) : Type 0 where
  pub number : ℕ
  pub place : ℕ
  pub has : HasBlock g m number place b
  pub kind : has.node.kind ≢ File

-- snapshot k keeps block b as a file's, which a directory or a snapshot has
pub record HasKeptElsewhere (g : Geometry) (m : Blocks) (k b : ℕ) : Type 0 where
  pub keeps : KeepsAt g m k b
  pub firm : IsFirm g m b

-- among the files that snapshot k keeps this is broken
pub record HasBrokenTree (g : Geometry) (m : Blocks) (k : ℕ) (what : TreeDamage) : Type 0 where
  pub is : IsSnapshot g m k
  pub broken : IsBrokenTree (bounds_of g) (kept_files g m (places_of is.node)) what

-- this is broken in a snapshot, and there
abbrev pub IsBroken : Geometry → Blocks → SnapshotDamage → Type 0
IsBroken g m (damage.WrongSize k) = HasWrongSize g m k
IsBroken g m (damage.BadName k) = HasBadName g m k
IsBroken g m (damage.SameName k l) = HasSameName g m k l
IsBroken g m (damage.KeptNode k l) = HasBadNode g m k l
IsBroken g m (damage.KeptTail k l) = HasKeptTail g m k l
IsBroken g m (damage.KeptUnmarked k b) = HasKeptUnmarked g m k b
IsBroken g m (damage.KeptShared k b) = HasKeptShared g m k b
IsBroken g m (damage.KeptElsewhere k b) = HasKeptElsewhere g m k b
IsBroken g m (damage.InSnapshot k what) = HasBrokenTree g m k what
