-- When blocks, and an image of a disk, stand for a tree with its snapshots. docs/LAYOUT.md describes it.
use Rattle.std.specs.Prelude.{◌≡◌, ◌≢◌, ◌↔◌, ◌⊎◌, ℕ, ◌*◌, ◌<◌, ◌≤◌, false, IsTrue, List, length, replicate, get_or, slice_get, None, Some}
use Rattle.std.specs.FinMap.{get}
use Rattle.base_types.specs.Name.{is_name}
use Rattle.base_types.specs.Seal.{Blocks}
use Rattle.base_types.specs.Runs.{run_places}
use Rattle.layout_geometry.specs.Geometry.{Geometry, bitmap_blocks, data_start}
use Rattle.layout_bytes.specs.declared.node.Node.{Node}
use Rattle.layout_bytes.specs.declared.node.NodeKind.TheVariants.{Dir, File, Snapshot}
use Rattle.layout_bytes.specs.Bitmap.{is_set}
use Rattle.layout_bytes.specs.Bytes.{are_zeros}
use Rattle.layout_bytes.specs.Node.{node_size, node_at, node_bytes}
use Rattle.layout_bytes.specs.SnapshotName.{name_block}
use Rattle.layout_journal.specs.Run.{HeldIs, is_live}
use Rattle.lang_tree.specs.Tree.{Tree, Kept, kept_tree}
use Rattle.crash_stands.specs.Files.{files_of, used_node, past_content}
use Rattle.crash_stands.specs.Inodes.{Inodes, AreInodesOf}
use Rattle.crash_stands.specs.Kept.{kept_files}
use Rattle.crash_stands.specs.Maps.{IsMapOf}
use Rattle.crash_stands.specs.Sharing.{IsKeptBlock, IsSoundKept}

-- block b is place i of node k
pub record HasBlock (g : Geometry) (m : Blocks) (k i b : ℕ) : Type 0 where
  pub node : Node
  pub is_node : used_node g m k ≡ Some node
  pub place : slice_get (run_places node.runs) i ≡ Some b

-- Nodes share no block but those of files that snapshots keep, the bitmap is exact, each snapshot is sound, and what carries nothing is zeros.
pub record AreSound (g : Geometry) (m : Blocks) : Type 0 where
  pub whole : (b : ℕ) → IsTrue (is_live g m b) → length (m b) ≡ 1024
  pub own : (k l i j b : ℕ) → HasBlock g m k i b → HasBlock g m l j b → (k ≡ l) × (i ≡ j)
  -- the blocks before the data are set, a data block is where a node has it or a snapshot keeps it, and nothing is from n on
  pub fixed : (b : ℕ) → b < data_start g → IsTrue (is_set g m b)
  pub marked : (b : ℕ) → data_start g ≤ b → b < g.n → IsTrue (is_set g m b) ↔ (((k : ℕ) × (i : ℕ) × HasBlock g m k i b) ⊎ IsKeptBlock g m b)
  pub past : (b : ℕ) → g.n ≤ b → b < 8192 * bitmap_blocks g → is_set g m b ≡ false
  -- a node out of use, and a directory's blocks past its last slot
  pub free : (k : ℕ) → 1 ≤ k → k ≤ g.i → node_at g m k ≡ None → node_bytes g m k ≡ replicate (node_size g.layout) 0
  pub tail : (k : ℕ) (node : Node) → used_node g m k ≡ Some node → node.kind ≡ Dir → IsTrue (are_zeros (past_content g.layout m node))
  -- a block that a snapshot keeps is no directory's and no snapshot's own
  pub shared : (k i b : ℕ) (has : HasBlock g m k i b) → IsKeptBlock g m b → has.node.kind ≡ File
  pub kept : (k : ℕ) (node : Node) → used_node g m k ≡ Some node → node.kind ≡ Snapshot → IsSoundKept g m (run_places node.runs)

-- no node in use is a snapshot
abbrev pub HasNoSnapshots : Geometry → Blocks → Type 0
HasNoSnapshots g m = (k : ℕ) (node : Node) → used_node g m k ≡ Some node → node.kind ≢ Snapshot

-- The snapshot at these places keeps these paths and nodes: its files read as an inode map that is theirs.
pub record KeepsTree (g : Geometry) (m : Blocks) (places : List ℕ) (k : Kept) : Type 0 where
  pub inodes : Inodes
  pub read : AreInodesOf g.layout (kept_files g m places) inodes
  pub map : IsMapOf g.i inodes (kept_tree k)

-- The node under its number is the snapshot of this name, and it keeps these paths and nodes.
pub record HoldsSnapshot (g : Geometry) (m : Blocks) (name : List ℕ) (k : Kept) : Type 0 where
  pub node : Node
  pub is_node : used_node g m k.number ≡ Some node
  pub kind : node.kind ≡ Snapshot
  pub links : node.links ≡ 1
  pub size : node.size ≡ 1024 * length (run_places node.runs)
  pub lawful : IsTrue (is_name name)
  pub named : m (get_or (run_places node.runs) 0 0) ≡ name_block name
  pub keeps : KeepsTree g m (run_places node.runs) k

-- The map of blocks stands for the tree: its nodes read as an inode map that is that of the tree, its snapshots are those of the tree, and it is sound.
pub record IsTreeOf (g : Geometry) (m : Blocks) (t : Tree) : Type 0 where
  pub inodes : Inodes
  pub read : AreInodesOf g.layout (files_of g m) inodes
  pub map : IsMapOf g.i inodes t
  pub sound : AreSound g m
  -- each snapshot of the tree is there, and each that is there is one of the tree
  pub keeps : (name : List ℕ) (k : Kept) → get t.snapshots name ≡ Some k → HoldsSnapshot g m name k
  pub each : (n : ℕ) (node : Node) → used_node g m n ≡ Some node → node.kind ≡ Snapshot → (name : List ℕ) × (k : Kept) × (get t.snapshots name ≡ Some k) × (k.number ≡ n)

-- An image of a disk of n blocks stands for the tree: its recovered blocks do.
pub record StandsFor (n : ℕ) (img : Blocks) (t : Tree) : Type 0 where
  pub map : Blocks
  pub held : HeldIs n img map
  pub tree : IsTreeOf held.header.geom map t
