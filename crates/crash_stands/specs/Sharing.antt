-- Which blocks of files snapshots keep, and when a snapshot is sound. docs/LAYOUT.md describes it.
use Rattle.std.specs.Prelude.{◌≡◌, ◌≢◌, ℕ, ◌+◌, ◌≤◌, IsTrue, List, length, drop, replicate, slice_get, None, Some}
use Rattle.base_types.specs.Seal.{Blocks}
use Rattle.base_types.specs.Runs.{run_places}
use Rattle.layout_geometry.specs.Geometry.{Geometry}
use Rattle.layout_bytes.specs.declared.node.Node.{Node}
use Rattle.layout_bytes.specs.declared.node.NodeKind.TheVariants.{Dir, File, Snapshot}
use Rattle.layout_bytes.specs.Bytes.{are_zeros}
use Rattle.layout_bytes.specs.Node.{node_size, content_of, node_bytes}
use Rattle.crash_stands.specs.Files.{joined, used_node}
use Rattle.crash_stands.specs.Places.{table_blocks, kept_table, dirs_from}
use Rattle.crash_stands.specs.Kept.{kept_nodes, kept_places}

-- block b is place i of file k that the snapshot at these places keeps
pub record HasKeptBlock (g : Geometry) (m : Blocks) (places : List ℕ) (k i b : ℕ) : Type 0 where
  pub node : Node
  pub is_node : kept_nodes g m places k ≡ Some node
  pub kind : node.kind ≡ File
  pub place : slice_get (run_places node.runs) i ≡ Some b

-- some snapshot keeps block b
pub record IsKeptBlock (g : Geometry) (m : Blocks) (b : ℕ) : Type 0 where
  pub snapshot : ℕ
  pub node : Node
  pub is_node : used_node g m snapshot ≡ Some node
  pub kind : node.kind ≡ Snapshot
  pub number : ℕ
  pub place : ℕ
  pub has : HasKeptBlock g m (run_places node.runs) number place b

-- All parts of the snapshot at these places are there, it keeps no snapshot, its files have each block once, and what carries nothing is zeros.
pub record IsSoundKept (g : Geometry) (m : Blocks) (places : List ℕ) : Type 0 where
  pub long : length places ≡ 1 + table_blocks g + dirs_from g.layout (kept_nodes g m places) 1 g.i
  pub plain : (k : ℕ) (node : Node) → kept_nodes g m places k ≡ Some node → node.kind ≢ Snapshot
  pub once : (k l i j b : ℕ) → HasKeptBlock g m places k i b → HasKeptBlock g m places l j b → (k ≡ l) × (i ≡ j)
  pub free : (k : ℕ) → 1 ≤ k → k ≤ g.i → kept_nodes g m places k ≡ None → node_bytes g (kept_table m places g) k ≡ replicate (node_size g.layout) 0
  pub tail : (k : ℕ) (node : Node) → kept_nodes g m places k ≡ Some node → node.kind ≡ Dir
      → IsTrue (are_zeros (drop (content_of g.layout node.kind node.size) (joined m (kept_places g m places k node))))
