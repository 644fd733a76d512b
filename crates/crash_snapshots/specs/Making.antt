-- A snapshot of blocks, made in other blocks.
use Rattle.std.specs.Prelude.{◌≡◌, ℕ, zero, suc, ◌+◌, ◌<◌, ◌≤◌, ◌==◌, if◌then◌else◌, List, [], ◌∷◌, ◌++◌, length, slice_get, Some}
use Rattle.std.specs.List.{range_with_len}
use Rattle.base_types.specs.Seal.{Blocks}
use Rattle.base_types.specs.Runs.{run_places}
use Rattle.base_types.specs.Layouts.{nodes_in_block, nodes_before}
use Rattle.layout_geometry.specs.Geometry.{Geometry, table_start, data_start}
use Rattle.layout_bytes.specs.declared.node.Node.{Node}
use Rattle.layout_bytes.specs.declared.node.NodeKind.TheVariants.{File}
use Rattle.layout_extent.specs.Renew.{AreOnce, IsAmong}
use Rattle.layout_bytes.specs.Node.{node_bytes}
use Rattle.crash_stands.specs.Files.{joined, used_node}
use Rattle.crash_stands.specs.Places.{table_blocks}
use Rattle.crash_snapshots.specs.Places.{all_dirs}
use Rattle.crash_snapshots.specs.Kept.{kept_bytes}

-- the blocks, with these bytes in those at these places
abbrev pub with_blocks : Blocks → List ℕ → List (List ℕ) → Blocks
with_blocks m [] ys b = m b
with_blocks m (p ∷ ps) [] b = m b
with_blocks m (p ∷ ps) (y ∷ ys) b = if b == p then y else with_blocks m ps ys b

-- the bytes of these blocks
abbrev pub blocks_at : Blocks → List ℕ → List (List ℕ)
blocks_at m [] = []
blocks_at m (b ∷ bs) = m b ∷ blocks_at m bs

-- node r of block i of the node table, counted from 0, as a snapshot keeps it
abbrev pub kept_piece : Geometry → Blocks → ℕ → ℕ → List ℕ
kept_piece g m i r = kept_bytes g.layout (node_bytes g m (nodes_before g.layout i + r + 1))

-- block i of the node table as a snapshot keeps it: all nodes of the block, one behind the other
abbrev pub kept_block : Geometry → Blocks → ℕ → List ℕ
kept_block g m i = joined (kept_piece g m i) (range_with_len 0 (nodes_in_block g.layout))

-- n blocks of it from block i on
abbrev pub kept_blocks : Geometry → Blocks → ℕ → ℕ → List (List ℕ)
kept_blocks g m i zero = []
kept_blocks g m i (suc n) = kept_block g m i ∷ kept_blocks g m (i + 1) n

-- the blocks of a snapshot: this one with its name, the node table, and those of the directories
abbrev pub snapshot_of : Geometry → Blocks → List ℕ → List (List ℕ)
snapshot_of g m name = name ∷ (kept_blocks g m 0 (table_blocks g) ++ blocks_at m (all_dirs (used_node g m) 1 g.i))

-- A snapshot of the blocks can be made at these places: there are as many as it has blocks, none is there twice, and none is a file's.
pub record CanHold (g : Geometry) (m : Blocks) (name : List ℕ) (places : List ℕ) : Type 0 where
  pub count : length places ≡ length (snapshot_of g m name)
  pub once : AreOnce places
  pub apart : (k i b : ℕ) (node : Node) → used_node g m k ≡ Some node → node.kind ≡ File → slice_get (run_places node.runs) i ≡ Some b → IsAmong places b → ⊥
  pub table : (b : ℕ) → table_start g ≤ b → b < data_start g → length (m b) ≡ 1024
