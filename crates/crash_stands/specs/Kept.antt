-- The nodes and the files that a snapshot keeps, and when two maps have the same snapshot. docs/LAYOUT.md describes them.
use Rattle.std.specs.Prelude.{◌≡◌, ℕ, ◌+◌, ◌≤◌, false, List, length, take, slice_get, Some, option_map}
use Rattle.base_types.specs.Seal.{Blocks}
use Rattle.base_types.specs.Runs.{run_places}
use Rattle.layout_geometry.specs.Geometry.{Geometry}
use Rattle.layout_bytes.specs.declared.node.Node.{Node}
use Rattle.layout_bytes.specs.Node.{content_of}
use Rattle.crash_stands.specs.Files.{FileNode, Files, joined, used_node}
use Rattle.crash_stands.specs.Places.{NodesInUse, is_copied, table_blocks, kept_table, dir_part, places_by}

-- the nodes that the snapshot at these places keeps
abbrev pub kept_nodes : Geometry → Blocks → List ℕ → NodesInUse
kept_nodes g m places = used_node g (kept_table m places g)

-- where kept node k has its blocks
abbrev pub kept_places : Geometry → Blocks → List ℕ → ℕ → Node → List ℕ
kept_places g m places = places_by g.layout (kept_nodes g m places) (dir_part g places)

abbrev pub kept_file : Geometry → Blocks → List ℕ → ℕ → Node → FileNode
kept_file g m places k node =
    record { kind = node.kind; links = node.links; bytes = take (content_of g.layout node.kind node.size) (joined m (kept_places g m places k node)) }

-- the nodes that it keeps, each with its bytes
abbrev pub kept_files : Geometry → Blocks → List ℕ → Files
kept_files g m places k = option_map (kept_file g m places k) (kept_nodes g m places k)

-- Two maps have the same snapshot at these places: its blocks are the same, and those of the files that it keeps.
pub record HaveSameSnapshot (g : Geometry) (m n : Blocks) (places : List ℕ) : Type 0 where
  pub long : 1 + table_blocks g ≤ length places
  pub own : (i b : ℕ) → slice_get places i ≡ Some b → n b ≡ m b
  pub files : (k i b : ℕ) (node : Node) → kept_nodes g m places k ≡ Some node → is_copied node.kind ≡ false → slice_get (run_places node.runs) i ≡ Some b → n b ≡ m b
