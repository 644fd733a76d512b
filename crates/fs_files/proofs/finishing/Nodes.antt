-- Nodes and their content are read from the node table and the data alone.
use Rattle.std.proofs.Common.{◌≡◌, ℕ, ◌<◌, ◌≤◌, List, take, drop, Some, ap, ◌∙◌, arith}
use Rattle.std.proofs.lemmas.Bool.Decides.{nat_tests}
use Rattle.base_types.specs.Seal.{Blocks}
use Rattle.base_types.specs.Runs.{run_places}
use Rattle.base_types.specs.Layouts.{node_byte, node_size}
use Rattle.layout_geometry.specs.Geometry.{Geometry, IsGeometry, table_start}
use Rattle.layout_bytes.specs.declared.node.Node.{Node}
use Rattle.layout_bytes.specs.Node.{node_bytes}
use Rattle.crash_stands.specs.Files.{joined, used_node, files_of}
use Rattle.crash_stands.specs.Stands.{HasBlock}
use Rattle.fs_files.specs.Nodes.{node_block}
use Rattle.fs_files.proofs.frames.Cells.{block_from, block_below, same_node}
use Rattle.fs_files.proofs.frames.Places.{joined_same, used_data}

-- two maps are the same on the node table and the data
abbrev pub AreAlike : Geometry → Blocks → Blocks → Type 0
AreAlike g m w = (b : ℕ) → table_start g ≤ b → b < g.n → m b ≡ w b

-- A node's bytes.

pub bytes_alike : (g : Geometry) (m w : Blocks) → IsGeometry g → AreAlike g m w → (k : ℕ) → 1 ≤ k → k ≤ g.i → node_bytes g m k ≡ node_bytes g w k
bytes_alike g m w geom same k from upto =
    ap (λ (xs : List ℕ). take (node_size g.layout) (drop (node_byte g.layout k) xs)) (same (node_block g k) (block_from g k) (omega (arith, block_below g k geom.whole_blocks from upto, geom.data_room)))

pub used_alike : (g : Geometry) (m w : Blocks) → IsGeometry g → AreAlike g m w → (k : ℕ) → used_node g m k ≡ used_node g w k
used_alike g m w geom same k = same_node g w m k (bytes_alike g m w geom same k)

-- Its content.

pub joined_alike : (g : Geometry) (m w v : Blocks) (k : ℕ) (node : Node) → AreAlike g m w → used_node g v k ≡ Some node → joined m (run_places node.runs) ≡ joined w (run_places node.runs)
joined_alike g m w v k node same used = grind (arith, nat_tests, joined_same, used_data)

pub files_alike : (g : Geometry) (m w : Blocks) → IsGeometry g → AreAlike g m w → (k : ℕ) → files_of g m k ≡ files_of g w k
files_alike g m w geom same k = grind (arith, nat_tests, used_alike, joined_alike)

pub has_block : (g : Geometry) (m w : Blocks) → IsGeometry g → AreAlike g m w → (k i b : ℕ) → HasBlock g w k i b → HasBlock g m k i b
has_block g m w geom same k i b h = record { node = h.node; is_node = used_alike g m w geom same k ∙ h.is_node; place = h.place }
