-- The nodes in one block of a node table.
use Rattle.std.specs.Prelude.{ℕ, ◌-◌, List, take, drop}
use Rattle.base_types.specs.Layouts.{node_size, rank_byte}
use Rattle.layout_geometry.specs.Geometry.{Geometry}
use Rattle.layout_bytes.specs.Node.{node_of}
use Rattle.crash_stands.specs.Places.{NodesInUse}

-- the nodes in use among those in these bytes, by their numbers in the block, from 1 on
abbrev pub nodes_in : Geometry → List ℕ → NodesInUse
nodes_in g table r = node_of g (take (node_size g.layout) (drop (rank_byte g.layout (r - 1)) table))
