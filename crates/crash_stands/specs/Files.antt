-- The nodes in use among some blocks, each with its bytes. docs/LAYOUT.md describes them.
use Rattle.std.specs.Prelude.{ℕ, ◌&&◌, nat_le, List, [], ◌∷◌, ◌++◌, take, drop, Option, option_map}
use Rattle.base_types.specs.Seal.{Blocks}
use Rattle.base_types.specs.Runs.{run_places}
use Rattle.base_types.specs.declared.layout.Layout.{Layout}
use Rattle.layout_geometry.specs.Geometry.{Geometry}
use Rattle.layout_bytes.specs.declared.node.Node.{Node}
use Rattle.layout_bytes.specs.declared.node.NodeKind.{NodeKind}
use Rattle.layout_bytes.specs.Bytes.{when}
use Rattle.layout_bytes.specs.Node.{content_of, node_at}

-- a node in use: its kind, how many slots name it, and its bytes
pub record FileNode : Type 0 where
  pub kind : NodeKind
  pub links : ℕ
  pub bytes : List ℕ

-- the nodes in use, by their numbers
abbrev pub Files : Type 0
Files = ℕ → Option FileNode

-- the bytes of these blocks, one behind the other
abbrev pub joined : Blocks → List ℕ → List ℕ
joined m [] = []
joined m (b ∷ bs) = m b ++ joined m bs

-- the bytes of a node: of those of its blocks as many as are its content
abbrev pub content : Layout → Blocks → Node → List ℕ
content l m node = take (content_of l node.kind node.size) (joined m (run_places node.runs))

-- the bytes of its blocks past its content
abbrev pub past_content : Layout → Blocks → Node → List ℕ
past_content l m node = drop (content_of l node.kind node.size) (joined m (run_places node.runs))

-- node k, where k is a number of a node and the node is in use
abbrev pub used_node : Geometry → Blocks → ℕ → Option Node
used_node g m k = when (nat_le 1 k && nat_le k g.i) (node_at g m k)

abbrev pub file_of : Layout → Blocks → Node → FileNode
file_of l m node = record { kind = node.kind; links = node.links; bytes = content l m node }

-- the nodes in use among these blocks
abbrev pub files_of : Geometry → Blocks → Files
files_of g m k = option_map (file_of g.layout m) (used_node g m k)
