-- A node as the calls on files work on it, and where it is in the node table.
use Rattle.std.specs.Prelude.{◌≡◌, ℕ, ◌+◌, ◌*◌, ◌==◌, ◌^◌, ◌≤◌, Bool, true, IsTrue, List, length, slice_index}
use Rattle.std.specs.List.{All}
use Rattle.base_types.specs.Seal.{Blocks}
use Rattle.base_types.specs.declared.layout.Layout.{Layout}
use Rattle.base_types.specs.Layouts.{most_runs, nodes_before, node_block as block_of, node_byte, slot_place, slots_before, slots_held, directory_bytes}
use Rattle.layout_geometry.specs.Geometry.{Geometry, table_start}
use Rattle.layout_extent.specs.Runs.{runs_of, stretches}
use Rattle.layout_bytes.specs.declared.node.Node.{Node}
use Rattle.layout_bytes.specs.declared.node.NodeKind.{NodeKind}
use Rattle.layout_bytes.specs.declared.node.NodeKind.TheVariants.{Free, Dir, File, Snapshot}
use Rattle.base_types.specs.declared.words.Class.{Class}
use Rattle.base_types.specs.declared.words.Class.TheVariants.{Meta, Content}
use Rattle.layout_bytes.specs.Bytes.{has_zeros}
use Rattle.layout_bytes.specs.Node.{node_fits, node_spelling, size_of}
use Rattle.engine_blocks.specs.Puts.{IsData}
use Rattle.engine_blocks.specs.State.{State}
use Rattle.engine_blocks.specs.Calls.{IsWithBlock}
use Rattle.fs_files.specs.declared.nodes.OpenNode.{OpenNode}
use Rattle.fs_files.specs.Drafts.{DraftState, drafted}
use Rattle.fs_files.specs.Bytes.{overwrite, blocks_for}

-- the node as the node table has it: what its size says of its bytes, and its places as runs
abbrev pub node_of_open : Layout → OpenNode → Node
node_of_open l node = record { kind = node.kind; links = node.links; size = size_of l node.kind node.size; runs = runs_of node.places }

-- the class of a node's blocks
abbrev pub class_of : NodeKind → Class
class_of Free = Meta
class_of Dir = Meta
class_of File = Content
class_of Snapshot = Content

-- the block of the node table in which node k is
abbrev pub node_block : Geometry → ℕ → ℕ
node_block g k = table_start g + block_of g.layout k

-- the first number behind those of the nodes in node k's block
abbrev pub block_end : Layout → ℕ → ℕ
block_end l k = nodes_before l (block_of l k + 1) + 1

-- node k's kind byte, in these bytes of its block
abbrev pub kind_in : Layout → List ℕ → ℕ → ℕ
kind_in l table k = slice_index table (node_byte l k)

-- the draft has the block of node k's, so it isn't freed
abbrev pub HasTable : State → DraftState → ℕ → Type 0
HasTable s d k = length (drafted d s.map (node_block s.books.geom k)) ≡ 1024

-- the most bytes of a node in any layout: those of 60 runs of 1,048,576 blocks
abbrev pub largest_node : ℕ
largest_node = 60 * 2 ^ 30

-- a directory of so many bytes has none behind its last slot
abbrev pub AreWholeSlots : Layout → ℕ → Type 0
AreWholeSlots l n = directory_bytes l (slots_held l n) ≡ n

-- whether the blocks of a directory of so many bytes have room for no slot more
abbrev pub fills_blocks : Layout → ℕ → Bool
fills_blocks l n = slots_before l (blocks_for n) == slots_held l n

-- A directory with these bytes may be cut to the first n: a slot ends there, and up to the place of the next one it has zeros.
pub record MayEndAt (l : Layout) (bytes : List ℕ) (n : ℕ) : Type 0 where
  pub whole : AreWholeSlots l n
  pub gap : IsTrue (has_zeros bytes n (slot_place l (slots_held l n)))

-- A node in use that fits the disk: it has the blocks that its bytes need, all of them data blocks, in at most as many runs as its layout has room for, and a directory's are whole slots.
pub record IsOpen (g : Geometry) (node : OpenNode) : Type 0 where
  pub used : node.kind ≡ Free → ⊥
  pub fits : node_fits g (node_of_open g.layout node) ≡ true
  pub «data» : All (IsData g) node.places
  pub count : length node.places ≡ blocks_for node.size
  pub runs : stretches node.places ≤ most_runs g.layout
  pub most : node.size ≤ largest_node
  pub file : node.kind ≡ File → node.size ≤ 2 ^ 30
  pub slots : node.kind ≡ Dir → AreWholeSlots g.layout node.size

-- Node k has these bytes now, and nothing else is new.
abbrev pub IsWithNode : Geometry → Blocks → Blocks → ℕ → Node → Type 0
IsWithNode g old new k node = IsWithBlock old new (node_block g k) (overwrite (node_byte g.layout k) (node_spelling g.layout node) (old (node_block g k)))
