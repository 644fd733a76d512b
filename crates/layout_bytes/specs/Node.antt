-- Nodes as they are in the node table. They are described in docs/LAYOUT.md.
use Rattle.std.specs.Prelude.{◌≡◌, ◌<◌, ℕ, zero, suc, ◌+◌, ◌-◌, ◌*◌, ◌/◌, ◌%◌, ◌^◌, Bool, true, ◌&&◌, not, ◌==◌, nat_lt, nat_le, if◌then◌else◌, List, [], ◌∷◌, ◌++◌, length, take, drop, replicate, slice_index, Option, Some, None}
use Rattle.std.specs.List.{All}
use Rattle.byteorder.specs.Endian.{little_bytes}
use Rattle.base_types.specs.Seal.{Blocks}
use Rattle.base_types.specs.declared.places.Run.{Run}
use Rattle.base_types.specs.declared.layout.Layout.{Layout}
pub use Rattle.base_types.specs.Layouts.{node_size, most_runs}
use Rattle.base_types.specs.Layouts.{node_block, node_byte, slots_held, content_size}
use Rattle.layout_geometry.specs.Geometry.{Geometry, table_start, data_start}
use Rattle.layout_bytes.specs.declared.node.Node.{Node}
use Rattle.layout_bytes.specs.declared.node.NodeKind.{NodeKind}
use Rattle.layout_bytes.specs.declared.node.NodeKind.TheVariants.{Free, Dir, File, Snapshot}
use Rattle.layout_bytes.specs.Bytes.{field, has_zeros, when}

-- The fields.

-- the kind that a node's first byte tells, for a node in use
abbrev pub used_kind : ℕ → Option NodeKind
used_kind n = if n == 1 then Some Dir else if n == 2 then Some File else if n == 3 then Some Snapshot else None

-- the first n runs, 8 bytes each
abbrev pub runs_in : ℕ → List ℕ → List Run
runs_in zero b = []
runs_in (suc n) b = record { first = field b 0 4; count = field b 4 4 } ∷ runs_in n (drop 8 b)

-- how many blocks the runs have
abbrev pub run_blocks : List Run → ℕ
run_blocks [] = 0
run_blocks (r ∷ rs) = r.count + run_blocks rs

-- each run has blocks, all of them data blocks, and none begins right behind the one before, which ended before block `end`
abbrev pub runs_fit : Geometry → ℕ → List Run → Bool
runs_fit g end [] = true
runs_fit g end (r ∷ rs) =
    nat_lt 0 r.count && (nat_le (data_start g) r.first && (nat_le (r.first + r.count) g.n && (not (r.first == end) && runs_fit g (r.first + r.count) rs)))

-- a directory's size is 64 for each slot; a file is bounded in links and bytes
abbrev pub kind_fits : Node → NodeKind → Bool
kind_fits node Free = true
kind_fits node Dir = node.size % 64 == 0
kind_fits node File = nat_le node.links 65535 && nat_le node.size 1073741824
kind_fits node Snapshot = true

-- how many bytes of a node's blocks are its content, by its size: all that it says, and for a directory those up to the end of its last slot
abbrev pub content_of : Layout → NodeKind → ℕ → ℕ
content_of l Free size = size
content_of l Dir size = content_size l size
content_of l File size = size
content_of l Snapshot size = size

-- what the size says of a node with so many bytes of content
abbrev pub size_of : Layout → NodeKind → ℕ → ℕ
size_of l Free bytes = bytes
size_of l Dir bytes = 64 * slots_held l bytes
size_of l File bytes = bytes
size_of l Snapshot bytes = bytes

-- how many blocks a node of this kind and size has
abbrev pub content_blocks : Layout → NodeKind → ℕ → ℕ
content_blocks l kind size = (content_of l kind size + 1023) / 1024

-- a node in use: it has a link, and its runs have as many blocks as its content needs
abbrev pub node_fits : Geometry → Node → Bool
node_fits g node =
    nat_lt 0 node.links && (nat_le (length node.runs) (most_runs g.layout) && (runs_fit g 0 node.runs
    && ((run_blocks node.runs == content_blocks g.layout node.kind node.size) && kind_fits node node.kind)))

-- the bytes of a node that carry nothing are zeros
abbrev pub spare_zeros : Layout → List ℕ → Bool
spare_zeros l b = (slice_index b 1 == 0) && (has_zeros b 16 32 && has_zeros b (32 + 8 * field b 2 2) (node_size l))

abbrev pub node_fields : NodeKind → List ℕ → Node
node_fields kind b = record { kind = kind; links = field b 4 4; size = field b 8 8; runs = runs_in (field b 2 2) (drop 32 b) }

abbrev pub node_with : Geometry → List ℕ → Option NodeKind → Option Node
node_with g b None = None
node_with g b (Some kind) = when (spare_zeros g.layout b) (when (node_fits g (node_fields kind b)) (Some (node_fields kind b)))

-- the node in use in these bytes, if they are one's
unfoldable pub node_of : Geometry → List ℕ → Option Node
node_of g b = node_with g b (used_kind (slice_index b 0))

-- the bytes of node k among these blocks
abbrev pub node_bytes : Geometry → Blocks → ℕ → List ℕ
node_bytes g m k = take (node_size g.layout) (drop (node_byte g.layout k) (m (table_start g + node_block g.layout k)))

-- node k, where it is in use
abbrev pub node_at : Geometry → Blocks → ℕ → Option Node
node_at g m k = node_of g (node_bytes g m k)

-- how a node is in its bytes

abbrev pub kind_byte : NodeKind → ℕ
kind_byte Free = 0
kind_byte Dir = 1
kind_byte File = 2
kind_byte Snapshot = 3

abbrev pub run_bytes : List Run → List ℕ
run_bytes [] = []
run_bytes (r ∷ rs) = little_bytes 4 r.first ++ (little_bytes 4 r.count ++ run_bytes rs)

abbrev pub node_spelling : Layout → Node → List ℕ
node_spelling l node =
    kind_byte node.kind ∷ 0 ∷ (little_bytes 2 (length node.runs) ++ (little_bytes 4 node.links ++ (little_bytes 8 node.size
    ++ (replicate 16 0 ++ (run_bytes node.runs ++ replicate (node_size l - 32 - 8 * length node.runs) 0)))))

-- a node that isn't in use: it has no links, no bytes and no runs
abbrev pub free_node : Node
free_node = record { kind = Free; links = 0; size = 0; runs = [] }

-- a free node has nothing, and one in use fits
abbrev pub FitsAs : Geometry → Node → NodeKind → Type 0
FitsAs g node Free = node ≡ free_node
FitsAs g node Dir = node_fits g node ≡ true
FitsAs g node File = node_fits g node ≡ true
FitsAs g node Snapshot = node_fits g node ≡ true

-- each number of a node has room in its bytes
pub record HasRoom (node : Node) : Type 0 where
  pub links : node.links < 256 ^ 4
  pub size : node.size < 256 ^ 8
  pub runs : All (λ (r : Run). (r.first < 256 ^ 4) × (r.count < 256 ^ 4)) node.runs

-- a node and its bytes: it has room in them, it is free or fits, and they are its spelling
pub record IsNode (g : Geometry) (bytes : List ℕ) (node : Node) : Type 0 where
  pub room : HasRoom node
  pub fits : FitsAs g node node.kind
  pub spelling : bytes ≡ node_spelling g.layout node
