-- The places of a snapshot's blocks, and which of them each kept node has.
use Rattle.std.specs.Prelude.{ℕ, zero, suc, ◌+◌, ◌-◌, Bool, true, false, if◌then◌else◌, List, take, drop, get_or, Option, None, Some}
use Rattle.base_types.specs.Seal.{Blocks}
use Rattle.base_types.specs.Runs.{run_places}
use Rattle.base_types.specs.declared.layout.Layout.{Layout}
use Rattle.layout_geometry.specs.Geometry.{Geometry, table_start, data_start}
use Rattle.layout_bytes.specs.declared.node.Node.{Node}
use Rattle.layout_bytes.specs.declared.node.NodeKind.{NodeKind}
use Rattle.layout_bytes.specs.declared.node.NodeKind.TheVariants.{Free, Dir, File, Snapshot}
use Rattle.layout_bytes.specs.Node.{content_blocks}

-- the nodes in use, by their numbers
abbrev pub NodesInUse : Type 0
NodesInUse = ℕ → Option Node

-- whether a snapshot has the blocks of a node of this kind in blocks of its own: those of directories alone
abbrev pub is_copied : NodeKind → Bool
is_copied Free = false
is_copied Dir = true
is_copied File = false
is_copied Snapshot = false

-- A snapshot has these blocks, in order: one with its name, those of the node table, and those of the directories.

-- how many blocks the node table has
abbrev pub table_blocks : Geometry → ℕ
table_blocks g = data_start g - table_start g

-- the blocks of the node table where the snapshot at these places has its own
abbrev pub kept_table : Blocks → List ℕ → Geometry → Blocks
kept_table m places g b = m (get_or places (1 + (b - table_start g)) 0)

-- the places of the directories' blocks
abbrev pub dir_part : Geometry → List ℕ → List ℕ
dir_part g places = drop (1 + table_blocks g) places

-- how many blocks of directories a node has
abbrev pub dir_blocks : Layout → Option Node → ℕ
dir_blocks l None = 0
dir_blocks l (Some node) = if is_copied node.kind then content_blocks l node.kind node.size else 0

-- how many the directories among n numbers from k on have
abbrev pub dirs_from : Layout → NodesInUse → ℕ → ℕ → ℕ
dirs_from l nodes k zero = 0
dirs_from l nodes k (suc n) = dir_blocks l (nodes k) + dirs_from l nodes (k + 1) n

-- the places of node k, a directory's among these of all directories, in the order of their numbers, and a file's its own
abbrev pub places_by : Layout → NodesInUse → List ℕ → ℕ → Node → List ℕ
places_by l nodes dirs k node =
    if is_copied node.kind then take (content_blocks l node.kind node.size) (drop (dirs_from l nodes 1 (k - 1)) dirs) else run_places node.runs
