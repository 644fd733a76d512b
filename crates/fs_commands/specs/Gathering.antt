-- Which blocks of nodes are gathered where a snapshot is made or goes. They are described in docs/FILE-SYSTEM.md.
use Rattle.std.specs.Prelude.{ℕ, ◌+◌, List, length, take, drop}
use Rattle.std.specs.List.{flat_map, range_with_len}
use Rattle.base_types.specs.declared.layout.Layout.{Layout}
use Rattle.base_types.specs.Layouts.{node_size, nodes_in_block, rank_byte}
use Rattle.base_types.specs.Seal.{Blocks}
use Rattle.layout_geometry.specs.Geometry.{Geometry}
use Rattle.layout_bytes.specs.SnapshotName.{name_block}
use Rattle.crash_stands.specs.Files.{joined, used_node}
use Rattle.crash_stands.specs.Places.{table_blocks}
use Rattle.crash_snapshots.specs.Kept.{kept_bytes}
use Rattle.crash_snapshots.specs.Making.{kept_blocks, snapshot_of}
use Rattle.crash_snapshots.specs.Places.{all_dirs}
use Rattle.fs_snapshots.specs.Known.{file_blocks, node_blocks}

-- the blocks of all files that a node table has, in the order of their numbers
abbrev pub files_in_table : Geometry → Blocks → List ℕ
files_in_table g table = node_blocks (λ k. file_blocks (used_node g table k)) g.i

-- the blocks of all directories, in the order of their numbers
abbrev pub live_dirs : Geometry → Blocks → List ℕ
live_dirs g m = all_dirs (used_node g m) 1 g.i

-- the node at a place of a block of the node table as a snapshot keeps it: zeros in the stead of a snapshot's
abbrev pub kept_at_rank : Layout → List ℕ → ℕ → List ℕ
kept_at_rank l table rank = kept_bytes l (take (node_size l) (drop (rank_byte l rank) table))

-- such a block as a snapshot keeps it
abbrev pub kept_table_block : Layout → List ℕ → List ℕ
kept_table_block l table = joined (kept_at_rank l table) (range_with_len 0 (nodes_in_block l))

-- the node table as a snapshot keeps it
abbrev pub table_to_keep : Geometry → Blocks → List ℕ
table_to_keep g m = flat_map (λ block. block) (kept_blocks g m 0 (table_blocks g))

-- the bytes of a snapshot of this name, one block after the other
abbrev pub snapshot_bytes : Geometry → Blocks → List ℕ → List ℕ
snapshot_bytes g m name = flat_map (λ block. block) (snapshot_of g m (name_block name))

-- how many blocks a snapshot has
abbrev pub snapshot_count : Geometry → Blocks → ℕ
snapshot_count g m = 1 + (table_blocks g + length (live_dirs g m))
