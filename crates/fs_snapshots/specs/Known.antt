-- What blocks have of snapshots: which node each name has, which blocks of files a snapshot keeps, and how many snapshots keep a block. It is described in docs/SPACE.md.
use Rattle.std.specs.Prelude.{◌≡◌, ◌⊎◌, ℕ, zero, suc, Bool, false, ◌&&◌, bytes_eq, find, List, [], ◌++◌, length, get_or, Option, None, Some}
use Rattle.std.specs.List.{filter, range_with_len}
use Rattle.base_types.specs.Runs.{run_places}
use Rattle.base_types.specs.Seal.{Blocks}
use Rattle.layout_geometry.specs.Geometry.{Geometry}
use Rattle.layout_bytes.specs.declared.node.Node.{Node}
use Rattle.layout_bytes.specs.declared.node.NodeKind.{NodeKind}
use Rattle.layout_bytes.specs.declared.node.NodeKind.TheVariants.{Free, Dir, File, Snapshot}
use Rattle.layout_bytes.specs.SnapshotName.{name_block}
use Rattle.crash_stands.specs.Files.{used_node}
use Rattle.crash_stands.specs.Kept.{kept_nodes}
use Rattle.crash_snapshots.specs.Kept.{is_snapshot}
use Rattle.engine_blocks.specs.Running.{has}
use Rattle.fs_files.specs.Calls.{places_of}
use Rattle.fs_files.specs.Shared.{keepers}

-- Which node each snapshot has.

-- whether this node is the snapshot of this name: its first block has the name
abbrev pub has_name : Blocks → List ℕ → Option Node → Bool
has_name m name None = false
has_name m name (Some node) = is_snapshot node.kind && bytes_eq (m (get_or (run_places node.runs) 0 0)) (name_block name)

-- the number of the snapshot of this name, where there is one
abbrev pub snapshot_number : Geometry → Blocks → List ℕ → Option ℕ
snapshot_number g m name = find (λ k. has_name m name (used_node g m k)) (range_with_len 1 g.i)

-- Which blocks a snapshot keeps.

-- the blocks of a node that is a file
abbrev pub blocks_by_kind : NodeKind → List ℕ → List ℕ
blocks_by_kind Free places = []
blocks_by_kind Dir places = []
blocks_by_kind File places = places
blocks_by_kind Snapshot places = []

abbrev pub file_blocks : Option Node → List ℕ
file_blocks None = []
file_blocks (Some node) = blocks_by_kind node.kind (run_places node.runs)

-- the blocks of file k that the snapshot of this number keeps
abbrev pub blocks_kept : Geometry → Blocks → ℕ → ℕ → List ℕ
blocks_kept g m number k = file_blocks (kept_nodes g m (places_of g m number) k)

-- the blocks of nodes 1 to n
abbrev pub node_blocks : (ℕ → List ℕ) → ℕ → List ℕ
node_blocks places zero = []
node_blocks places (suc n) = node_blocks places n ++ places (suc n)

-- How many snapshots keep a block.

abbrev pub is_snapshot_node : Option Node → Bool
is_snapshot_node None = false
is_snapshot_node (Some node) = is_snapshot node.kind

-- whether node k is a snapshot that keeps block b as a file's
abbrev pub keeps_block : Geometry → Blocks → ℕ → ℕ → Bool
keeps_block g m b k = is_snapshot_node (used_node g m k) && has (node_blocks (blocks_kept g m k) g.i) b

-- how many snapshots keep block b
abbrev pub count_keepers : Geometry → Blocks → ℕ → ℕ
count_keepers g m b = length (filter (keeps_block g m b) (range_with_len 1 g.i))

-- The list says of each block how many snapshots keep it. It has a number for each block of the disk, or none where nothing is kept.
pub record CountsKeepers (g : Geometry) (m : Blocks) (counts : List ℕ) : Type 0 where
  pub each : (b : ℕ) → keepers counts b ≡ count_keepers g m b
  pub room : (counts ≡ []) ⊎ (length counts ≡ g.n)

-- What is known of the snapshots is right: how many of them keep each block, and the number of each, by its name.
pub record KnowsSnapshots (g : Geometry) (m : Blocks) (counts : List ℕ) (numbers : List ℕ → Option ℕ) : Type 0 where
  pub kept : CountsKeepers g m counts
  pub named : (name : List ℕ) → numbers name ≡ snapshot_number g m name
