-- Which blocks of files snapshots keep, as the blocks themselves show it, and when nodes leave the snapshots as they are. It is described in docs/SPACE.md.
use Rattle.std.specs.Prelude.{◌≡◌, ◌↔◌, ℕ, ◌==◌, ◌&&◌, not, List, [], Option, None, Some}
use Rattle.std.specs.List.{filter}
use Rattle.base_types.specs.Seal.{Blocks}
use Rattle.layout_geometry.specs.Geometry.{Geometry}
use Rattle.layout_bytes.specs.declared.node.NodeKind.TheVariants.{Snapshot}
use Rattle.crash_stands.specs.Files.{FileNode, Files, used_node}
use Rattle.engine_blocks.specs.Running.{has}
use Rattle.fs_files.specs.Shared.{keepers}
use Rattle.fs_snapshots.specs.Known.{blocks_kept, file_blocks, node_blocks, snapshot_number}
use Rattle.fs_session.specs.Lists.{KeptLists}

-- the blocks of each file that the snapshot of this number keeps, where there is one
abbrev pub kept_by_one : Geometry → Blocks → Option ℕ → ℕ → List ℕ
kept_by_one g m None k = []
kept_by_one g m (Some number) k = blocks_kept g m number k

-- of each snapshot, by its name, the blocks of each file that it keeps
abbrev pub kept_lists : Geometry → Blocks → KeptLists
kept_lists g m name = kept_by_one g m (snapshot_number g m name)

-- What a snapshot that comes or goes has to do with.

-- the blocks of all files, in the order of their numbers
abbrev pub live_files : Geometry → Blocks → List ℕ
live_files g m = node_blocks (λ k. file_blocks (used_node g m k)) g.i

-- the blocks of all files that the snapshot of this number keeps
abbrev pub kept_files_of : Geometry → Blocks → ℕ → List ℕ
kept_files_of g m number = node_blocks (blocks_kept g m number) g.i

-- those of these blocks that one snapshot keeps, by these counts, and no file of the tree has
abbrev pub alone_among : List ℕ → List ℕ → List ℕ → List ℕ
alone_among counts files kept = filter (λ b. (keepers counts b == 1) && not (has files b)) kept

-- When nodes leave the snapshots as they are.

-- The same nodes are snapshots, with the same bytes in the same blocks.
pub record LeavesSnapshots (old new : Files) (old_places new_places : ℕ → List ℕ) : Type 0 where
  pub files : (k : ℕ) (x : FileNode) → x.kind ≡ Snapshot → (old k ≡ Some x) ↔ (new k ≡ Some x)
  pub places : (k : ℕ) (x : FileNode) → x.kind ≡ Snapshot → old k ≡ Some x → new_places k ≡ old_places k
