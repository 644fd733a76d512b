-- When a snapshot was made of blocks.
use Rattle.std.specs.Prelude.{◌≡◌, ℕ, ◌≤◌, ◌==◌, ⊤, Bool, true, false, if◌then◌else◌, List, [], ◌∷◌, replicate, slice_get, slice_index, None, Some, option_and_then}
use Rattle.base_types.specs.Seal.{Blocks}
use Rattle.base_types.specs.Runs.{run_places}
use Rattle.base_types.specs.declared.layout.Layout.{Layout}
use Rattle.layout_geometry.specs.Geometry.{Geometry}
use Rattle.layout_bytes.specs.declared.node.Node.{Node}
use Rattle.layout_bytes.specs.declared.node.NodeKind.{NodeKind}
use Rattle.layout_bytes.specs.declared.node.NodeKind.TheVariants.{Free, Dir, File, Snapshot}
use Rattle.layout_bytes.specs.Node.{node_size, node_bytes, kind_byte}
use Rattle.crash_stands.specs.Files.{Files, used_node}
use Rattle.crash_stands.specs.Places.{kept_table, dir_part}
use Rattle.crash_snapshots.specs.Places.{all_dirs}

-- whether a node of this kind is a snapshot
abbrev pub is_snapshot : NodeKind → Bool
is_snapshot Free = false
is_snapshot Dir = false
is_snapshot File = false
is_snapshot Snapshot = true

-- the files, without the snapshots among them
abbrev pub without_snapshots : Files → Files
without_snapshots files k = option_and_then (λ file. if is_snapshot file.kind then None else Some file) (files k)

-- The blocks at the second places have what those at the first ones had before, one by one.
abbrev pub AreCopies : Blocks → Blocks → List ℕ → List ℕ → Type 0
AreCopies old new [] [] = ⊤
AreCopies old new (b ∷ bs) (p ∷ ps) = (new p ≡ old b) × AreCopies old new bs ps
AreCopies old new [] (p ∷ ps) = ⊥
AreCopies old new (b ∷ bs) [] = ⊥

-- the bytes of a node as a snapshot keeps them: zeros of another snapshot
abbrev pub kept_bytes : Layout → List ℕ → List ℕ
kept_bytes l bytes = if slice_index bytes 0 == kind_byte Snapshot then replicate (node_size l) 0 else bytes

-- The blocks `new` have a snapshot of the blocks `old` at these places: the node table without snapshots, and the blocks of all directories. The blocks of files are as they were.
pub record HasSnapshot (g : Geometry) (old new : Blocks) (places : List ℕ) : Type 0 where
  pub table : (k : ℕ) → 1 ≤ k → k ≤ g.i → node_bytes g (kept_table new places g) k ≡ kept_bytes g.layout (node_bytes g old k)
  pub dirs : AreCopies old new (all_dirs (used_node g old) 1 g.i) (dir_part g places)
  pub files : (k i b : ℕ) (node : Node) → used_node g old k ≡ Some node → node.kind ≡ File → slice_get (run_places node.runs) i ≡ Some b → new b ≡ old b
