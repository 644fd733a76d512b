-- What a snapshot keeps, as it is read. It is described in README.md.
use Rattle.std.specs.Prelude.{◌≡◌, ℕ, ◌+◌, ◌<◌, ◌≤◌, Bool, IsTrue, List, [], length, slice_get, Option, None, Some}
use Rattle.std.specs.List.{All}
use Rattle.base_types.specs.Runs.{run_places}
use Rattle.base_types.specs.Seal.{Blocks}
use Rattle.base_types.specs.Layouts.{nodes_before}
use Rattle.layout_geometry.specs.Geometry.{Geometry}
use Rattle.layout_bytes.specs.declared.node.Node.{Node}
use Rattle.layout_bytes.specs.declared.node.NodeKind.TheVariants.{Snapshot}
use Rattle.layout_extent.specs.Renew.{AreOnce}
use Rattle.engine_blocks.specs.Puts.{IsData}
use Rattle.engine_blocks.specs.State.{State}
use Rattle.crash_stands.specs.Files.{used_node}
use Rattle.crash_stands.specs.Places.{dirs_from, table_blocks}
use Rattle.crash_stands.specs.Kept.{kept_files, kept_nodes, kept_places}
use Rattle.crash_stands.specs.Sharing.{HasKeptBlock, IsSoundKept}
use Rattle.fs_files.specs.NodeMaps.{NodeMap}

-- a snapshot that is read: its places, and how many blocks the directories have before each block of its node table
pub record KeptState : Type 0 where
  pub places : List ℕ
  pub before : List ℕ

abbrev pub places_by_node : (Node → List ℕ) → Option Node → List ℕ
places_by_node places None = []
places_by_node places (Some node) = places node

-- the nodes that the snapshot at these places keeps: its files, and the blocks of each node, in order
abbrev pub kept_map : Geometry → Blocks → List ℕ → NodeMap
kept_map g m places = record { files = kept_files g m places; places = λ k. places_by_node (kept_places g m places k) (kept_nodes g m places k) }

-- The snapshot is sound, has each of its blocks once, and each block of it and of the files that it keeps has 1,024 bytes.
pub record IsWholeKept (g : Geometry) (m : Blocks) (places : List ℕ) : Type 0 where
  pub sound : IsSoundKept g m places
  pub once : AreOnce places
  pub own : All (λ b. length (m b) ≡ 1024) places
  pub files : (k i b : ℕ) → HasKeptBlock g m places k i b → length (m b) ≡ 1024

-- Node k is a snapshot, at these places.
pub record IsSnapshotAt (g : Geometry) (m : Blocks) (k : ℕ) (places : List ℕ) : Type 0 where
  pub node : Node
  pub is_node : used_node g m k ≡ Some node
  pub kind : node.kind ≡ Snapshot
  pub places_are : run_places node.runs ≡ places

-- the numbers say of the first blocks of the snapshot's node table how many blocks the directories before each have
abbrev pub AreDirsBefore : Geometry → Blocks → List ℕ → List ℕ → Type 0
AreDirsBefore g m places before = (i : ℕ) → i < length before → slice_get before i ≡ Some (dirs_from g.layout (kept_nodes g m places) 1 (nodes_before g.layout i))

-- The snapshot has blocks of the data, those of a node table and one with its name among them, and was gone through: there is a number for each block of the table. Where blocks are known these are right.
pub record IsGoneThrough (tells : Bool) (s : State) (v : KeptState) : Type 0 where
  pub «data» : All (IsData s.books.geom) v.places
  pub table : 1 + table_blocks s.books.geom ≤ length v.places
  pub counts : length v.before ≡ table_blocks s.books.geom
  pub right : IsTrue tells → AreDirsBefore s.books.geom s.map v.places v.before

-- What a snapshot keeps may be read: it was gone through, and is whole where blocks are known.
pub record MayReadKept (tells : Bool) (s : State) (v : KeptState) : Type 0 where
  pub gone : IsGoneThrough tells s v
  pub whole : IsTrue tells → IsWholeKept s.books.geom s.map v.places

-- the snapshot has as many blocks as it needs: one with its name, those of the node table, and those of the directories that it keeps
abbrev pub HasItsParts : Geometry → Blocks → List ℕ → Type 0
HasItsParts g m places = length places ≡ 1 + table_blocks g + dirs_from g.layout (kept_nodes g m places) 1 g.i
