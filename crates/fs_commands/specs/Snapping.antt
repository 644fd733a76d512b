-- What snap and unsnap find before they begin, and what their drafts make. They are described in docs/FILE-SYSTEM.md.
use Rattle.std.specs.Prelude.{◌≡◌, ℕ, ◌+◌, ◌≤◌, Bool, IsTrue, List, [], ◌∷◌, ◌++◌, length, take, None, Some}
use Rattle.std.specs.List.{All}
use Rattle.base_types.specs.Layouts.{most_runs}
use Rattle.base_types.specs.Seal.{Blocks}
use Rattle.layout_geometry.specs.Geometry.{Geometry, bitmap_blocks}
use Rattle.layout_bytes.specs.declared.node.Node.{Node}
use Rattle.layout_bytes.specs.declared.node.NodeKind.TheVariants.{Snapshot}
use Rattle.layout_extent.specs.Runs.{stretches}
use Rattle.lang_tree.specs.Figures.{Figures, snapping}
use Rattle.lang_tree.specs.Sharing.{unsnapping}
use Rattle.crash_stands.specs.Files.{used_node}
use Rattle.engine_blocks.specs.Puts.{IsData}
use Rattle.engine_blocks.specs.State.{State, reusable_blocks}
use Rattle.fs_files.specs.Calls.{IsWithFile, IsWithPlaces, files_in, places_in}
use Rattle.fs_files.specs.Drafts.{ChangesSome, DraftState, nothing_drafted}
use Rattle.fs_files.specs.Finish.{ChangesOnly}
use Rattle.fs_files.specs.Nodes.{node_block}
use Rattle.fs_dirs.specs.Directories.{IsNumber}
use Rattle.fs_snapshots.specs.Known.{CountsKeepers, snapshot_number}
use Rattle.fs_session.specs.Commands.{least_number, places_of}
use Rattle.fs_session.specs.Sessions.{MayPlan}
use Rattle.fs_session.specs.Snapshots.{alone_among, kept_files_of, live_files}
use Rattle.fs_session.specs.Space.{HasRoom}
use Rattle.fs_commands.specs.declared.snapping.Gone.{Gone}
use Rattle.fs_commands.specs.declared.snapping.GoneLists.{GoneLists}
use Rattle.fs_commands.specs.declared.snapping.NewSnapshot.{NewSnapshot}
use Rattle.fs_commands.specs.Gathering.{live_dirs, snapshot_bytes, snapshot_count}
use Rattle.fs_commands.specs.Known.{CountsOut}

-- node n is a snapshot
abbrev pub IsSnapshot : Geometry → Blocks → ℕ → Type 0
IsSnapshot g m n = (node : Node) × (used_node g m n ≡ Some node) × (node.kind ≡ Snapshot)

-- A snapshot comes.

-- the figures of a snapshot of these blocks
abbrev pub figures_to_snap : State → Figures
figures_to_snap s = snapping (bitmap_blocks s.books.geom) (snapshot_count s.books.geom s.map)

-- A snapshot of this name may be made, for which there is room: no other has the name, its number is the least that no node has, and it is to keep these blocks of files and directories.
pub record MaySnap (tells : Bool) (s : State) (name : List ℕ) (new : NewSnapshot) : Type 0 where
  pub number : IsNumber s.books.geom.i new.number
  pub «data» : All (IsData s.books.geom) new.dirs.items
  pub weight : s.books.running.weight + new.cost ≤ s.books.room
  pub least : IsTrue tells → least_number s ≡ Some new.number
  pub free : IsTrue tells → snapshot_number s.books.geom s.map name ≡ None
  pub files : IsTrue tells → new.files.items ≡ live_files s.books.geom s.map
  pub dirs : IsTrue tells → new.dirs.items ≡ live_dirs s.books.geom s.map
  pub cost : IsTrue tells → new.cost ≡ (figures_to_snap s).cost
  pub room : IsTrue tells → HasRoom s.books (figures_to_snap s)

-- Node `number` became a snapshot of this name, in the least blocks that may be taken, and nothing else changed of the nodes.
pub record DraftsSnapshot (old new : State) (number : ℕ) (name : List ℕ) (d : DraftState) : Type 0 where
  pub file : IsWithFile (files_in old nothing_drafted) (files_in new d) number (Some (record { kind = Snapshot; links = 1; bytes = snapshot_bytes old.books.geom old.map name }))
  pub places : IsWithPlaces (places_of old) (places_in new d) number (take (snapshot_count old.books.geom old.map) (reusable_blocks new.books))
  pub enough : snapshot_count old.books.geom old.map ≤ length (reusable_blocks new.books)
  pub runs : stretches (take (snapshot_count old.books.geom old.map) (reusable_blocks new.books)) ≤ most_runs old.books.geom.layout
  pub taken : d.taken ≡ take (snapshot_count old.books.geom old.map) (reusable_blocks new.books)
  pub freed : d.freed ≡ []
  pub fresh : length d.fresh ≤ snapshot_count old.books.geom old.map
  pub only : ChangesOnly (node_block old.books.geom number ∷ []) d
  pub changes : ChangesSome d

-- A snapshot goes.

-- What goes with the snapshot of this number, where so many snapshots keep each block: how many blocks are its own, those of the files that it keeps, and of these the ones that nothing else has.
pub record GoesWith (s : State) (counts : List ℕ) (number : ℕ) (lists : GoneLists) : Type 0 where
  pub own : lists.own ≡ length (places_of s number)
  pub kept : lists.kept.items ≡ kept_files_of s.books.geom s.map number
  pub alone : lists.alone.items ≡ alone_among counts (live_files s.books.geom s.map) lists.kept.items

-- the figures of the snapshot of this number that goes, with so many blocks that nothing else has
abbrev pub figures_to_unsnap : State → ℕ → ℕ → Figures
figures_to_unsnap s number alone = unsnapping (bitmap_blocks s.books.geom) (length (places_of s number)) alone

-- The snapshot of this name may go, for which there is room: this is its number, it keeps these blocks of files, and of these nothing else has the last ones.
pub record MayUnsnap (tells : Bool) (s : State) (name counts : List ℕ) (gone : Gone) : Type 0 where
  pub number : IsNumber s.books.geom.i gone.number
  pub «data» : All (IsData s.books.geom) gone.alone.items
  pub weight : s.books.running.weight + gone.cost ≤ s.books.room
  pub named : IsTrue tells → snapshot_number s.books.geom s.map name ≡ Some gone.number
  pub kept : IsTrue tells → gone.kept.items ≡ kept_files_of s.books.geom s.map gone.number
  pub alone : IsTrue tells → gone.alone.items ≡ alone_among counts (live_files s.books.geom s.map) gone.kept.items
  pub cost : IsTrue tells → gone.cost ≡ (figures_to_unsnap s gone.number (length gone.alone.items)).cost
  pub room : IsTrue tells → HasRoom s.books (figures_to_unsnap s gone.number (length gone.alone.items))

-- It may go, and the numbers of snapshots that keep each block are told without it.
pub record MayTake (tells : Bool) (s : State) (name : List ℕ) (gone : Gone) (rest : List ℕ) : Type 0 where
  pub counts : List ℕ
  pub may : MayPlan tells s counts
  pub known : IsTrue tells → CountsKeepers s.books.geom s.map counts
  pub goes : MayUnsnap tells s name counts gone
  pub out : IsTrue tells → CountsOut gone.kept.items counts rest

-- Node `number` is out of use, its blocks and these are freed, and nothing else changed of the nodes.
pub record DraftsLoss (old new : State) (number : ℕ) (alone : List ℕ) (d : DraftState) : Type 0 where
  pub file : IsWithFile (files_in old nothing_drafted) (files_in new d) number None
  pub places : IsWithPlaces (places_of old) (places_in new d) number []
  pub taken : d.taken ≡ []
  pub freed : d.freed ≡ alone ++ places_of old number
  pub fresh : length d.fresh ≡ 0
  pub only : ChangesOnly (node_block old.books.geom number ∷ []) d
  pub changes : ChangesSome d
