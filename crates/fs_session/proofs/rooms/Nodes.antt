-- The blocks of nodes where a tree stands: as many as the tree says, in few runs, and marked where a node has them.
use Rattle.std.proofs.Common.{⊎_elim, subst, ◌≡◌, ◌≢◌, ◌⊎◌, inl, inr, ℕ, ◌+◌, ◌-◌, ◌<◌, ◌≤◌, true, false, List, [], ◌∷◌, length, Option, Some, None, option_map, option_and_then, find, is_none, refl, sym, ap, ◌∙◌, arith}
use Rattle.std.specs.List.{range_with_len}
use Rattle.std.specs.FinMap.{empty, get, keys}
use Rattle.std.proofs.lemmas.Bool.{cases_Bool, true≢false, false≢true, or_cases, or_left, or_right}
use Rattle.std.proofs.lemmas.List.{nil_from_length}
use Rattle.std.proofs.lemmas.Option.{none-some}
use Rattle.base_types.specs.Seal.{Blocks}
use Rattle.base_types.specs.declared.places.Run.{Run}
use Rattle.base_types.specs.Runs.{run_places}
use Rattle.base_types.specs.declared.layout.Layout.{Layout}
use Rattle.base_types.specs.Layouts.{directory_blocks, most_runs}
use Rattle.layout_geometry.specs.Geometry.{Geometry, data_start}
use Rattle.layout_bytes.specs.declared.node.Node.{Node}
use Rattle.layout_bytes.specs.declared.node.NodeKind.TheVariants.{Snapshot}
use Rattle.layout_bytes.specs.Bitmap.{is_set}
use Rattle.layout_bytes.specs.Node.{runs_fit}
use Rattle.layout_extent.specs.Runs.{AreTidy, runs_of, stretches}
use Rattle.lang_tree.specs.Conditions.{is_snapshot, least_unused}
use Rattle.lang_tree.specs.Figures.{blocks, blocks_for}
use Rattle.lang_tree.specs.Names.{names_in}
use Rattle.lang_tree.specs.Tree.{Kept, Snapshots, Thing, Tree, Dir as DirThing, File as FileThing}
use Rattle.lang_tree.specs.Walk.{bytes_in, is_dir}
use Rattle.engine_blocks.specs.Puts.{IsData}
use Rattle.engine_blocks.specs.Running.{has}
use Rattle.engine_blocks.specs.Ranges.{same_from}
use Rattle.engine_blocks.specs.State.{State, live_blocks}
use Rattle.crash_stands.specs.Places.{kept_table}
use Rattle.crash_stands.specs.Files.{content, file_of, files_of, used_node}
use Rattle.crash_stands.specs.Inodes.{Inode, Inodes, ADir, AFile, IsInodeOf, inode_by, thing_of}
use Rattle.crash_stands.specs.Maps.{IsMapOf}
use Rattle.crash_stands.specs.Sharing.{IsKeptBlock}
use Rattle.crash_stands.specs.Stands.{AreSound, HasBlock, IsTreeOf}
use Rattle.fs_inodes.specs.Figures.{inode_blocks}
use Rattle.fs_inodes.specs.Lookups.{inode_at, number_at, slots_of}
use Rattle.fs_files.specs.Calls.{places_or_none}
use Rattle.fs_session.specs.Commands.{places_of}
use Rattle.fs_session.specs.Lists.{is_kept_block}
use Rattle.fs_session.specs.Snapshots.{kept_lists}
use Rattle.fs_session.specs.Memory.{room_of}
use Rattle.fs_session.specs.Room.{HoldsTree, blocks_in_use, is_in_use}
use Rattle.fs_session.proofs.standing.Lists.{has_place}
use Rattle.fs_session.proofs.standing.Marks.{HasSlots, HasItsBytes, inode_has, place_marked}
use Rattle.fs_session.proofs.standing.Nodes.{block_place, first_fits, place_data, places_at}
use Rattle.fs_session.proofs.rooms.KeptBlocks.{SnapshotLaws, kept_listed, listed_kept}
use Rattle.fs_session.proofs.rooms.SnapshotBlocks.{HasDirectories, HasWholeFiles, snapshot_has}
use Rattle.fs_snapshots.specs.Among.{among_nodes, node_among, used_number}
use Rattle.fs_snapshots.specs.Nodes.{used_fits}

-- The runs of a node.

pub are_tidy : (g : Geometry) (end : ℕ) (rs : List Run) → runs_fit g end rs ≡ true → AreTidy rs
are_tidy g end [] fits = tt
are_tidy g end (r ∷ []) fits = (first_fits g end r [] fits).some
are_tidy g end (r ∷ s ∷ rs) fits =
    let here = first_fits g end r (s ∷ rs) fits in
    (here.some, (first_fits g (r.first + r.count) s rs here.rest).apart, are_tidy g (r.first + r.count) (s ∷ rs) here.rest)

-- what the laws say of runs and their numbers
abbrev pub HasItsRuns : Type 0
HasItsRuns = (rs : List Run) → AreTidy rs → runs_of (run_places rs) ≡ rs

abbrev pub HasAsManyRuns : Type 0
HasAsManyRuns = (xs : List ℕ) → length (runs_of xs) ≡ stretches xs

-- the blocks of a node lie in at most as many runs as its layout has room for
pub in_few_runs : HasItsRuns → HasAsManyRuns → (g : Geometry) (m : Blocks) (k : ℕ) → stretches (places_at g m k) ≤ most_runs g.layout
in_few_runs back many g m k = by (used_node g m k) refl
  where
    by : (o : Option Node) → used_node g m k ≡ o → stretches (places_or_none o) ≤ most_runs g.layout
    by None none = omega arith
    by (Some node) used =
        let fits = used_fits g m k node used in
        omega (arith, fits.few, many (run_places node.runs), ap (λ (rs : List Run). length rs) (back node.runs (are_tidy g 0 node.runs fits.runs)))

-- How many blocks a node has.

file_blocks : (l : Layout) (x : Option Inode) (bytes : List ℕ) → option_map thing_of x ≡ Some (FileThing bytes) → inode_blocks l x ≡ blocks_for (length bytes)
file_blocks l None bytes e = absurd (none-some (FileThing bytes) e)
file_blocks l (Some (ADir slots)) bytes e = absurd (true≢false (ap is_dir e))
file_blocks l (Some (AFile links own)) bytes e = ap (λ o. blocks_for (length (bytes_in o))) e

dir_blocks : (l : Layout) (x : Option Inode) → option_map thing_of x ≡ Some DirThing → inode_blocks l x ≡ directory_blocks l (length (slots_of x))
dir_blocks l None e = absurd (none-some DirThing e)
dir_blocks l (Some (ADir slots)) e = refl
dir_blocks l (Some (AFile links bytes)) e = absurd (false≢true (ap is_dir e))

no_blocks : (l : Layout) (x : Option Inode) → option_map thing_of x ≡ None → inode_blocks l x ≡ 0
no_blocks l None e = refl
no_blocks l (Some x) e = absurd (none-some (thing_of x) (sym e))

-- what the law says of the names of a directory
abbrev pub HasSlotsForNames : Type 0
HasSlotsForNames = (limit : ℕ) (m : Inodes) (t : Tree) (path : List (List ℕ)) → IsMapOf limit m t → length (names_in t.names path) ≡ length (slots_of (inode_at m path))

-- what the law says of the numbers of snapshots
abbrev pub HasNumbers : Type 0
HasNumbers = (m : Snapshots) (name : List ℕ) (k : Kept) → get m name ≡ Some k → is_snapshot m k.number ≡ true

-- a snapshot is nothing in the tree
no_thing : (l : Layout) (m : Blocks) (node : Node) (y : Option Inode) (x : Thing) → node.kind ≡ Snapshot → IsInodeOf l (Some (file_of l m node)) y → option_map thing_of y ≡ Some x → ⊥
no_thing l m node None x kind is e = none-some x e
no_thing l m node (Some i) x kind is e = none-some i (sym (ap (λ k. inode_by l k node.links (content l m node)) kind) ∙ is)

module _ (slots_law : HasSlots) (bytes_law : HasItsBytes) (names_law : HasSlotsForNames) (numbers_law : HasNumbers) (s : State) (t : Tree) (stands : IsTreeOf s.books.geom s.map t) where
  -- no node with this number is a snapshot
  abbrev IsPlain : ℕ → Type 0
  IsPlain k = (node : Node) → used_node s.books.geom s.map k ≡ Some node → node.kind ≢ Snapshot

  thing_plain : (k : ℕ) (x : Thing) → get t.nodes k ≡ Some x → IsPlain k
  thing_plain k x at node used kind =
      no_thing s.books.geom.layout s.map node (stands.inodes k) x kind (subst (λ o. IsInodeOf s.books.geom.layout (option_map (file_of s.books.geom.layout s.map) o) (stands.inodes k)) used (stands.read k)) (sym (stands.map.shows.nodes k) ∙ at)

  unused_plain : (k : ℕ) → is_snapshot t.snapshots k ≡ false → IsPlain k
  unused_plain k other node used kind =
      let its = stands.each k node used kind in
      true≢false (sym (numbers_law t.snapshots its.0 its.1 its.2) ∙ ap (is_snapshot t.snapshots) its.3 ∙ other)

  as_many : (k : ℕ) → IsPlain k → length (places_of s k) ≡ inode_blocks s.books.geom.layout (stands.inodes k)
  as_many k plain = sym (inode_has slots_law bytes_law s.books.geom s.map stands.sound k (used_node s.books.geom s.map k) (stands.inodes k) plain refl (stands.read k))

  -- the room holds the tree, where as many blocks are in use as it has
  pub holds : HasDirectories → HasWholeFiles → (t.snapshots ≡ empty → blocks_in_use s.books.geom t (room_of s) ≡ blocks s.books.geom.layout t) → HoldsTree s.books.geom t (room_of s)
  holds directories whole count = record {
    files = λ k bytes is. as_many k (thing_plain k (FileThing bytes) is) ∙ file_blocks s.books.geom.layout (stands.inodes k) bytes (sym (stands.map.shows.nodes k) ∙ is);
    directories = λ path k at is.
        as_many k (thing_plain k DirThing is) ∙ dir_blocks s.books.geom.layout (stands.inodes k) (sym (stands.map.shows.nodes k) ∙ is)
        ∙ ap (directory_blocks s.books.geom.layout) (sym (names_law s.books.geom.i stands.inodes t path stands.map ∙ ap (λ o. length (slots_of (option_and_then stands.inodes o))) (sym (stands.map.shows.names path) ∙ at)));
    unused = λ k is other. nil_from_length (places_of s k) (as_many k (unused_plain k other) ∙ no_blocks s.books.geom.layout (stands.inodes k) (sym (stands.map.shows.nodes k) ∙ is));
    snapshots = snapshot_has slots_law directories s.books.geom s.map t stands whole;
    alone = count;
  }

-- Which blocks are marked.

module _ (s : State) (bits : (b : ℕ) → b < s.books.geom.n → s.books.marked b ≡ is_set s.books.geom s.map b) (sound : AreSound s.books.geom s.map) where
  -- a block of a node is a marked data block
  pub marked_place : (k b : ℕ) → has (places_of s k) b ≡ true → s.books.marked b ≡ true
  marked_place k b is = bits b (place_data s.books.geom s.map k b is).below ∙ place_marked s.books.geom s.map sound k b is

  -- and so is one that a snapshot keeps
  pub kept_data : (b : ℕ) → IsKeptBlock s.books.geom s.map b → IsData s.books.geom b
  kept_data b x =
      let table = kept_table s.map (run_places x.node.runs) s.books.geom in
      place_data s.books.geom table x.number b (ap (λ o. has (places_or_none o) b) x.has.is_node ∙ has_place (run_places x.has.node.runs) x.place b x.has.place)

  pub marked_kept : (b : ℕ) → IsKeptBlock s.books.geom s.map b → s.books.marked b ≡ true
  marked_kept b x = let at = kept_data b x in bits b at.below ∙ (sound.marked b at.from at.below).1 (inr x)

  module _ (laws : SnapshotLaws) (t : Tree) (stands : IsTreeOf s.books.geom s.map t) where
    kept_marked : (b : ℕ) → is_kept_block s.books.geom.i (kept_lists s.books.geom s.map) (keys t.snapshots) b ≡ true → s.books.marked b ≡ true
    kept_marked b is = marked_kept b (listed_kept laws s.books.geom s.map t stands (keys t.snapshots) b is)

    -- what is in use is marked
    pub in_use_marked : (b : ℕ) → is_in_use s.books.geom t (room_of s) b ≡ true → s.books.marked b ≡ true
    in_use_marked b is = ⊎_elim (λ held. let r = node_among (places_of s) s.books.geom.i b held in marked_place r.0 b r.1) (kept_marked b) (or_cases _ _ is)

    there : (b : ℕ) → ((k : ℕ) × (i : ℕ) × HasBlock s.books.geom s.map k i b) ⊎ IsKeptBlock s.books.geom s.map b → is_in_use s.books.geom t (room_of s) b ≡ true
    there b (inl owner) =
        let number = used_number s.books.geom s.map owner.0 owner.2.node owner.2.is_node in
        or_left _ _ (among_nodes (places_of s) s.books.geom.i owner.0 b number.0 number.1 (has_place (places_at s.books.geom s.map owner.0) owner.1 b (block_place s.books.geom s.map owner.0 owner.1 b owner.2)))
    there b (inr x) = or_right _ _ (kept_listed laws s.books.geom s.map t stands b x)

    -- and a data block is in use exactly where it is marked
    pub in_use_is : (b : ℕ) → data_start s.books.geom ≤ b → b < s.books.geom.n → s.books.marked b ≡ is_in_use s.books.geom t (room_of s) b
    in_use_is b from below = by (cases_Bool (s.books.marked b)) (cases_Bool (is_in_use s.books.geom t (room_of s) b))
      where
        by : (s.books.marked b ≡ true) ⊎ (s.books.marked b ≡ false) → (is_in_use s.books.geom t (room_of s) b ≡ true) ⊎ (is_in_use s.books.geom t (room_of s) b ≡ false)
            → s.books.marked b ≡ is_in_use s.books.geom t (room_of s) b
        by (inl is) held = is ∙ sym (there b ((sound.marked b from below).0 (sym (bits b below) ∙ is)))
        by (inr isnt) (inl held) = absurd (true≢false (sym (in_use_marked b held) ∙ isnt))
        by (inr isnt) (inr other) = isnt ∙ sym other

    pub marked_in_use : blocks_in_use s.books.geom t (room_of s) ≡ length (live_blocks s.books)
    marked_in_use =
        ap (λ (xs : List ℕ). length xs)
        (same_from (is_in_use s.books.geom t (room_of s)) s.books.marked (data_start s.books.geom) (s.books.geom.n - data_start s.books.geom) (λ b from below. sym (in_use_is b from (omega (arith, from, below)))))

-- The node that a command may grow.

-- what the law says of the least unused number
abbrev pub HasLeastNumber : Type 0
HasLeastNumber = (g : Geometry) (m : Blocks) (t : Tree) → IsTreeOf g m t → least_unused g.i t ≡ find (λ n. is_none (files_of g m n)) (range_with_len 1 g.i)

-- its number is the tree's, where the inode map is that of the tree
pub grown_same : (m : Inodes) (t : Tree) (limit : ℕ) (path : Option (List (List ℕ))) → IsMapOf limit m t → option_and_then (get t.names) path ≡ option_and_then (number_at m) path
grown_same m t limit None is = refl
grown_same m t limit (Some path) is = is.shows.names path
