-- As many data blocks are marked as the tree has, where it stands.
use Rattle.std.proofs.Common.{◌≡◌, ◌≢◌, ◌⊎◌, inl, inr, ℕ, zero, suc, ◌+◌, ◌-◌, ◌<◌, ◌≤◌, ◌==◌, ◌&&◌, ◌||◌, nat_lt, Bool, true, false, List, length, filter, Option, Some, None, option_map, refl, sym, ap, ap₂, subst, ◌∙◌, arith}
use Rattle.std.specs.List.{IsDistinct, range_with_len}
use Rattle.std.proofs.lemmas.Bool.{false≢true, le-leb, lt-ltb, or_right}
use Rattle.std.proofs.lemmas.List.{length-append}
use Rattle.std.proofs.lemmas.Option.{none-some, same_Some}
use Rattle.base_types.specs.Seal.{Blocks}
use Rattle.base_types.specs.Runs.{run_places}
use Rattle.base_types.specs.declared.layout.Layout.{Layout}
use Rattle.base_types.specs.Layouts.{directory_bytes}
use Rattle.base_types.specs.LayoutLaws.{directory_needs}
use Rattle.layout_geometry.specs.Geometry.{Geometry, IsGeometry, bitmap_start, data_start}
use Rattle.layout_journal.specs.Run.{is_live}
use Rattle.layout_bytes.specs.declared.node.Node.{Node}
use Rattle.layout_bytes.specs.declared.node.NodeKind.{NodeKind}
use Rattle.layout_bytes.specs.declared.node.NodeKind.TheVariants.{Free, Dir, File, Snapshot}
use Rattle.layout_bytes.specs.declared.slot.Slot.{Slot}
use Rattle.layout_bytes.specs.Bitmap.{is_set}
use Rattle.layout_bytes.specs.Node.{content_of}
use Rattle.lang_tree.specs.Figures.{blocks_for}
use Rattle.engine_blocks.specs.Running.{has}
use Rattle.crash_stands.specs.Files.{FileNode, files_of, file_of, used_node, content}
use Rattle.crash_stands.specs.Inodes.{Inode, Inodes, ADir, AFile, AreInodesOf, IsInodeOf, inode_by, inode_of}
use Rattle.crash_stands.specs.Sharing.{IsKeptBlock}
use Rattle.crash_stands.specs.Stands.{AreSound, HasBlock, HasNoSnapshots}
use Rattle.fs_inodes.specs.Figures.{inode_blocks, blocks_from}
use Rattle.fs_files.specs.Calls.{places_or_none}
use Rattle.fs_files.specs.Contents.{whole_content}
use Rattle.fs_files.specs.Nodes.{AreWholeSlots}
use Rattle.fs_snapshots.specs.Among.{kept_is, is_among, used_number}
use Rattle.fs_snapshots.specs.Nodes.{Fits, used_fits}
use Rattle.fs_session.proofs.standing.Lists.{place_of, has_place, as_long, distinct_kept, in_turn, turn_of, in_its_turn, distinct_turns}
use Rattle.fs_session.proofs.standing.Nodes.{node_count, content_length, places_at, block_place, place_block, place_data}

-- Which blocks are live: those of the bitmap and the node table, and the data blocks that are marked.

pub low_live : (g : Geometry) → IsGeometry g → (m : Blocks) (b : ℕ) → bitmap_start g ≤ b → b < data_start g → is_live g m b ≡ true
low_live g limits m b from below =
    ap₂ (λ s t. s && (t && (nat_lt b (data_start g) || is_set g m b))) (le-leb (bitmap_start g) b from) (lt-ltb b g.n (omega (arith, below, limits.data_room)))
    ∙ ap (λ t. t || is_set g m b) (lt-ltb b (data_start g) below)

pub data_live : (g : Geometry) (m : Blocks) (b : ℕ) → bitmap_start g ≤ b → b < g.n → is_set g m b ≡ true → is_live g m b ≡ true
data_live g m b from below set =
    ap₂ (λ s t. s && (t && (nat_lt b (data_start g) || is_set g m b))) (le-leb (bitmap_start g) b from) (lt-ltb b g.n below) ∙ or_right (nat_lt b (data_start g)) (is_set g m b) set

module _ (g : Geometry) (m : Blocks) (sound : AreSound g m) where
  -- a block of a node is marked, and whole
  pub place_marked : (k b : ℕ) → has (places_at g m k) b ≡ true → is_set g m b ≡ true
  place_marked k b is =
      let at = place_data g m k b is in
      let r = place_of (places_at g m k) b is in
      (sound.marked b at.from at.below).1 (inl (k, r.0, place_block g m k r.0 b r.1))

  pub place_whole : (k b : ℕ) → has (places_at g m k) b ≡ true → length (m b) ≡ 1024
  place_whole k b is =
      let at = place_data g m k b is in
      sound.whole b (data_live g m b (omega (arith, at.from)) at.below (place_marked k b is))

  -- The places of all nodes.

  abbrev all_places : List ℕ
  all_places = in_turn (places_at g m) 1 g.i

  all_once : IsDistinct (λ a b. a == b) all_places
  all_once = distinct_turns (places_at g m) 1 g.i (λ k l i j b at_i at_j. sound.own k l i j b (place_block g m k i b at_i) (place_block g m l j b at_j))

  place_among : (k i b : ℕ) → HasBlock g m k i b → has all_places b ≡ true
  place_among k i b h =
      let number = used_number g m k h.node h.is_node in
      in_its_turn (places_at g m) 1 g.i b k number.0 (omega (arith, number.1)) (has_place (places_at g m k) i b (block_place g m k i b h))

  -- where no node is a snapshot no block is kept
  of_node : HasNoSnapshots g m → (b : ℕ) → ((k : ℕ) × (i : ℕ) × HasBlock g m k i b) ⊎ IsKeptBlock g m b → (k : ℕ) × (i : ℕ) × HasBlock g m k i b
  of_node none b (inl at) = at
  of_node none b (inr kept) = absurd (none kept.snapshot kept.node kept.is_node kept.kind)

  -- and as many data blocks are marked as the nodes have
  marked_count : HasNoSnapshots g m → (p : ℕ → Bool) → ((b : ℕ) → b < g.n → p b ≡ is_set g m b) → length (filter p (range_with_len (data_start g) (g.n - data_start g))) ≡ length all_places
  marked_count none p same = as_long (filter p (range_with_len (data_start g) (g.n - data_start g))) all_places (distinct_kept p (data_start g) (g.n - data_start g)) all_once
      (λ b is.
      let r = kept_is p (data_start g) (g.n - data_start g) b is in
      let below : b < g.n = omega (arith, r.0, r.1) in
      let owner = of_node none b ((sound.marked b r.0 below).0 (sym (same b below) ∙ r.2)) in
      place_among owner.0 owner.1 b owner.2)
      (λ b is.
      let r = turn_of (places_at g m) 1 g.i b is in
      let at = place_data g m r.0 b r.3 in
      is_among p (data_start g) (g.n - data_start g) b at.from (omega (arith, at.from, at.below)) (same b at.below ∙ place_marked r.0 b r.3))

-- The blocks of an inode.

-- what reads as a directory is one
pub dir_kind : (l : Layout) (kind : NodeKind) (links : ℕ) (bytes : List ℕ) (slots : List Slot) → inode_by l kind links bytes ≡ Some (ADir slots) → kind ≡ Dir
dir_kind l Free links bytes slots e = absurd (none-some (ADir slots) e)
dir_kind l Snapshot links bytes slots e = absurd (none-some (ADir slots) e)
dir_kind l Dir links bytes slots e = refl
dir_kind l File links bytes slots e = absurd (false≢true (ap is_dir (same_Some (AFile links bytes) (ADir slots) e)))
  where
    is_dir : Inode → Bool
    is_dir (ADir s) = true
    is_dir (AFile l b) = false

-- what the laws say of the bytes of a directory and a file
abbrev pub HasSlots : Type 0
HasSlots = (l : Layout) (file : FileNode) (slots : List Slot) → inode_of l file ≡ Some (ADir slots) → AreWholeSlots l (length file.bytes) → length file.bytes ≡ directory_bytes l (length slots)

abbrev pub HasItsBytes : Type 0
HasItsBytes = (l : Layout) (file : FileNode) (links : ℕ) (bytes : List ℕ) → inode_of l file ≡ Some (AFile links bytes) → (file.links ≡ links) × (file.bytes ≡ bytes)

module _ (slots_law : HasSlots) (bytes_law : HasItsBytes) (g : Geometry) (m : Blocks) (sound : AreSound g m) where
  -- a node in use has as many blocks as the inode that it reads as
  used_blocks : (k : ℕ) (node : Node) (x : Inode) → used_node g m k ≡ Some node → inode_of g.layout (file_of g.layout m node) ≡ Some x → inode_blocks g.layout (Some x) ≡ length (run_places node.runs)
  used_blocks k node x used reads = by x reads
    where
      fits : Fits g node
      fits = used_fits g m k node used

      long : length (content g.layout m node) ≡ content_of g.layout node.kind node.size
      long = content_length g m node fits (λ b is. place_whole g m sound k b (ap (λ o. has (places_or_none o) b) used ∙ is))

      by : (y : Inode) → inode_of g.layout (file_of g.layout m node) ≡ Some y → inode_blocks g.layout (Some y) ≡ length (run_places node.runs)
      by (ADir slots) e =
          let whole : AreWholeSlots g.layout (length (content g.layout m node)) =
          subst (AreWholeSlots g.layout) (sym long) (whole_content g.layout node.kind node.size (dir_kind g.layout node.kind node.links (content g.layout m node) slots e)) in
          let count = slots_law g.layout (file_of g.layout m node) slots e whole in
          sym (directory_needs g.layout (length slots)) ∙ ap blocks_for (sym count ∙ long) ∙ sym (node_count g node fits)
      by (AFile links bytes) e =
          ap (λ (xs : List ℕ). blocks_for (length xs)) (sym (bytes_law g.layout (file_of g.layout m node) links bytes e).1) ∙ (ap blocks_for long ∙ sym (node_count g node fits))

  -- and so has what is no snapshot
  pub inode_has : (k : ℕ) (o : Option Node) (y : Option Inode) → ((node : Node) → used_node g m k ≡ Some node → node.kind ≢ Snapshot) → used_node g m k ≡ o → IsInodeOf g.layout (option_map (file_of g.layout m) o) y → inode_blocks g.layout y ≡ length (places_or_none o)
  inode_has k None y plain used is = ap (inode_blocks g.layout) is
  inode_has k (Some node) None plain used is = absurd (plain node used is)
  inode_has k (Some node) (Some x) plain used is = used_blocks k node x used is

  turns_count : HasNoSnapshots g m → (f : Inodes) → AreInodesOf g.layout (files_of g m) f → (k n : ℕ) → blocks_from g.layout f k n ≡ length (in_turn (places_at g m) k n)
  turns_count none f read k zero = refl
  turns_count none f read k (suc n) = omega (arith, length-append (places_at g m k) (in_turn (places_at g m) (k + 1) n), inode_has k (used_node g m k) (f k) (none k) refl (read k), turns_count none f read (k + 1) n)

  -- as many data blocks are marked as the inodes have, where no node is a snapshot
  pub inodes_count : HasNoSnapshots g m → (f : Inodes) → AreInodesOf g.layout (files_of g m) f → (p : ℕ → Bool) → ((b : ℕ) → b < g.n → p b ≡ is_set g m b) → length (filter p (range_with_len (data_start g) (g.n - data_start g))) ≡ blocks_from g.layout f 1 g.i
  inodes_count none f read p same = marked_count g m sound none p same ∙ sym (turns_count none f read 1 g.i)
