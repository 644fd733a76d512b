-- How many blocks a snapshot has: as many as the paths that it keeps need; and how many one of the tree as it is would have.
use Rattle.std.proofs.Common.{◌≡◌, ℕ, zero, suc, ◌+◌, ◌==◌, Bool, true, false, if◌then◌else◌, List, [], length, Option, Some, None, option_map, refl, sym, ap, ap₂, subst, ◌∙◌, arith}
use Rattle.std.specs.FinMap.{entries, get}
use Rattle.std.proofs.lemmas.Bool.{false≢true}
use Rattle.std.proofs.lemmas.List.{length-append}
use Rattle.std.proofs.lemmas.Option.{none-some, same_Some}
use Rattle.base_types.specs.Seal.{Blocks}
use Rattle.base_types.specs.Runs.{run_places}
use Rattle.base_types.specs.declared.layout.Layout.{Layout}
use Rattle.base_types.specs.Layouts.{slots_held, table_blocks as blocks_of_table}
use Rattle.base_types.specs.LayoutLaws.{directory_needs, no_directory_blocks}
use Rattle.layout_geometry.specs.Geometry.{Geometry}
use Rattle.layout_bytes.specs.declared.node.Node.{Node}
use Rattle.layout_bytes.specs.declared.node.NodeKind.{NodeKind}
use Rattle.layout_bytes.specs.declared.node.NodeKind.TheVariants.{Free, Dir, File, Snapshot}
use Rattle.layout_bytes.specs.Node.{content_blocks, content_of}
use Rattle.layout_bytes.specs.Slot.{slots_in}
use Rattle.lang_tree.specs.Figures.{all_directory_blocks, blocks_for, snapshot_blocks}
use Rattle.lang_tree.specs.Tree.{Bounds, Kept, Tree, kept_tree}
use Rattle.crash_stands.specs.Bounds.{bounds_of}
use Rattle.engine_blocks.specs.Running.{has}
use Rattle.crash_stands.specs.Files.{FileNode, file_of, files_of, used_node}
use Rattle.crash_stands.specs.Inodes.{Inode, Inodes, ADir, AFile, AreInodesOf, IsInodeOf, inode_by}
use Rattle.crash_stands.specs.Kept.{kept_file, kept_files, kept_nodes}
use Rattle.crash_stands.specs.Maps.{IsMapOf}
use Rattle.crash_stands.specs.Places.{dirs_from, is_copied, table_blocks, dir_blocks as node_dirs}
use Rattle.crash_stands.specs.Stands.{AreSound, IsTreeOf}
use Rattle.crash_snapshots.specs.Places.{all_dirs, places_of_dir}
use Rattle.fs_inodes.specs.Figures.{directories_from, dir_blocks as inode_dirs}
use Rattle.fs_files.specs.Calls.{places_of, places_or_none}
use Rattle.fs_files.specs.Contents.{whole_content}
use Rattle.fs_files.specs.Nodes.{AreWholeSlots}
use Rattle.fs_snapshots.specs.Nodes.{used_fits, not_file}
use Rattle.fs_session.proofs.standing.Marks.{HasSlots, place_whole}
use Rattle.fs_session.proofs.standing.Nodes.{content_length, node_count}

-- what the laws say of the blocks of directories, and of the bytes of what a snapshot keeps
abbrev pub HasDirectories : Type 0
HasDirectories = (limit : Bounds) (m : Inodes) (t : Tree) → IsMapOf limit.nodes m t → directories_from limit.layout m 1 limit.nodes ≡ all_directory_blocks limit.layout t.names (entries t.names)

abbrev pub HasWholeFiles : Type 0
HasWholeFiles = (g : Geometry) (m : Blocks) (k : ℕ) (node : Node) → AreSound g m → used_node g m k ≡ Some node → node.kind ≡ Snapshot → (l : ℕ) (file : Node)
    → kept_nodes g m (run_places node.runs) l ≡ Some file → length (kept_file g m (run_places node.runs) l file).bytes ≡ content_of g.layout file.kind file.size

module _ (slots_law : HasSlots) where
  -- a node has as many blocks of a directory as what it reads as
  by_kind : (l : Layout) (kind : NodeKind) (size links : ℕ) (bytes : List ℕ) (x : Inode) → length bytes ≡ content_of l kind size → inode_by l kind links bytes ≡ Some x
      → (if is_copied kind then content_blocks l kind size else 0) ≡ inode_dirs l (Some x)
  by_kind l Free size links bytes x long e = absurd (none-some x e)
  by_kind l Snapshot size links bytes x long e = absurd (none-some x e)
  by_kind l Dir size links bytes (ADir slots) long e =
      let file : FileNode = record { kind = Dir; links = links; bytes = bytes } in
      let whole : AreWholeSlots l (length bytes) = subst (AreWholeSlots l) (sym long) (whole_content l Dir size refl) in
      ap blocks_for (sym long ∙ slots_law l file slots e whole) ∙ directory_needs l (length slots)
  by_kind l Dir size links bytes (AFile more b) long e = absurd (not_file (links == 1) (slots_in l (slots_held l (length bytes)) bytes) more b e)
  by_kind l File size links bytes (ADir slots) long e = absurd (false≢true (ap is_dir (same_Some (AFile links bytes) (ADir slots) e)))
    where
      is_dir : Inode → Bool
      is_dir (ADir s) = true
      is_dir (AFile l b) = false
  by_kind l File size links bytes (AFile more b) long e = sym (no_directory_blocks l)

  of_node : (l : Layout) (node : Node) (file : FileNode) (y : Option Inode) → file.kind ≡ node.kind → length file.bytes ≡ content_of l node.kind node.size → IsInodeOf l (Some file) y
      → node_dirs l (Some node) ≡ inode_dirs l y
  of_node l node file None kind long is = ap (λ k. if is_copied k then content_blocks l k node.size else 0) (sym kind ∙ is) ∙ sym (no_directory_blocks l)
  of_node l node file (Some x) kind long is =
      by_kind l node.kind node.size file.links file.bytes x long (ap (λ k. inode_by l k file.links file.bytes) (sym kind) ∙ is)

  -- nothing has no block of a directory
  of_none : (l : Layout) (y : Option Inode) → y ≡ None → 0 ≡ inode_dirs l y
  of_none l y is = sym (no_directory_blocks l) ∙ ap (inode_dirs l) (sym is)

  -- so the directories of a snapshot have as many as those of what it reads as
  module _ (g : Geometry) (m : Blocks) (places : List ℕ) (inodes : Inodes) (read : AreInodesOf g.layout (kept_files g m places) inodes)
      (whole : (l : ℕ) (node : Node) → kept_nodes g m places l ≡ Some node → length (kept_file g m places l node).bytes ≡ content_of g.layout node.kind node.size) where
    kept_one : (k : ℕ) (o : Option Node) → kept_nodes g m places k ≡ o → IsInodeOf g.layout (option_map (kept_file g m places k) o) (inodes k) → node_dirs g.layout o ≡ inode_dirs g.layout (inodes k)
    kept_one k None used is = of_none g.layout (inodes k) is
    kept_one k (Some node) used is = of_node g.layout node (kept_file g m places k node) (inodes k) refl (whole k node used) is

    pub kept_dirs : (k n : ℕ) → dirs_from g.layout (kept_nodes g m places) k n ≡ directories_from g.layout inodes k n
    kept_dirs k zero = refl
    kept_dirs k (suc n) = ap₂ (λ (a b : ℕ). a + b) (kept_one k (kept_nodes g m places k) refl (read k)) (kept_dirs (k + 1) n)

  -- and those of the tree's blocks
  module _ (g : Geometry) (m : Blocks) (sound : AreSound g m) (inodes : Inodes) (read : AreInodesOf g.layout (files_of g m) inodes) where
    live_one : (k : ℕ) (o : Option Node) → used_node g m k ≡ o → IsInodeOf g.layout (option_map (file_of g.layout m) o) (inodes k) → length (places_of_dir o) ≡ inode_dirs g.layout (inodes k)
    live_one k None used is = of_none g.layout (inodes k) is
    live_one k (Some node) used is =
        let fits = used_fits g m k node used in
        let long = content_length g m node fits (λ b is. place_whole g m sound k b (ap (λ o. has (places_or_none o) b) used ∙ is)) in
        by_copied (is_copied node.kind) ∙ of_node g.layout node (file_of g.layout m node) (inodes k) refl long is
      where
        by_copied : (t : Bool) → length (if t then run_places node.runs else []) ≡ (if t then content_blocks g.layout node.kind node.size else 0)
        by_copied true = node_count g node (used_fits g m k node used)
        by_copied false = refl

    pub live_dirs : (k n : ℕ) → length (all_dirs (used_node g m) k n) ≡ directories_from g.layout inodes k n
    live_dirs k zero = refl
    live_dirs k (suc n) =
        length-append (places_of_dir (used_node g m k)) (all_dirs (used_node g m) (k + 1) n)
        ∙ ap₂ (λ (a b : ℕ). a + b) (live_one k (used_node g m k) refl (read k)) (live_dirs (k + 1) n)

-- a node table has as many blocks as its nodes fill
table_long : (g : Geometry) → table_blocks g ≡ blocks_of_table g.layout g.i
table_long g = omega arith

module _ (slots_law : HasSlots) (directories : HasDirectories) (g : Geometry) (m : Blocks) (t : Tree) (stands : IsTreeOf g m t) where
  -- a snapshot has as many blocks as the paths that it keeps need
  pub snapshot_has : HasWholeFiles → (name : List ℕ) (k : Kept) → get t.snapshots name ≡ Some k → length (places_of g m k.number) ≡ snapshot_blocks (bounds_of g) k.names
  snapshot_has whole name k at =
      let h = stands.keeps name k at in
      let ps = run_places h.node.runs in
      let long = (stands.sound.kept k.number h.node h.is_node h.kind).long in
      let dirs = kept_dirs slots_law g m ps h.keeps.inodes h.keeps.read (whole g m k.number h.node stands.sound h.is_node h.kind) 1 g.i ∙ directories (bounds_of g) h.keeps.inodes (kept_tree k) h.keeps.map in
      omega (arith, ap (λ o. length (places_or_none o)) h.is_node, long, dirs, table_long g)

  -- and one of the tree as it is would have so many
  pub snapshot_needs : snapshot_blocks (bounds_of g) t.names ≡ 1 + (table_blocks g + length (all_dirs (used_node g m) 1 g.i))
  snapshot_needs =
      let dirs = live_dirs slots_law g m stands.sound stands.inodes stands.read 1 g.i ∙ directories (bounds_of g) stands.inodes t stands.map in
      omega (arith, dirs, table_long g)
