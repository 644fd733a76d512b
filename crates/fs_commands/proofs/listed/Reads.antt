-- What the node at a path reads as, from what is known of its file.
use Rattle.std.proofs.Common.{◌≡◌, ℕ, ◌==◌, Bool, true, false, List, None, Some, option_map, option_and_then, refl, sym, subst, ap, ap₂, ◌∙◌}
use Rattle.base_types.specs.declared.layout.Layout.{Layout}
use Rattle.layout_bytes.specs.declared.slot.Slot.{Slot}
use Rattle.layout_bytes.specs.declared.node.NodeKind.{NodeKind}
use Rattle.layout_bytes.specs.declared.node.NodeKind.TheVariants.{Free, Dir, File, Snapshot}
use Rattle.lang_tree.specs.Tree.{Tree}
use Rattle.crash_stands.specs.Files.{FileNode}
use Rattle.crash_stands.specs.Inodes.{Inode, Inodes, ADir, AFile, inode_by, inode_of, inodes_of}
use Rattle.crash_stands.specs.Maps.{IsMapOf}
use Rattle.crash_stands.specs.Walks.{LeadsTo}
use Rattle.engine_blocks.specs.State.{Bookkeeping, State}
use Rattle.fs_files.specs.declared.look.FileFacts.{FileFacts}
use Rattle.fs_files.specs.Calls.{facts_of, is_dir}
use Rattle.fs_files.specs.Effects.{LooksOnly}
use Rattle.fs_files.specs.NodeMaps.{NodeMap}
use Rattle.fs_snapshots.specs.Nodes.{facts_are, not_file}
use Rattle.fs_commands.specs.Listing.{IsMapIn}
use Rattle.fs_commands.proofs.looking.Found.{is_used}
use Rattle.fs_commands.proofs.looking.Facts.{file_told}

-- where blocks were only read, the map is that of the tree still
pub map_stays : (tells failed : Bool) (s t : State) (v u : NodeMap) → LooksOnly tells failed s t → u ≡ v → (m : Inodes) (tree : Tree) → IsMapIn s v m tree → IsMapIn t u m tree
map_stays tells failed s t v u looks alike m tree h = record {
  same = h.same ∙ sym (ap₂ (λ (b : Bookkeeping) (x : NodeMap). inodes_of b.geom.layout x.files) looks.books alike);
  map = subst (λ (b : Bookkeeping). IsMapOf b.geom.i m tree) (sym looks.books) h.map;
}

-- what reads as a directory
dir_by : (lay : Layout) (kind : NodeKind) (links : ℕ) (bytes : List ℕ) (inode : Inode) → is_dir kind ≡ true → inode_by lay kind links bytes ≡ Some inode → (slots : List Slot) × (inode ≡ ADir slots)
dir_by lay Free links bytes inode dir reads = absurd cc
dir_by lay Snapshot links bytes inode dir reads = absurd cc
dir_by lay File links bytes inode dir reads = absurd cc
dir_by lay Dir links bytes (ADir slots) dir reads = (slots, refl)
dir_by lay Dir links bytes (AFile l b) dir reads = absurd (not_file (links == 1) _ l b reads)

-- The node at a path of the tree, of which something is known or nothing.
module _ (s : State) (v : NodeMap) (m : Inodes) (t : Tree) (h : IsMapIn s v m t) (path : List (List ℕ)) (number : ℕ) (leads : LeadsTo m path number) where
  reads : (x : Inode) × (option_and_then (inode_of s.books.geom.layout) (v.files number) ≡ Some x)
  reads = let used = h.map.shows.used path number leads in (used.0, sym (ap (λ f. f number) h.same) ∙ used.1)

  module _ (facts : FileFacts) (known : Some facts ≡ option_map facts_of (v.files number)) where
    abbrev pub file_there : (x : FileNode) × (v.files number ≡ Some x) × (facts ≡ facts_of x)
    file_there = facts_are (v.files number) facts known

    here : m number ≡ inode_of s.books.geom.layout file_there.0
    here = ap (λ f. f number) h.same ∙ ap (option_and_then (inode_of s.books.geom.layout)) file_there.1

    some_there : (x : Inode) × (inode_of s.books.geom.layout file_there.0 ≡ Some x)
    some_there = (reads.0, sym (ap (option_and_then (inode_of s.books.geom.layout)) file_there.1) ∙ reads.1)

    pub dir_there : is_dir facts.kind ≡ true → (slots : List Slot) × (m number ≡ Some (ADir slots))
    dir_there dir =
        let x = file_there.0 in
        let found = dir_by _ x.kind x.links x.bytes some_there.0 (sym (ap (λ (f : FileFacts). is_dir f.kind) file_there.2) ∙ dir) some_there.1 in
        (found.0, here ∙ some_there.1 ∙ ap Some found.1)

    pub bytes_there : is_dir facts.kind ≡ false → m number ≡ Some (AFile file_there.0.links file_there.0.bytes)
    bytes_there file =
        let x = file_there.0 in
        here ∙ file_told _ x.kind x.links x.bytes some_there.0 some_there.1 (sym (ap (λ (f : FileFacts). is_dir f.kind) file_there.2) ∙ file)

  -- it isn't unknown
  pub never_unknown : None ≡ option_map facts_of (v.files number) → ⊥
  never_unknown none = is_used _ (v.files number) reads.0 reads.1 none
