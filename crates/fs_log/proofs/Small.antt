-- A file of a tree that stands in blocks has at most 2^30 bytes, and so has a segment.
use Rattle.std.proofs.Common.{◌≡◌, ℕ, ◌≤◌, nat_le, nat_lt, ◌&&◌, ◌==◌, Bool, true, false, List, [], ◌∷◌, ◌++◌, length, Option, None, Some, option_map, refl, sym, ◌∙◌, ap, subst, arith}
use Rattle.std.specs.FinMap.{get}
use Rattle.std.proofs.lemmas.Bool.{and_parts, leb-true}
use Rattle.std.proofs.lemmas.List.{length-take}
use Rattle.std.proofs.lemmas.Option.{none-some}
use Rattle.base_types.specs.Runs.{run_places}
use Rattle.base_types.specs.Seal.{Blocks}
use Rattle.base_types.specs.Layouts.{slots_held}
use Rattle.layout_geometry.specs.Geometry.{Geometry}
use Rattle.layout_bytes.specs.declared.node.Node.{Node}
use Rattle.layout_bytes.specs.declared.node.NodeKind.{NodeKind}
use Rattle.layout_bytes.specs.declared.node.NodeKind.TheVariants.{Free, Dir, File, Snapshot}
use Rattle.layout_bytes.specs.declared.slot.Slot.{Slot}
use Rattle.layout_bytes.specs.Bytes.{when}
use Rattle.layout_bytes.specs.Node.{most_runs, content_of, content_blocks, kind_fits, node_at, node_bytes, node_fits, run_blocks, runs_fit}
use Rattle.layout_bytes.specs.Slot.{slots_in}
use Rattle.lang_tree.specs.Tree.{Tree, File as FileThing}
use Rattle.lang_log.specs.Segments.{LiesIn, Segment}
use Rattle.lang_log.specs.Spelling.{spellings}
use Rattle.crash_stands.specs.Files.{content, file_of, files_of, joined, used_node}
use Rattle.crash_stands.specs.Inodes.{Inode, ADir, AFile, IsInodeOf, inode_by, thing_of}
use Rattle.crash_stands.specs.Stands.{IsTreeOf}
use Rattle.engine_blocks.specs.State.{State}
use Rattle.fs_log.specs.Reading.{HoldsSegment}
use Rattle.fs_files.specs.Places.{read_fits, when_some}
use Rattle.fs_log.proofs.Windows.{one_of_all}

-- A node in use is as its kind must be.

kind_of_fit : (g : Geometry) (node : Node) → node_fits g node ≡ true → kind_fits node node.kind ≡ true
kind_of_fit g node fits =
    let some = and_parts (nat_lt 0 node.links) _ fits in
    let few = and_parts (nat_le (length node.runs) (most_runs g.layout)) _ some.1 in
    let runs = and_parts (runs_fit g 0 node.runs) _ few.1 in
    (and_parts (run_blocks node.runs == content_blocks g.layout node.kind node.size) (kind_fits node node.kind) runs.1).1

used_kind_fits : (g : Geometry) (m : Blocks) (k : ℕ) (node : Node) → used_node g m k ≡ Some node → kind_fits node node.kind ≡ true
used_kind_fits g m k node e = kind_of_fit g node (read_fits g (node_bytes g m k) node (when_some (nat_le 1 k && nat_le k g.i) (node_at g m k) node e).1)

-- The bytes of a file.

module _ (g : Geometry) (m : Blocks) (k : ℕ) where
  no_file : (t : Bool) (o : Option (List Slot)) (links : ℕ) (bytes : List ℕ) → when t (option_map ADir o) ≡ Some (AFile links bytes) → ⊥
  no_file true (Some slots) links bytes e = cc
  no_file true None links bytes e = cc
  no_file false o links bytes e = cc

  same_content : (links more : ℕ) (bytes other : List ℕ) → Some (AFile links bytes) ≡ Some (AFile more other) → bytes ≡ other
  same_content links more bytes other e = cc

  of_node : (node : Node) → used_node g m k ≡ Some node → (links : ℕ) (bytes : List ℕ) (kind : NodeKind) → node.kind ≡ kind → inode_by g.layout kind node.links (content g.layout m node) ≡ Some (AFile links bytes) → length bytes ≤ 1073741824
  of_node node used links bytes Free is reads = absurd (none-some (AFile links bytes) reads)
  of_node node used links bytes Snapshot is reads = absurd (none-some (AFile links bytes) reads)
  of_node node used links bytes Dir is reads = absurd (no_file (node.links == 1) (slots_in g.layout (slots_held g.layout (length (content g.layout m node))) (content g.layout m node)) links bytes reads)
  of_node node used links bytes File is reads =
      let size = leb-true node.size 1073741824 (and_parts (nat_le node.links 65535) (nat_le node.size 1073741824) (subst (λ (kind : NodeKind). kind_fits node kind ≡ true) is (used_kind_fits g m k node used))).1 in
      let all : content_of g.layout node.kind node.size ≡ node.size = ap (λ (kind : NodeKind). content_of g.layout kind node.size) is in
      subst (λ (q : List ℕ). length q ≤ 1073741824) (same_content node.links links (content g.layout m node) bytes reads)
      (omega (arith, size, all, length-take (content_of g.layout node.kind node.size) (joined m (run_places node.runs))))

  of_used : (o : Option Node) → used_node g m k ≡ o → (links : ℕ) (bytes : List ℕ) → IsInodeOf g.layout (option_map (file_of g.layout m) o) (Some (AFile links bytes)) → length bytes ≤ 1073741824
  of_used None used links bytes reads = absurd (none-some (AFile links bytes) (sym reads))
  of_used (Some node) used links bytes reads = of_node node used links bytes node.kind refl reads

no_dir : (slots : List Slot) (bytes : List ℕ) → Some (thing_of (ADir slots)) ≡ Some (FileThing bytes) → ⊥
no_dir slots bytes e = cc

same_bytes : (links : ℕ) (bytes other : List ℕ) → Some (thing_of (AFile links bytes)) ≡ Some (FileThing other) → bytes ≡ other
same_bytes links bytes other e = cc

pub small_file : (g : Geometry) (m : Blocks) (t : Tree) (k : ℕ) (bytes : List ℕ) → IsTreeOf g m t → get t.nodes k ≡ Some (FileThing bytes) → length bytes ≤ 1073741824
small_file g m t k bytes is file = by (is.inodes k) refl
  where
    by : (o : Option Inode) → is.inodes k ≡ o → length bytes ≤ 1073741824
    by None e = absurd (none-some (FileThing bytes) (sym (is.map.shows.nodes k ∙ ap (λ (o : Option Inode). option_map thing_of o) e) ∙ file))
    by (Some (ADir slots)) e = absurd (no_dir slots bytes (sym (is.map.shows.nodes k ∙ ap (λ (o : Option Inode). option_map thing_of o) e) ∙ file))
    by (Some (AFile links other)) e =
        subst (λ (q : List ℕ). length q ≤ 1073741824) (same_bytes links other bytes (sym (is.map.shows.nodes k ∙ ap (λ (o : Option Inode). option_map thing_of o) e) ∙ file))
        (of_used g m k (used_node g m k) refl links other (subst (IsInodeOf g.layout (files_of g m k)) e (is.read k)))

pub small_segment : (s : Segment) (state : State) → HoldsSegment s state → length (spellings s.appends) ≤ 1073741824
small_segment s state h =
    let t = h.holds.stands in
    small_file state.books.geom state.map t.0 s.node (spellings s.appends) t.1 (one_of_all (LiesIn t.0) h.before s h.rest (h.holds.has t.0 t.1).there).file
