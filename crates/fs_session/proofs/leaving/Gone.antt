-- A snapshot that was gone through, where a draft leaves the snapshots as they are: it is where it was, and before each block of its node table the directories have as many blocks.
use Rattle.std.proofs.Common.{◌≡◌, ℕ, zero, suc, ◌+◌, if◌then◌else◌, List, length, Option, Some, None, option_map, refl, sym, ap, ap₂, subst, ◌∙◌}
use Rattle.std.proofs.lemmas.Option.{none-some, same_Some}
use Rattle.base_types.specs.Seal.{Blocks}
use Rattle.base_types.specs.Runs.{run_places}
use Rattle.base_types.specs.Layouts.{nodes_before}
use Rattle.layout_geometry.specs.Geometry.{Geometry, IsGeometry}
use Rattle.layout_bytes.specs.declared.node.Node.{Node}
use Rattle.layout_bytes.specs.declared.node.NodeKind.{NodeKind}
use Rattle.layout_bytes.specs.declared.node.NodeKind.TheVariants.{Snapshot}
use Rattle.layout_bytes.specs.Node.{content_of}
use Rattle.lang_tree.specs.Figures.{blocks_for}
use Rattle.lang_tree.specs.Tree.{Tree}
use Rattle.crash_stands.specs.Files.{FileNode, used_node}
use Rattle.crash_stands.specs.Kept.{HaveSameSnapshot, kept_file, kept_files, kept_nodes}
use Rattle.crash_stands.specs.Places.{dir_blocks, dirs_from, is_copied}
use Rattle.crash_stands.specs.Stands.{AreSound, IsTreeOf}
use Rattle.engine_blocks.specs.Crashes.{IsTold}
use Rattle.engine_blocks.specs.State.{State}
use Rattle.fs_files.specs.Drafts.{DraftState}
use Rattle.fs_files.specs.Sound.{IsSoundDraft}
use Rattle.fs_snapshots.specs.Kept.{AreDirsBefore, IsSnapshotAt, KeptState}
use Rattle.fs_session.specs.Plans.{HasDrafted, StaysBeside}
use Rattle.fs_session.proofs.leaving.Leaving.{found, places_same, same_snapshot}
use Rattle.fs_session.proofs.leaving.Stays.{StayLaws, sound_still}

-- what laws say of a snapshot's files and of their bytes
pub record FileLaws : Type 0 where
  pub files : (g : Geometry) (m n : Blocks) (places : List ℕ) → IsGeometry g → HaveSameSnapshot g m n places → (k : ℕ) → kept_files g n places k ≡ kept_files g m places k
  pub bytes : (g : Geometry) (m : Blocks) (k : ℕ) (node : Node) → AreSound g m → used_node g m k ≡ Some node → node.kind ≡ Snapshot
      → (l : ℕ) (file : Node) → kept_nodes g m (run_places node.runs) l ≡ Some file → length (kept_file g m (run_places node.runs) l file).bytes ≡ content_of g.layout file.kind file.size

-- the node's bytes are as many as its size tells
abbrev HaveTheirSizes : Geometry → Blocks → List ℕ → Type 0
HaveTheirSizes g m places = (l : ℕ) (file : Node) → kept_nodes g m places l ≡ Some file → length (kept_file g m places l file).bytes ≡ content_of g.layout file.kind file.size

-- Two maps whose snapshots keep the same files.
module _ (g : Geometry) (m n : Blocks) (places : List ℕ) (same : (k : ℕ) → kept_files g n places k ≡ kept_files g m places k) (here : HaveTheirSizes g m places) (there : HaveTheirSizes g n places) where
  dir_alike : (k : ℕ) → dir_blocks g.layout (kept_nodes g n places k) ≡ dir_blocks g.layout (kept_nodes g m places k)
  dir_alike k = by (kept_nodes g n places k) (kept_nodes g m places k) refl refl (same k)
    where
      by : (x y : Option Node) → kept_nodes g n places k ≡ x → kept_nodes g m places k ≡ y → option_map (kept_file g n places k) x ≡ option_map (kept_file g m places k) y → dir_blocks g.layout x ≡ dir_blocks g.layout y
      by None None is was e = refl
      by None (Some y) is was e = absurd (none-some (kept_file g m places k y) e)
      by (Some x) None is was e = absurd (none-some (kept_file g n places k x) (sym e))
      by (Some x) (Some y) is was e =
          let files : kept_file g n places k x ≡ kept_file g m places k y = same_Some (kept_file g n places k x) (kept_file g m places k y) e in
          ap₂ (λ (kind : NodeKind) bytes. if is_copied kind then blocks_for bytes else 0) (ap (λ (f : FileNode). f.kind) files)
          (sym (there k x is) ∙ ap (λ (f : FileNode). length f.bytes) files ∙ here k y was)

  dirs_alike : (k c : ℕ) → dirs_from g.layout (kept_nodes g n places) k c ≡ dirs_from g.layout (kept_nodes g m places) k c
  dirs_alike k zero = refl
  dirs_alike k (suc c) = ap₂ (λ x y. x + y) (dir_alike k) (dirs_alike (k + 1) c)

  before_alike : (before : List ℕ) → AreDirsBefore g m places before → AreDirsBefore g n places before
  before_alike before right i below = right i below ∙ ap Some (sym (dirs_alike 1 (nodes_before g.layout i)))

module _ (laws : StayLaws) (of_files : FileLaws) (now : State) (fits : IsGeometry now.books.geom) (w : Blocks) (d : DraftState) (t : Tree) (told : IsTold now) (stands : IsTreeOf now.books.geom now.map t) (sound : IsSoundDraft now.books now.map d) (stays : StaysBeside d now) (fin : HasDrafted now d w) where
  pub gone_still : (k : ℕ) (v : KeptState) → IsSnapshotAt now.books.geom now.map k v.places → AreDirsBefore now.books.geom now.map v.places v.before → IsSnapshotAt now.books.geom w k v.places × AreDirsBefore now.books.geom w v.places v.before
  gone_still k v at right =
      let f = found now w d t told stands sound stays fin laws.kinds k at.node at.is_node at.kind in
      let kind : f.0.kind ≡ Snapshot = ap (λ (x : FileNode). x.kind) f.2 ∙ at.kind in
      let places : run_places f.0.runs ≡ v.places = places_same now w d t told stands sound stays fin laws.kinds k at.node at.is_node at.kind ∙ at.places_are in
      let same : HaveSameSnapshot now.books.geom now.map w v.places =
      subst (HaveSameSnapshot now.books.geom now.map w) at.places_are (same_snapshot now w d t told stands sound stays fin laws.kinds k at.node at.is_node at.kind) in (
        record { node = f.0; is_node = f.1; kind = kind; places_are = places },
        before_alike now.books.geom now.map w v.places (of_files.files now.books.geom now.map w v.places fits same)
            (subst (HaveTheirSizes now.books.geom now.map) at.places_are (of_files.bytes now.books.geom now.map k at.node stands.sound at.is_node at.kind))
            (subst (HaveTheirSizes now.books.geom w) places (of_files.bytes now.books.geom w k f.0 (sound_still laws now fits w d t told stands sound stays fin) f.1 kind))
            v.before right,
      )
