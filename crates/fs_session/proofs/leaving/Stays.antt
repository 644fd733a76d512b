-- Where a draft leaves the snapshots as they are the finished map is sound, and stands for the tree with the draft's paths and nodes and the same snapshots.
use Rattle.std.proofs.Common.{◌≡◌, ◌≢◌, ◌↔◌, ℕ, ◌*◌, ◌<◌, ◌≤◌, Bool, true, List, [], ◌∷◌, length, get_or, slice_get, Some, option_map, refl, sym, ap, subst, ◌∙◌, arith}
use Rattle.std.proofs.lemmas.Option.{same_Some}
use Rattle.std.specs.FinMap.{get}
use Rattle.base_types.specs.Seal.{Blocks}
use Rattle.base_types.specs.Runs.{run_places}
use Rattle.layout_geometry.specs.Geometry.{Geometry, IsGeometry, data_start}
use Rattle.layout_bytes.specs.declared.node.Node.{Node}
use Rattle.layout_bytes.specs.declared.node.NodeKind.TheVariants.{Free, Snapshot}
use Rattle.layout_bytes.specs.Bitmap.{is_set}
use Rattle.lang_tree.specs.Tree.{Tree, Kept, Snapshots}
use Rattle.crash_stands.specs.Files.{FileNode, used_node}
use Rattle.crash_stands.specs.Inodes.{Inodes, AreInodesOf, IsInodeOf}
use Rattle.crash_stands.specs.Kept.{HaveSameSnapshot}
use Rattle.crash_stands.specs.Maps.{IsMapOf}
use Rattle.crash_stands.specs.Sharing.{HasKeptBlock, IsKeptBlock, IsSoundKept}
use Rattle.crash_stands.specs.Stands.{AreSound, HoldsSnapshot, IsTreeOf, KeepsTree}
use Rattle.engine_blocks.specs.Crashes.{IsTold}
use Rattle.engine_blocks.specs.State.{State}
use Rattle.fs_files.specs.Calls.{files_in}
use Rattle.fs_files.specs.Drafts.{DraftState}
use Rattle.fs_files.specs.Shared.{is_kept}
use Rattle.fs_files.specs.Sound.{AreSoundBeside, HasSoundKept, IsSoundDraft, TellsKept}
use Rattle.fs_snapshots.specs.Known.{snapshot_number}
use Rattle.fs_session.specs.Plans.{HasDrafted, StaysBeside}
use Rattle.fs_session.proofs.leaving.Leaving.{found, other_size, own_same, places_same, same_snapshot, was_there}

-- what the laws say of a snapshot whose blocks stay
pub record StayLaws : Type 0 where
  pub tree : (g : Geometry) (m n : Blocks) (places : List ℕ) (k : Kept) → IsGeometry g → HaveSameSnapshot g m n places → KeepsTree g m places k → KeepsTree g n places k
  pub sound : (g : Geometry) (m n : Blocks) (places : List ℕ) → IsGeometry g → HaveSameSnapshot g m n places → IsSoundKept g m places → IsSoundKept g n places
  pub blocks : (g : Geometry) (m n : Blocks) (places : List ℕ) → IsGeometry g → HaveSameSnapshot g m n places → (k i b : ℕ) → HasKeptBlock g n places k i b ↔ HasKeptBlock g m places k i b
  pub marked : (g : Geometry) (m n : Blocks) → AreSound g m → ((b : ℕ) → data_start g ≤ b → b < g.n → is_set g m b ≡ true → n b ≡ m b)
      → (k : ℕ) (node : Node) → used_node g m k ≡ Some node → node.kind ≡ Snapshot → HaveSameSnapshot g m n (run_places node.runs)
  pub kinds : (g : Geometry) (m : Blocks) (k : ℕ) (node : Node) → used_node g m k ≡ Some node → node.kind ≢ Free
  pub to : (g : Geometry) (m : Blocks) (kept : ℕ → Bool) → TellsKept g kept m → AreSound g m → AreSoundBeside g kept m
  pub from : (g : Geometry) (m : Blocks) (kept : ℕ → Bool) → TellsKept g kept m → HasSoundKept g m → AreSoundBeside g kept m → AreSound g m

-- what the law says of the numbers of snapshots, by their names
abbrev pub NamesSnapshots : Type 0
NamesSnapshots = (g : Geometry) (m : Blocks) (t : Tree) (name : List ℕ) → IsTreeOf g m t → snapshot_number g m name ≡ option_map (λ (k : Kept). k.number) (get t.snapshots name)

-- a list that isn't empty has a first place
pub first_place : (ps : List ℕ) → 1 ≤ length ps → slice_get ps 0 ≡ Some (get_or ps 0 0)
first_place [] some = absurd (omega (arith, some))
first_place (p ∷ ps) some = refl

module _ (laws : StayLaws) (now : State) (fits : IsGeometry now.books.geom) (w : Blocks) (d : DraftState) (t : Tree) (told : IsTold now) (stands : IsTreeOf now.books.geom now.map t) (sound : IsSoundDraft now.books now.map d) (stays : StaysBeside d now) (fin : HasDrafted now d w) where
  abbrev same_at : (k : ℕ) (node : Node) (used : used_node now.books.geom now.map k ≡ Some node) (kind : node.kind ≡ Snapshot) → HaveSameSnapshot now.books.geom now.map w (run_places node.runs)
  same_at k node used kind = same_snapshot now w d t told stands sound stays fin laws.kinds k node used kind

  -- the node of a snapshot of the finished map has the places that it had
  places_were : (k : ℕ) (other node : Node) → used_node now.books.geom w k ≡ Some other → (used : used_node now.books.geom now.map k ≡ Some node) (kind : node.kind ≡ Snapshot) → run_places other.runs ≡ run_places node.runs
  places_were k other node there used kind =
      ap (λ (n : Node). run_places n.runs) (same_Some other (found now w d t told stands sound stays fin laws.kinds k node used kind).0 (sym there ∙ (found now w d t told stands sound stays fin laws.kinds k node used kind).1))
      ∙ places_same now w d t told stands sound stays fin laws.kinds k node used kind

  each_sound : HasSoundKept now.books.geom w
  each_sound k other there kind =
      let was = was_there now w d t told stands sound stays fin laws.kinds k other there kind in
      subst (λ (ps : List ℕ). IsSoundKept now.books.geom w ps) (sym (places_were k other was.0 there was.1 was.2))
      (laws.sound now.books.geom now.map w (run_places was.0.runs) fits (same_at k was.0 was.1 was.2) (stands.sound.kept k was.0 was.1 was.2))

  kept_still : (b : ℕ) → IsKeptBlock now.books.geom now.map b → IsKeptBlock now.books.geom w b
  kept_still b one =
      let f = found now w d t told stands sound stays fin laws.kinds one.snapshot one.node one.is_node one.kind in
      record {
        snapshot = one.snapshot;
        node = f.0;
        is_node = f.1;
        kind = ap (λ (x : FileNode). x.kind) f.2 ∙ one.kind;
        number = one.number;
        place = one.place;
        has = subst (λ (ps : List ℕ). HasKeptBlock now.books.geom w ps one.number one.place b) (sym (places_same now w d t told stands sound stays fin laws.kinds one.snapshot one.node one.is_node one.kind))
            ((laws.blocks now.books.geom now.map w (run_places one.node.runs) fits (same_at one.snapshot one.node one.is_node one.kind) one.number one.place b).1 one.has);
      }

  kept_before : (b : ℕ) → IsKeptBlock now.books.geom w b → IsKeptBlock now.books.geom now.map b
  kept_before b one =
      let was = was_there now w d t told stands sound stays fin laws.kinds one.snapshot one.node one.is_node one.kind in
      record {
        snapshot = one.snapshot;
        node = was.0;
        is_node = was.1;
        kind = was.2;
        number = one.number;
        place = one.place;
        has = (laws.blocks now.books.geom now.map w (run_places was.0.runs) fits (same_at one.snapshot was.0 was.1 was.2) one.number one.place b).0
            (subst (λ (ps : List ℕ). HasKeptBlock now.books.geom w ps one.number one.place b) (places_were one.snapshot one.node was.0 one.is_node was.1 was.2) one.has);
      }

  pub tells_still : TellsKept now.books.geom (is_kept d.kept) w
  tells_still b = (λ keep. kept_still b ((stays.kept b).0 keep), λ one. (stays.kept b).1 (kept_before b one))

  -- so the map is sound
  pub sound_still : AreSound now.books.geom w
  sound_still =
      laws.from now.books.geom w (is_kept d.kept) tells_still each_sound (fin.sound (laws.to now.books.geom now.map (is_kept d.kept) stays.kept stands.sound))

  -- and has each snapshot of the tree
  holds_still : (name : List ℕ) (k : Kept) → get t.snapshots name ≡ Some k → HoldsSnapshot now.books.geom w name k
  holds_still name k at =
      let held = stands.keeps name k at in
      let f = found now w d t told stands sound stays fin laws.kinds k.number held.node held.is_node held.kind in
      let places = places_same now w d t told stands sound stays fin laws.kinds k.number held.node held.is_node held.kind in
      let same = same_at k.number held.node held.is_node held.kind in
      let first = first_place (run_places held.node.runs) (omega (arith, same.long)) in
      record {
        node = f.0;
        is_node = f.1;
        kind = ap (λ (x : FileNode). x.kind) f.2 ∙ held.kind;
        links = ap (λ (x : FileNode). x.links) f.2 ∙ held.links;
        size = other_size now w d t told stands sound stays fin laws.kinds k.number held.node held.is_node held.kind ∙ held.size ∙ ap (λ (ps : List ℕ). 1024 * length ps) (sym places);
        lawful = held.lawful;
        named = ap (λ (ps : List ℕ). w (get_or ps 0 0)) places ∙ own_same now w d t told stands sound stays fin laws.kinds k.number held.node held.is_node held.kind 0 (get_or (run_places held.node.runs) 0 0) first ∙ held.named;
        keeps = subst (λ (ps : List ℕ). KeepsTree now.books.geom w ps k) (sym places) (laws.tree now.books.geom now.map w (run_places held.node.runs) k fits same held.keeps);
      }

  -- so it stands for the tree of the draft's inodes with these snapshots
  pub stands_still : (u : Tree) (inodes : Inodes) → u.snapshots ≡ t.snapshots → AreInodesOf now.books.geom.layout (files_in now d) inodes → IsMapOf now.books.geom.i inodes u → IsTreeOf now.books.geom w u
  stands_still u inodes same reads map = record {
    inodes = inodes;
    read = λ k. subst (λ o. IsInodeOf now.books.geom.layout o (inodes k)) (sym (fin.files k)) (reads k);
    map = map;
    sound = sound_still;
    keeps = λ name k at. holds_still name k (ap (λ (m : Snapshots). get m name) (sym same) ∙ at);
    each = λ n other there kind.
        let was = was_there now w d t told stands sound stays fin laws.kinds n other there kind in
        let its = stands.each n was.0 was.1 was.2 in
        (its.0, its.1, ap (λ (m : Snapshots). get m its.0) same ∙ its.2, its.3);
  }
