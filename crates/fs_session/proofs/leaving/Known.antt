-- What is known of the snapshots, by counts of their blocks and by names, stays so where a draft leaves them as they are.
use Rattle.std.proofs.Common.{◌≡◌, ◌⊎◌, inl, inr, ⊎_elim, ℕ, ◌&&◌, Bool, true, false, find, List, length, get_or, filter, bytes_eq, Option, Some, None, refl, sym, ap, ap₂, ◌∙◌, arith}
use Rattle.std.proofs.lemmas.Bool.{cases_Bool, false≢true}
use Rattle.std.specs.List.{range_with_len}
use mathlib.Core.Path.{fun_ext}
use Rattle.base_types.specs.Seal.{Blocks}
use Rattle.base_types.specs.Runs.{run_places}
use Rattle.layout_geometry.specs.Geometry.{IsGeometry}
use Rattle.layout_bytes.specs.declared.node.Node.{Node}
use Rattle.layout_bytes.specs.declared.node.NodeKind.{NodeKind}
use Rattle.layout_bytes.specs.declared.node.NodeKind.TheVariants.{Snapshot}
use Rattle.layout_bytes.specs.SnapshotName.{name_block}
use Rattle.lang_tree.specs.Tree.{Tree}
use Rattle.crash_stands.specs.Files.{FileNode, used_node}
use Rattle.crash_stands.specs.Stands.{IsTreeOf}
use Rattle.crash_snapshots.specs.Kept.{is_snapshot}
use Rattle.engine_blocks.specs.Crashes.{IsTold}
use Rattle.engine_blocks.specs.Running.{has}
use Rattle.engine_blocks.specs.State.{State}
use Rattle.fs_files.specs.Calls.{places_or_none}
use Rattle.fs_files.specs.Drafts.{DraftState}
use Rattle.fs_files.specs.Sound.{IsSoundDraft}
use Rattle.fs_snapshots.specs.Known.{KnowsSnapshots, blocks_kept, count_keepers, has_name, is_snapshot_node, keeps_block, node_blocks, snapshot_number}
use Rattle.fs_snapshots.specs.Nodes.{snapshot_kind}
use Rattle.fs_session.specs.Plans.{HasDrafted, StaysBeside}
use Rattle.fs_session.proofs.leaving.Leaving.{found, own_same, places_same, same_snapshot, was_there}
use Rattle.fs_session.proofs.leaving.Listed.{kept_alike}
use Rattle.fs_session.proofs.leaving.Stays.{StayLaws, first_place}

-- a node that is a snapshot
snapshot_node : (o : Option Node) → is_snapshot_node o ≡ true → (node : Node) × (o ≡ Some node) × (node.kind ≡ Snapshot)
snapshot_node None is = absurd (false≢true is)
snapshot_node (Some node) is = (node, refl, snapshot_kind node.kind is)

-- none other has the name of one
no_name : (m : Blocks) (name : List ℕ) (o : Option Node) → is_snapshot_node o ≡ false → has_name m name o ≡ false
no_name m name None isnt = refl
no_name m name (Some node) isnt = ap (λ b. b && bytes_eq (m (get_or (run_places node.runs) 0 0)) (name_block name)) isnt

module _ (laws : StayLaws) (now : State) (fits : IsGeometry now.books.geom) (w : Blocks) (d : DraftState) (t : Tree) (told : IsTold now) (stands : IsTreeOf now.books.geom now.map t) (sound : IsSoundDraft now.books now.map d) (stays : StaysBeside d now) (fin : HasDrafted now d w) where
  -- a node is a snapshot where it was one
  still_none : (k : ℕ) → is_snapshot_node (used_node now.books.geom now.map k) ≡ false → is_snapshot_node (used_node now.books.geom w k) ≡ false
  still_none k isnt = ⊎_elim
      (λ is.
      let other = snapshot_node (used_node now.books.geom w k) is in
      let was = was_there now w d t told stands sound stays fin laws.kinds k other.0 other.1 other.2 in
      absurd (false≢true (sym isnt ∙ ap is_snapshot_node was.1 ∙ ap is_snapshot was.2)))
      (λ none. none) (cases_Bool (is_snapshot_node (used_node now.books.geom w k)))

  -- with its name
  name_alike : (name : List ℕ) (k : ℕ) → has_name w name (used_node now.books.geom w k) ≡ has_name now.map name (used_node now.books.geom now.map k)
  name_alike name k = by (cases_Bool (is_snapshot_node (used_node now.books.geom now.map k)))
    where
      by : (is_snapshot_node (used_node now.books.geom now.map k) ≡ true) ⊎ (is_snapshot_node (used_node now.books.geom now.map k) ≡ false)
          → has_name w name (used_node now.books.geom w k) ≡ has_name now.map name (used_node now.books.geom now.map k)
      by (inl is) =
          let s = snapshot_node (used_node now.books.geom now.map k) is in
          let there = found now w d t told stands sound stays fin laws.kinds k s.0 s.1 s.2 in
          let places = places_same now w d t told stands sound stays fin laws.kinds k s.0 s.1 s.2 in
          let same = same_snapshot now w d t told stands sound stays fin laws.kinds k s.0 s.1 s.2 in
          let first = first_place (run_places s.0.runs) (omega (arith, same.long)) in
          let block : w (get_or (run_places there.0.runs) 0 0) ≡ now.map (get_or (run_places s.0.runs) 0 0) =
          ap (λ (ps : List ℕ). w (get_or ps 0 0)) places ∙ own_same now w d t told stands sound stays fin laws.kinds k s.0 s.1 s.2 0 (get_or (run_places s.0.runs) 0 0) first in
          ap (has_name w name) there.1
          ∙ ap₂ (λ (kind : NodeKind) (bytes : List ℕ). is_snapshot kind && bytes_eq bytes (name_block name)) (ap (λ (x : FileNode). x.kind) there.2) block
          ∙ sym (ap (has_name now.map name) s.1)
      by (inr isnt) = no_name w name (used_node now.books.geom w k) (still_none k isnt) ∙ sym (no_name now.map name (used_node now.books.geom now.map k) isnt)

  -- and keeps what it kept
  keeps_alike : (b k : ℕ) → keeps_block now.books.geom w b k ≡ keeps_block now.books.geom now.map b k
  keeps_alike b k = by (cases_Bool (is_snapshot_node (used_node now.books.geom now.map k)))
    where
      by : (is_snapshot_node (used_node now.books.geom now.map k) ≡ true) ⊎ (is_snapshot_node (used_node now.books.geom now.map k) ≡ false) → keeps_block now.books.geom w b k ≡ keeps_block now.books.geom now.map b k
      by (inl is) =
          let s = snapshot_node (used_node now.books.geom now.map k) is in
          let there = found now w d t told stands sound stays fin laws.kinds k s.0 s.1 s.2 in
          let places = places_same now w d t told stands sound stays fin laws.kinds k s.0 s.1 s.2 in
          let same = same_snapshot now w d t told stands sound stays fin laws.kinds k s.0 s.1 s.2 in
          let kept : blocks_kept now.books.geom w k ≡ blocks_kept now.books.geom now.map k =
          fun_ext (λ l. kept_alike now.books.geom now.map w k l (run_places s.0.runs) (ap places_or_none s.1) (ap places_or_none there.1 ∙ places) (λ i c. laws.blocks now.books.geom now.map w (run_places s.0.runs) fits same l i c)) in
          let still : is_snapshot_node (used_node now.books.geom w k) ≡ true = ap is_snapshot_node there.1 ∙ ap is_snapshot (ap (λ (x : FileNode). x.kind) there.2 ∙ s.2) in
          ap₂ (λ x (f : ℕ → List ℕ). x && has (node_blocks f now.books.geom.i) b) (still ∙ sym is) kept
      by (inr isnt) =
          ap (λ x. x && has (node_blocks (blocks_kept now.books.geom w k) now.books.geom.i) b) (still_none k isnt)
          ∙ sym (ap (λ x. x && has (node_blocks (blocks_kept now.books.geom now.map k) now.books.geom.i) b) isnt)

  -- So what is known of them stays so.

  number_still : (name : List ℕ) → snapshot_number now.books.geom w name ≡ snapshot_number now.books.geom now.map name
  number_still name = ap (λ (p : ℕ → Bool). find p (range_with_len 1 now.books.geom.i)) (fun_ext (λ k. name_alike name k))

  count_still : (b : ℕ) → count_keepers now.books.geom w b ≡ count_keepers now.books.geom now.map b
  count_still b = ap (λ (p : ℕ → Bool). length (filter p (range_with_len 1 now.books.geom.i))) (fun_ext (λ k. keeps_alike b k))

  pub known_still : (counts : List ℕ) (numbers : List ℕ → Option ℕ) → KnowsSnapshots now.books.geom now.map counts numbers → KnowsSnapshots now.books.geom w counts numbers
  known_still counts numbers knows = record {
    kept = record { each = λ b. knows.kept.each b ∙ sym (count_still b); room = knows.kept.room };
    named = λ name. knows.named name ∙ sym (number_still name);
  }
