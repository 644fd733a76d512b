-- What a draft is after content was written within the blocks of a node, and nothing else was done.
use Rattle.std.proofs.Common.{◌≡◌, ℕ, ◌<◌, true, false, IsTrue, List, length, All, Some, refl, sym, ap, subst, ◌∙◌, arith}
use Rattle.std.proofs.lemmas.Bool.{false≢true, false_from_ne_true}
use Rattle.std.proofs.lemmas.Option.{same_Some}
use Rattle.base_types.specs.Seal.{Blocks}
use Rattle.base_types.specs.declared.words.Class.{Class}
use Rattle.base_types.specs.Runs.{run_places}
use Rattle.layout_geometry.specs.Geometry.{IsGeometry, data_start}
use Rattle.layout_bytes.specs.declared.node.Node.{Node}
use Rattle.layout_bytes.specs.declared.node.NodeKind.TheVariants.{Dir}
use Rattle.layout_bytes.specs.Bytes.{are_zeros}
use Rattle.engine_blocks.specs.Running.{has}
use Rattle.engine_blocks.specs.State.{Bookkeeping}
use Rattle.crash_stands.specs.Files.{past_content, used_node, file_of, files_of}
use Rattle.fs_files.specs.Calls.{IsWithFile}
use Rattle.fs_files.specs.Content.{WritesContent}
use Rattle.fs_files.specs.Drafts.{DraftState, drafted}
use Rattle.fs_files.specs.Shared.{is_kept}
use Rattle.fs_files.specs.Sound.{FitsBooks, IsSoundDraft}
use Rattle.fs_files.proofs.frames.Frames.{SharesFiles, shared_changed}
use Rattle.fs_files.proofs.frames.Places.{used_data, used_marked, all_of}
use Rattle.fs_files.proofs.frames.Rules.{rules_of, sound_from, writes_others, writes_rules}
use Rattle.fs_files.proofs.frames.Steps.{both, content_changes}

module _ (k : Bookkeeping) (m : Blocks) (number : ℕ) (node : Node) (class : Class) (bs : List ℕ) (d e : DraftState) (geom : IsGeometry k.geom) (fits : FitsBooks k d) (sound : IsSoundDraft k m d)
    (used : used_node k.geom (drafted d m) number ≡ Some node) (writes : WritesContent class bs d e) (its : (b : ℕ) → has bs b ≡ true → has (run_places node.runs) b ≡ true)
    (away : All (λ b. is_kept d.kept b ≡ false) bs) where
  -- a block that isn't the node's is as before
  pub written_others : (b : ℕ) → has (run_places node.runs) b ≡ false → drafted e m b ≡ drafted d m b
  written_others b out = writes_others k class bs d e writes m b (false_from_ne_true (has bs b) (λ mine. false≢true (sym out ∙ its b mine)))

  -- a block of the table is none of the node's
  pub written_table : (b : ℕ) → b < data_start k.geom → drafted e m b ≡ drafted d m b
  written_table b below = written_others b (false_from_ne_true (has (run_places node.runs) b) (λ is. omega (arith, (used_data k.geom (drafted d m) number node used b is).from, below)))

  pub written_sound : All (λ b. length (drafted e m b) ≡ 1024) (run_places node.runs) → (node.kind ≡ Dir → IsTrue (are_zeros (past_content k.geom.layout (drafted e m) node)))
      → IsSoundDraft k m e × IsWithFile (files_of k.geom (drafted d m)) (files_of k.geom (drafted e m)) number (Some (file_of k.geom.layout (drafted e m) node))
  written_sound whole tail =
      let ch = content_changes k.geom sound.live sound.live (drafted d m) (drafted e m) number node geom.whole_blocks sound.blocks used
      (λ b from below. written_table b below)
      (λ b from below out. written_others b out)
      (λ b from below. refl)
      whole tail in
      let all = both k.geom sound.live sound.live (drafted d m) (drafted e m) number (Some node) (Some node) sound.blocks ch in
      let rules = writes_rules k class bs d e writes sound.live
      (all_of (λ b. sound.live b ≡ true) bs (λ b mine. used_marked k.geom sound.live (drafted d m) number node sound.blocks used b (its b mine)))
      away (rules_of k m d sound) in
      let shared : SharesFiles k.geom (is_kept d.kept) (drafted e m) = shared_changed k.geom sound.live sound.live (drafted d m) (drafted e m) number (Some node) (Some node) (is_kept d.kept) sound.blocks ch sound.shared
      (λ new b same mine keep. let back : node ≡ new = same_Some node new same in (node, refl, ap (λ (x : Node). has (run_places x.runs) b) back ∙ mine, ap (λ (x : Node). x.kind) back)) in
      (sound_from k sound.live m e rules all.0 (subst (λ ks. SharesFiles k.geom (is_kept ks) (drafted e m)) (sym writes.kept) shared), all.1)
