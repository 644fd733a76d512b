use Rattle.std.proofs.Common.{◌≡◌, ℕ, true, false, All, Some, sym, ap, subst, ◌∙◌}
use Rattle.std.proofs.lemmas.Bool.{false≢true, false_from_ne_true}
use Rattle.base_types.specs.Seal.{Blocks}
use Rattle.base_types.specs.Runs.{run_places}
use Rattle.layout_bytes.specs.declared.node.NodeKind.TheVariants.{Dir}
use Rattle.engine_blocks.specs.State.{Bookkeeping}
use Rattle.crash_stands.specs.Files.{FileNode, files_of}
use Rattle.fs_files.specs.Calls.{is_dir, places_of, places_or_none}
use Rattle.fs_files.specs.Drafts.{DraftState, drafted}
use Rattle.fs_files.specs.Shared.{is_kept}
use Rattle.fs_files.specs.Sound.{IsSoundDraft}
use Rattle.fs_files.proofs.frames.Places.{all_of, file_node, has_block}
use Rattle.fs_files.proofs.laws.a_directory_shares_no_block.Goals as goal

-- a block that is kept is a file's
shares_none : (k : Bookkeeping) (m : Blocks) (d : DraftState) (number : ℕ) (x : FileNode) → IsSoundDraft k m d → files_of k.geom (drafted d m) number ≡ Some x → x.kind ≡ Dir
    → All (λ b. is_kept d.kept b ≡ false) (places_of k.geom (drafted d m) number)
shares_none k m d number x sound at dir =
    let r = file_node k.geom sound.live (drafted d m) number x sound.blocks at in
    let kind : is_dir r.0.kind ≡ true = ap (λ (y : FileNode). is_dir y.kind) (sym r.2) ∙ ap is_dir dir in
    subst (All (λ b. is_kept d.kept b ≡ false)) (sym (ap places_or_none r.1)) (all_of (λ b. is_kept d.kept b ≡ false) (run_places r.0.runs) (λ b mine. false_from_ne_true (is_kept d.kept b) (λ keep.
    let own = has_block k.geom (drafted d m) number r.0 r.1 b mine in
    false≢true (sym (ap is_dir (sound.shared b number own.0 r.0 keep own.1 r.1)) ∙ kind))))

pub returns : goal.returns
returns g c = λ s d k x tells draft file dir. shares_none (g.S.Blocks.state s).books (g.S.Blocks.state s).map d k x (draft.sound tells) file dir
