-- A draft in which the content and the places of a node changed, and then the node was put into its block: what it is, against the draft before both.
use Rattle.std.proofs.Common.{◌≡◌, ◌≢◌, ◌⊎◌, inl, inr, ℕ, ◌<◌, ◌≤◌, ◌&&◌, ◌||◌, Bool, true, false, not, IsTrue, List, ◌++◌, length, take, drop, All, Some, refl, sym, ap, subst, ◌∙◌, arith}
use Rattle.std.specs.List.{AllPairs}
use Rattle.std.proofs.lemmas.Bool.{false≢true, or_left}
use Rattle.std.proofs.lemmas.Option.{same_Some}
use Rattle.std.proofs.lemmas.Bool.Decides.{nat_tests}
use Rattle.base_types.specs.Seal.{Blocks}
use Rattle.base_types.specs.Runs.{run_places}
use Rattle.base_types.specs.Layouts.{node_byte}
use Rattle.layout_geometry.specs.Geometry.{IsGeometry, table_start, data_start}
use Rattle.layout_bytes.specs.declared.node.Node.{Node}
use Rattle.layout_bytes.specs.declared.node.NodeKind.TheVariants.{Dir}
use Rattle.layout_bytes.specs.Bytes.{are_zeros}
use Rattle.layout_bytes.specs.Node.{content_of, node_spelling}
use Rattle.engine_blocks.specs.Running.{has}
use Rattle.engine_blocks.specs.State.{Bookkeeping}
use Rattle.engine_blocks.specs.Puts.{IsData}
use Rattle.crash_stands.specs.Files.{joined, content, past_content, used_node, file_of, files_of}
use Rattle.fs_files.specs.declared.changes.Changed.{Changed}
use Rattle.fs_files.specs.Bytes.{overwrite}
use Rattle.fs_files.specs.Calls.{IsWithFile}
use Rattle.fs_files.specs.Drafts.{DraftState, drafted, marks_of, PutsBlock}
use Rattle.fs_files.specs.Frames.{used_of, ReadsBack, HasNewNode, ChangesNode}
use Rattle.fs_files.specs.Nodes.{node_block}
use Rattle.fs_files.specs.Shared.{is_kept}
use Rattle.fs_files.specs.Sound.{AreSoundBy, FitsBooks, IsSoundDraft}
use Rattle.fs_files.proofs.frames.Cells.{block_from, block_below, node_stored}
use Rattle.fs_files.proofs.frames.Frames.{SharesFiles, shared_changed}
use Rattle.fs_files.proofs.frames.Places.{joined_same, all_of}
use Rattle.fs_files.proofs.frames.Puts.{put_own, put_others, put_fits, put_rules}
use Rattle.fs_files.proofs.frames.Rules.{HasRules, sound_from}
use Rattle.fs_files.proofs.frames.Steps.{both, node_renewed, node_cut}
use Rattle.fs_files.proofs.drafts.Lists.{each_of, has_append}

-- The node is in its block, the data blocks are those of draft f, these blocks are live now, and the draft fits.
pub record IsStored (k : Bookkeeping) (now : ℕ → Bool) (m : Blocks) (number : ℕ) (node : Node) (d f e : DraftState) : Type 0 where
  pub fits : FitsBooks k e
  pub rules : HasRules k now e
  pub node_is : HasNewNode k.geom (drafted d m) (drafted e m) number (used_of node)
  pub blocks : (b : ℕ) → data_start k.geom ≤ b → drafted e m b ≡ drafted f m b
  pub kept : e.kept ≡ d.kept

pub stored_after : (k : Bookkeeping) (live now : ℕ → Bool) (m : Blocks) (number : ℕ) (node : Node) (c : Changed) (d f e : DraftState) → IsGeometry k.geom → 1 ≤ number → number ≤ k.geom.i
    → AreSoundBy k.geom live (drafted d m) → FitsBooks k f → HasRules k now f → f.kept ≡ d.kept
    → ((b : ℕ) → table_start k.geom ≤ b → b < data_start k.geom → drafted f m b ≡ drafted d m b)
    → c.bytes ≡ overwrite (node_byte k.geom.layout number) (node_spelling k.geom.layout node) (drafted d m (node_block k.geom number)) → PutsBlock (node_block k.geom number) c f e → ReadsBack k.geom node
    → IsStored k now m number node d f e
stored_after k live now m number node c d f e geom from upto sound fits rules kept table bytes puts back =
    let low = block_from k.geom number in
    let high = block_below k.geom number geom.whole_blocks from upto in
    record {
      fits = put_fits k f e (node_block k.geom number) c geom low high fits puts;
      rules = put_rules k f e (node_block k.geom number) c geom low high fits puts now rules;
      node_is = node_stored k.geom (drafted d m) (drafted e m) number node geom.whole_blocks from upto back
          (put_own k f e (node_block k.geom number) c geom low high fits puts m ∙ bytes)
          (λ b a z away. put_others k f e (node_block k.geom number) c geom low high fits puts m b away ∙ table b a z)
          sound.table;
      blocks = λ b from_data. put_others k f e (node_block k.geom number) c geom low high fits puts m b (λ here. absurd (omega (arith, here, high, from_data)));
      kept = puts.kept ∙ kept;
    }

-- so the draft is sound where the node's change is one, and the files change at that number
pub stored_sound_files : (k : Bookkeeping) (now : ℕ → Bool) (m : Blocks) (number : ℕ) (node old : Node) (d f e : DraftState) (sound : IsSoundDraft k m d) → IsStored k now m number node d f e
    → ChangesNode k.geom sound.live now (drafted d m) (drafted e m) number (Some old) (Some node) → node.kind ≡ old.kind
    → ((b : ℕ) → has (run_places node.runs) b ≡ true → is_kept d.kept b ≡ true → has (run_places old.runs) b ≡ true)
    → IsSoundDraft k m e × IsWithFile (files_of k.geom (drafted d m)) (files_of k.geom (drafted e m)) number (Some (file_of k.geom.layout (drafted e m) node))
stored_sound_files k now m number node old d f e sound is ch kind its =
    let all = both k.geom sound.live now (drafted d m) (drafted e m) number (Some old) (Some node) sound.blocks ch in
    let shared : SharesFiles k.geom (is_kept d.kept) (drafted e m) = shared_changed k.geom sound.live now (drafted d m) (drafted e m) number (Some old) (Some node) (is_kept d.kept) sound.blocks ch sound.shared
    (λ new b same mine keep.
    let back : node ≡ new = same_Some node new same in
    (old, refl, its b (ap (λ (x : Node). has (run_places x.runs) b) back ∙ mine) keep, sym kind ∙ ap (λ (x : Node). x.kind) back)) in
    (sound_from k now m e is.rules all.0 (subst (λ ks. SharesFiles k.geom (is_kept ks) (drafted e m)) (sym is.kept) shared), all.1)

module _ (k : Bookkeeping) (m : Blocks) (number : ℕ) (node old : Node) (d f e : DraftState) (now : ℕ → Bool) (sound : IsSoundDraft k m d) (is : IsStored k now m number node d f e) (kind : node.kind ≡ old.kind) (used : used_of node ≡ Some node)
    (was : used_node k.geom (drafted d m) number ≡ Some old) (inside : All (IsData k.geom) (run_places node.runs))
    (whole : All (λ b. length (drafted f m b) ≡ 1024) (run_places node.runs)) (tail : node.kind ≡ Dir → IsTrue (are_zeros (past_content k.geom.layout (drafted f m) node))) where
  there : HasNewNode k.geom (drafted d m) (drafted e m) number (Some node)
  there = subst (HasNewNode k.geom (drafted d m) (drafted e m) number) used is.node_is

  -- the node's blocks are those of draft f
  pub stored_joined : joined (drafted e m) (run_places node.runs) ≡ joined (drafted f m) (run_places node.runs)
  stored_joined = joined_same (drafted f m) (drafted e m) (run_places node.runs) (λ b mine. is.blocks b (each_of (IsData k.geom) (run_places node.runs) inside b mine).from)

  pub stored_content : content k.geom.layout (drafted e m) node ≡ content k.geom.layout (drafted f m) node
  stored_content = ap (take (content_of k.geom.layout node.kind node.size)) stored_joined

  whole_now : All (λ b. length (drafted e m b) ≡ 1024) (run_places node.runs)
  whole_now = grind (arith, nat_tests, all_of, each_of)

  tail_now : node.kind ≡ Dir → IsTrue (are_zeros (past_content k.geom.layout (drafted e m) node))
  tail_now dir = ap (λ xs. are_zeros (drop (content_of k.geom.layout node.kind node.size) xs)) stored_joined ∙ tail dir

  -- the node got new blocks, perhaps none, of those that weren't marked
  pub stored_renewed : (more : List ℕ) → ((b : ℕ) → has (run_places node.runs) b ≡ true → (has (run_places old.runs) b ≡ true) ⊎ (has more b ≡ true)) → ((b : ℕ) → has more b ≡ true → has (run_places node.runs) b ≡ true)
      → AllPairs (λ a b. a ≢ b) (run_places node.runs) → All (IsData k.geom) more → All (λ b. marks_of d k.marked b ≡ false) more
      → ((b : ℕ) → data_start k.geom ≤ b → b < k.geom.n → has (run_places old.runs) b ≡ false → has more b ≡ false → drafted f m b ≡ drafted d m b)
      → ((b : ℕ) → now b ≡ (has (run_places node.runs) b || (sound.live b && not (has (run_places old.runs) b))))
      → IsSoundDraft k m e × IsWithFile (files_of k.geom (drafted d m)) (files_of k.geom (drafted e m)) number (Some (file_of k.geom.layout (drafted e m) node))
  stored_renewed more either came once its_data free others marks =
      stored_sound_files k now m number node old d f e sound is
      (node_renewed k.geom sound.live now (drafted d m) (drafted e m) number old node more sound.blocks was there either came once its_data
      (all_of (λ b. sound.live b ≡ false) more (λ b mine. (unmarked b mine).0))
      (λ b from below not_old not_more. is.blocks b from ∙ others b from below not_old not_more)
      (λ b from below. marks b)
      whole_now tail_now)
      kind (λ b mine keep. of_old b keep (either b mine))
    where
      neither : (marks live kept : Bool) → marks ≡ false → marks ≡ (live || kept) → (live ≡ false) × (kept ≡ false)
      neither marks live kept e h = grind (arith, nat_tests)

      unmarked : (b : ℕ) → has more b ≡ true → (sound.live b ≡ false) × (is_kept d.kept b ≡ false)
      unmarked b mine =
          let at = each_of (IsData k.geom) more its_data b mine in
          neither (marks_of d k.marked b) (sound.live b) (is_kept d.kept b) (each_of (λ c. marks_of d k.marked c ≡ false) more free b mine) (sound.bits b at.from at.below)

      of_old : (b : ℕ) → is_kept d.kept b ≡ true → (has (run_places old.runs) b ≡ true) ⊎ (has more b ≡ true) → has (run_places old.runs) b ≡ true
      of_old b keep (inl first) = first
      of_old b keep (inr second) = absurd (false≢true (sym (unmarked b second).1 ∙ keep))

  -- the node kept its first blocks, perhaps all
  pub stored_cut : (stays gone : List ℕ) → run_places old.runs ≡ stays ++ gone → run_places node.runs ≡ stays
      → ((b : ℕ) → data_start k.geom ≤ b → b < k.geom.n → has (run_places old.runs) b ≡ false → drafted f m b ≡ drafted d m b)
      → ((b : ℕ) → now b ≡ (sound.live b && not (has gone b)))
      → IsSoundDraft k m e × IsWithFile (files_of k.geom (drafted d m)) (files_of k.geom (drafted e m)) number (Some (file_of k.geom.layout (drafted e m) node))
  stored_cut stays gone parts places others marks =
      stored_sound_files k now m number node old d f e sound is
      (node_cut k.geom sound.live now (drafted d m) (drafted e m) number old node stays gone sound.blocks was there parts places
      (λ b from below not_old. is.blocks b from ∙ others b from below not_old)
      (λ b from below. marks b)
      whole_now tail_now)
      kind (λ b mine keep. ap (λ xs. has xs b) parts ∙ has_append stays gone b ∙ or_left (has stays b) (has gone b) (ap (λ xs. has xs b) (sym places) ∙ mine))
