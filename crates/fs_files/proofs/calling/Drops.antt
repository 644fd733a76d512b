-- A call on a file that drops its node, and one that reads its bytes.
use Rattle.std.proofs.Common.{◌≡◌, ℕ, ◌≤◌, List, [], All, Some, None, option_map, refl, sym, ap, ◌∙◌, arith, subst}
use Rattle.std.proofs.lemmas.List.{append-nil}
use Rattle.std.proofs.lemmas.Bool.Decides.{nat_tests}
use Rattle.base_types.specs.Seal.{Blocks}
use Rattle.base_types.specs.Runs.{run_places}
use Rattle.base_types.specs.declared.words.Class.TheVariants.{Meta}
use Rattle.base_types.specs.Layouts.{node_byte}
use Rattle.layout_geometry.specs.Geometry.{Geometry, IsGeometry}
use Rattle.layout_extent.specs.Runs.{runs_of}
use Rattle.layout_bytes.specs.declared.node.Node.{Node}
use Rattle.layout_bytes.specs.Node.{node_spelling, free_node, FitsAs}
use Rattle.engine_blocks.specs.Puts.{IsData}
use Rattle.engine_blocks.specs.State.{Bookkeeping}
use Rattle.crash_stands.specs.Files.{files_of, used_node}
use Rattle.fs_files.specs.declared.changes.Changed.{Changed}
use Rattle.fs_files.specs.declared.nodes.OpenNode.{OpenNode}
use Rattle.fs_files.specs.Bytes.{overwrite}
use Rattle.fs_files.specs.Calls.{IsWithFile, IsWithPlaces, SetsNode, places_or_none, places_of}
use Rattle.fs_files.specs.Drafts.{DraftState, drafted, PutsBlock, FreesBlocks}
use Rattle.fs_files.specs.Frames.{ReadsBack}
use Rattle.fs_files.specs.Growing.{alone}
use Rattle.fs_files.specs.Nodes.{node_of_open, node_block}
use Rattle.fs_files.specs.Shared.{is_kept}
use Rattle.fs_files.specs.Sound.{FitsBooks, IsSoundDraft}
use Rattle.fs_files.proofs.drafts.Lists.{each_of, in_alone}
use Rattle.fs_files.proofs.frames.Places.{all_of}
use Rattle.fs_files.proofs.frames.Dropped.{dropped_sound, dropped_file, dropped_places}
use Rattle.fs_files.proofs.frames.Rules.{frees_fits}
use Rattle.fs_files.proofs.calling.Nodes.{put_still_fits}

-- its blocks were freed and the node put: the draft fits, also where nothing is known of the blocks
pub drop_fits : (k : Bookkeeping) (g : Geometry) (number : ℕ) (ps : List ℕ) (c : Changed) (d f e : DraftState) → g ≡ k.geom → IsGeometry g → 1 ≤ number → number ≤ k.geom.i → FitsBooks k d → All (IsData k.geom) ps
    → FreesBlocks ps d f → PutsBlock (node_block g number) c f e → FitsBooks k e
drop_fits k g number ps c d f e same geom from upto fits inside frees puts =
    put_still_fits k g number c f e same geom from upto (frees_fits k ps d f frees inside fits) puts

-- what changed in the draft
drop_sets : (k : Bookkeeping) (number : ℕ) (ps : List ℕ) (c : Changed) (d f e : DraftState) → IsGeometry k.geom → 1 ≤ number → number ≤ k.geom.i → FitsBooks k f
    → FreesBlocks ps d f → PutsBlock (node_block k.geom number) c f e → SetsNode k.geom number ps d e
drop_sets k number ps c d f e geom from upto fits frees puts = grind (arith, nat_tests)

-- and where the node alone was put
pub put_sets : (k : Bookkeeping) (g : Geometry) (number : ℕ) (c : Changed) (d e : DraftState) → g ≡ k.geom → IsGeometry g → 1 ≤ number → number ≤ k.geom.i → FitsBooks k d → PutsBlock (node_block g number) c d e → SetsNode k.geom number [] d e
put_sets k g number c d e same geom from upto fits puts = grind (arith, nat_tests, drop_sets, append-nil)

-- the draft is sound, the node is gone, and its blocks are freed
pub drops : (k : Bookkeeping) (m : Blocks) (g : Geometry) (number : ℕ) (o : OpenNode) (n : Node) (table : List ℕ) (d f e : DraftState) → g ≡ k.geom → IsGeometry g → 1 ≤ number → number ≤ k.geom.i
    → FitsBooks k d → IsSoundDraft k m d → All (IsData k.geom) o.places → run_places (runs_of o.places) ≡ o.places
    → option_map (node_of_open k.geom.layout) (Some o) ≡ used_node k.geom (drafted d m) number → table ≡ drafted d m (node_block k.geom number)
    → FreesBlocks (alone (is_kept d.kept) o.places) d f → n ≡ free_node
    → PutsBlock (node_block g number) (record { class = Meta; bytes = overwrite (node_byte g.layout number) (node_spelling g.layout n) table }) f e
    → (FitsAs g n n.kind → ReadsBack g n)
    → IsSoundDraft k m e × IsWithFile (files_of k.geom (drafted d m)) (files_of k.geom (drafted e m)) number None × SetsNode k.geom number (alone (is_kept d.kept) (places_or_none (used_node k.geom (drafted d m) number))) d e
    × IsWithPlaces (places_of k.geom (drafted d m)) (places_of k.geom (drafted e m)) number []
drops k m g number o n table d f e same geom from upto fits sound inside runs used bytes frees is puts back =
    let right : IsGeometry k.geom = subst IsGeometry same geom in
    let c : Changed = record { class = Meta; bytes = overwrite (node_byte k.geom.layout number) (node_spelling k.geom.layout n) table } in
    let old : Node = node_of_open k.geom.layout o in
    let all_freed : FreesBlocks (alone (is_kept d.kept) (run_places old.runs)) d f = subst (λ ps. FreesBlocks (alone (is_kept d.kept) ps) d f) (sym runs) frees in
    let gone : List ℕ = alone (is_kept d.kept) o.places in
    let gone_data : All (IsData k.geom) gone = all_of (IsData k.geom) gone (λ b is. each_of (IsData k.geom) o.places inside b (in_alone (is_kept d.kept) o.places b is)) in
    let text : c.bytes ≡ overwrite (node_byte k.geom.layout number) (node_spelling k.geom.layout free_node) (drafted d m (node_block k.geom number)) =
    ap (λ x. overwrite (node_byte k.geom.layout number) (node_spelling k.geom.layout x) table) is ∙ ap (overwrite (node_byte k.geom.layout number) (node_spelling k.geom.layout free_node)) bytes in
    let put : PutsBlock (node_block k.geom number) c f e =
    subst (λ (h : Geometry). PutsBlock (node_block h number) (record { class = Meta; bytes = overwrite (node_byte h.layout number) (node_spelling h.layout n) table }) f e) same puts in
    let reads : ReadsBack k.geom free_node = subst (λ h. ReadsBack h free_node) same (subst (λ x. FitsAs g x x.kind → ReadsBack g x) is back refl) in (
      dropped_sound k m number old c d f e right fits sound (sym used) all_freed text put reads,
      dropped_file k m number old c d f e right fits sound (sym used) all_freed text put reads,
      subst (λ ps. SetsNode k.geom number (alone (is_kept d.kept) ps) d e) (sym runs ∙ ap places_or_none used) (drop_sets k number gone c d f e right from upto (frees_fits k gone d f frees gone_data fits) frees put),
      dropped_places k m number old c d f e right fits sound (sym used) all_freed text put reads,
    )
