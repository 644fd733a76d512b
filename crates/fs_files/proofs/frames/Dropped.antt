-- What a draft is after a node was dropped: its blocks were freed, and then a free node was put into its place.
use Rattle.std.proofs.Common.{◌≡◌, ◌≢◌, ℕ, ◌<◌, ◌≤◌, Bool, true, false, not, ◌&&◌, List, [], All, Some, None, refl, sym, subst, ◌∙◌, arith}
use Rattle.std.proofs.lemmas.Bool.{false≢true, false_from_ne_true}
use Rattle.std.proofs.lemmas.Option.{none-some}
use Rattle.base_types.specs.Seal.{Blocks}
use Rattle.base_types.specs.Runs.{run_places}
use Rattle.base_types.specs.Layouts.{node_byte}
use Rattle.layout_geometry.specs.Geometry.{IsGeometry, table_start, data_start}
use Rattle.layout_bytes.specs.declared.node.Node.{Node}
use Rattle.layout_bytes.specs.Node.{node_spelling, free_node}
use Rattle.engine_blocks.specs.Running.{has}
use Rattle.engine_blocks.specs.State.{Bookkeeping}
use Rattle.engine_blocks.specs.Puts.{IsData}
use Rattle.crash_stands.specs.Files.{used_node, files_of}
use Rattle.fs_files.specs.declared.changes.Changed.{Changed}
use Rattle.fs_files.specs.Bytes.{overwrite}
use Rattle.fs_files.specs.Calls.{IsWithFile, IsWithPlaces, places_of}
use Rattle.fs_files.specs.Drafts.{DraftState, drafted, PutsBlock, FreesBlocks}
use Rattle.fs_files.specs.Frames.{ReadsBack, HasNewNode, ChangesNode}
use Rattle.fs_files.specs.Growing.{alone}
use Rattle.fs_files.specs.Nodes.{node_block}
use Rattle.fs_files.specs.Shared.{is_kept}
use Rattle.fs_files.specs.Sound.{AreSoundBy, FitsBooks, IsSoundDraft}
use Rattle.fs_files.proofs.drafts.Lists.{each_of, in_alone}
use Rattle.fs_files.proofs.frames.Cells.{block_from, block_below, node_stored}
use Rattle.fs_files.proofs.frames.Frames.{SharesFiles, node_places, shared_changed}
use Rattle.fs_files.proofs.frames.Places.{used_within, used_data, used_marked, all_of}
use Rattle.fs_files.proofs.frames.Puts.{put_own, put_others, put_rules}
use Rattle.fs_files.proofs.frames.Rules.{rules_of, sound_from, frees_others, frees_fits, frees_rules}
use Rattle.fs_files.proofs.frames.Steps.{both, used_once, node_dropped}

module _ (k : Bookkeeping) (m : Blocks) (number : ℕ) (old : Node) (c : Changed) (d f e : DraftState) (geom : IsGeometry k.geom) (fits : FitsBooks k d) (sound : IsSoundDraft k m d)
    (used : used_node k.geom (drafted d m) number ≡ Some old) (frees : FreesBlocks (alone (is_kept d.kept) (run_places old.runs)) d f)
    (bytes : c.bytes ≡ overwrite (node_byte k.geom.layout number) (node_spelling k.geom.layout free_node) (drafted d m (node_block k.geom number))) (puts : PutsBlock (node_block k.geom number) c f e) (back : ReadsBack k.geom free_node) where
  number_in : (1 ≤ number) × (number ≤ k.geom.i)
  number_in = let r = used_within k.geom (drafted d m) number old used in (r.0, r.1)

  low : table_start k.geom ≤ node_block k.geom number
  low = block_from k.geom number

  high : node_block k.geom number < data_start k.geom
  high = block_below k.geom number geom.whole_blocks number_in.0 number_in.1

  inside : All (IsData k.geom) (run_places old.runs)
  inside = all_of (IsData k.geom) (run_places old.runs) (used_data k.geom (drafted d m) number old used)

  lives : All (λ b. sound.live b ≡ true) (run_places old.runs)
  lives = all_of (λ b. sound.live b ≡ true) (run_places old.runs) (used_marked k.geom sound.live (drafted d m) number old sound.blocks used)

  abbrev freed : List ℕ
  freed = alone (is_kept d.kept) (run_places old.runs)

  -- these blocks are live then
  abbrev now : ℕ → Bool
  now b = sound.live b && not (has (run_places old.runs) b)

  mid_fits : FitsBooks k f
  mid_fits = frees_fits k freed d f frees (all_of (IsData k.geom) freed (λ b is. each_of (IsData k.geom) (run_places old.runs) inside b (in_alone (is_kept d.kept) (run_places old.runs) b is))) fits

  -- a block of the table is none of the node's
  in_table : (b : ℕ) → b < data_start k.geom → has (run_places old.runs) b ≡ false
  in_table b below = false_from_ne_true (has (run_places old.runs) b) (λ is. omega (arith, (used_data k.geom (drafted d m) number old used b is).from, below))

  other : (b : ℕ) → b ≢ node_block k.geom number → has (run_places old.runs) b ≡ false → drafted e m b ≡ drafted d m b
  other b away out = put_others k f e (node_block k.geom number) c geom low high mid_fits puts m b away
      ∙ frees_others k freed d f frees m b (false_from_ne_true (has freed b) (λ is. false≢true (sym out ∙ in_alone (is_kept d.kept) (run_places old.runs) b is)))

  gone : HasNewNode k.geom (drafted d m) (drafted e m) number None
  gone = node_stored k.geom (drafted d m) (drafted e m) number free_node geom.whole_blocks number_in.0 number_in.1 back
      (put_own k f e (node_block k.geom number) c geom low high mid_fits puts m ∙ bytes)
      (λ b from below away. other b away (in_table b below))
      sound.blocks.table

  change : ChangesNode k.geom sound.live now (drafted d m) (drafted e m) number (Some old) None
  change = node_dropped k.geom sound.live now (drafted d m) (drafted e m) number old used gone
      (λ b from below out. other b (λ here. absurd (omega (arith, here, high, from))) out)
      (λ b from below. refl)

  all : AreSoundBy k.geom now (drafted e m) × IsWithFile (files_of k.geom (drafted d m)) (files_of k.geom (drafted e m)) number None
  all = both k.geom sound.live now (drafted d m) (drafted e m) number (Some old) None sound.blocks change

  shared : SharesFiles k.geom (is_kept e.kept) (drafted e m)
  shared = subst (λ ks. SharesFiles k.geom (is_kept ks) (drafted e m)) (sym (puts.kept ∙ frees.kept))
      (shared_changed k.geom sound.live now (drafted d m) (drafted e m) number (Some old) None (is_kept d.kept) sound.blocks change sound.shared (λ node b same mine keep. absurd (none-some node same)))

  pub dropped_sound : IsSoundDraft k m e
  dropped_sound = sound_from k now m e (put_rules k f e (node_block k.geom number) c geom low high mid_fits puts now
      (frees_rules k freed d f frees sound.live (run_places old.runs) refl inside lives (used_once k.geom sound.live (drafted d m) number old sound.blocks used) (rules_of k m d sound))) all.0 shared

  pub dropped_file : IsWithFile (files_of k.geom (drafted d m)) (files_of k.geom (drafted e m)) number None
  dropped_file = all.1

  pub dropped_places : IsWithPlaces (places_of k.geom (drafted d m)) (places_of k.geom (drafted e m)) number []
  dropped_places = node_places k.geom (drafted d m) (drafted e m) number None gone
