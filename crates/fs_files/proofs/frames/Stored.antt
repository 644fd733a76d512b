-- What a draft is after a node was put into it and nothing else was done: its links changed, or it is a new node.
use Rattle.std.proofs.Common.{◌≡◌, ◌≢◌, ℕ, ◌<◌, ◌≤◌, List, [], Option, Some, None, option_map, refl, sym, ap, subst, ◌∙◌, arith}
use Rattle.std.proofs.lemmas.Bool.{false≢true}
use Rattle.std.proofs.lemmas.Option.{same_Some}
use Rattle.std.proofs.lemmas.Bool.Decides.{nat_tests}
use Rattle.base_types.specs.Runs.{run_places}
use Rattle.base_types.specs.Seal.{Blocks}
use Rattle.base_types.specs.Layouts.{node_byte}
use Rattle.layout_geometry.specs.Geometry.{IsGeometry, table_start, data_start}
use Rattle.layout_bytes.specs.declared.node.Node.{Node}
use Rattle.layout_bytes.specs.declared.node.NodeKind.TheVariants.{Free}
use Rattle.layout_bytes.specs.Node.{node_spelling}
use Rattle.engine_blocks.specs.Running.{has}
use Rattle.engine_blocks.specs.State.{Bookkeeping}
use Rattle.crash_stands.specs.Files.{FileNode, used_node, file_of, files_of}
use Rattle.fs_files.specs.declared.changes.Changed.{Changed}
use Rattle.fs_files.specs.Bytes.{overwrite}
use Rattle.fs_files.specs.Calls.{IsWithFile, IsWithPlaces, with_links, places_of, places_or_none}
use Rattle.fs_files.specs.Drafts.{DraftState, drafted, PutsBlock}
use Rattle.fs_files.specs.Shared.{is_kept}
use Rattle.fs_files.specs.Frames.{used_of, ReadsBack, HasNewNode}
use Rattle.fs_files.specs.Nodes.{node_block}
use Rattle.fs_files.specs.Sound.{AreSoundBy, FitsBooks, IsSoundDraft}
use Rattle.fs_files.proofs.frames.Cells.{block_from, block_below}
use Rattle.fs_files.proofs.frames.Frames.{SharesFiles, node_places, shared_changed}
use Rattle.fs_files.proofs.frames.Places.{used_kind_is}
use Rattle.fs_files.proofs.frames.Puts.{put_others, put_sound, node_put}
use Rattle.fs_files.proofs.frames.Spelled.{used_some}
use Rattle.fs_files.proofs.frames.Steps.{both, file_is, links_change, links_file, node_made, made_file}

-- a node's bytes were put into its block, and nothing else was done
pub record PutsNode (k : Bookkeeping) (m : Blocks) (number : ℕ) (node : Node) (c : Changed) (d e : DraftState) : Type 0 where
  pub geom : IsGeometry k.geom
  pub from : 1 ≤ number
  pub upto : number ≤ k.geom.i
  pub fits : FitsBooks k d
  pub sound : IsSoundDraft k m d
  pub bytes : c.bytes ≡ overwrite (node_byte k.geom.layout number) (node_spelling k.geom.layout node) (drafted d m (node_block k.geom number))
  pub puts : PutsBlock (node_block k.geom number) c d e
  pub back : ReadsBack k.geom node

module _ (k : Bookkeeping) (m : Blocks) (number : ℕ) (node : Node) (c : Changed) (d e : DraftState) (is : PutsNode k m number node c d e) where
  low : table_start k.geom ≤ node_block k.geom number
  low = block_from k.geom number

  high : node_block k.geom number < data_start k.geom
  high = block_below k.geom number is.geom.whole_blocks is.from is.upto

  pub stored_node : HasNewNode k.geom (drafted d m) (drafted e m) number (used_of node)
  stored_node = node_put k m is.sound.live d e number node c is.geom is.from is.upto is.fits is.sound.blocks is.bytes is.puts is.back

  pub stored_data : (b : ℕ) → data_start k.geom ≤ b → b < k.geom.n → drafted e m b ≡ drafted d m b
  stored_data b from below = put_others k d e (node_block k.geom number) c is.geom low high is.fits is.puts m b (λ here. absurd (omega (arith, here, high, from)))

  pub stored_sound : AreSoundBy k.geom is.sound.live (drafted e m) → SharesFiles k.geom (is_kept d.kept) (drafted e m) → IsSoundDraft k m e
  stored_sound blocks shared = put_sound k d e (node_block k.geom number) c is.geom low high is.fits is.puts m is.sound blocks shared

-- the node has these places then
places_now : (k : Bookkeeping) (m : Blocks) (number : ℕ) (d e : DraftState) (new : Option Node) (ps : List ℕ) → HasNewNode k.geom (drafted d m) (drafted e m) number new → places_or_none new ≡ ps
    → IsWithPlaces (places_of k.geom (drafted d m)) (places_of k.geom (drafted e m)) number ps
places_now k m number d e new ps now same = grind (arith, nat_tests, node_places)

-- the links of a node in use were set
pub links_stored : (k : Bookkeeping) (m : Blocks) (number links : ℕ) (node : Node) (x : FileNode) (c : Changed) (d e : DraftState) → PutsNode k m number (record node { links = links }) c d e
    → used_node k.geom (drafted d m) number ≡ Some node → x ≡ file_of k.geom.layout (drafted d m) node
    → IsSoundDraft k m e × IsWithFile (files_of k.geom (drafted d m)) (files_of k.geom (drafted e m)) number (Some (with_links x links)) × IsWithPlaces (places_of k.geom (drafted d m)) (places_of k.geom (drafted e m)) number (places_of k.geom (drafted d m) number)
links_stored k m number links node x c d e is used file =
    let there = stored_node k m number (record node { links = links }) c d e is in
    let some : used_of (record node { links = links }) ≡ Some (record node { links = links }) = used_some (record node { links = links }) (used_kind_is k.geom (drafted d m) number node used) in
    let now : HasNewNode k.geom (drafted d m) (drafted e m) number (Some (record node { links = links })) = subst (HasNewNode k.geom (drafted d m) (drafted e m) number) some there in
    let same = stored_data k m number (record node { links = links }) c d e is in
    let ch = links_change k.geom is.sound.live is.sound.live (drafted d m) (drafted e m) number node links is.sound.blocks used now same (λ b from below. refl) in
    let all = both k.geom is.sound.live is.sound.live (drafted d m) (drafted e m) number (Some node) (Some (record node { links = links })) is.sound.blocks ch in
    let shared : SharesFiles k.geom (is_kept d.kept) (drafted e m) =
    shared_changed k.geom is.sound.live is.sound.live (drafted d m) (drafted e m) number (Some node) (Some (record node { links = links })) (is_kept d.kept) is.sound.blocks ch is.sound.shared
    (λ new b eq mine keep. let back : record node { links = links } ≡ new = same_Some (record node { links = links }) new eq in (node, refl, ap (λ (x : Node). has (run_places x.runs) b) back ∙ mine, ap (λ (x : Node). x.kind) back)) in (
      stored_sound k m number (record node { links = links }) c d e is all.0 shared,
      file_is (files_of k.geom (drafted d m)) (files_of k.geom (drafted e m)) number (option_map (file_of k.geom.layout (drafted e m)) (Some (record node { links = links }))) (Some (with_links x links))
          (links_file k.geom (drafted d m) (drafted e m) number node links x used file same) all.1,
      places_now k m number d e (Some (record node { links = links })) (places_of k.geom (drafted d m) number) now (sym (ap places_or_none used)),
    )

-- a node that wasn't in use has no blocks, and is in use
pub new_stored : (k : Bookkeeping) (m : Blocks) (number : ℕ) (node : Node) (c : Changed) (d e : DraftState) → PutsNode k m number node c d e
    → node.kind ≢ Free → node.runs ≡ [] → used_node k.geom (drafted d m) number ≡ None
    → IsSoundDraft k m e × IsWithFile (files_of k.geom (drafted d m)) (files_of k.geom (drafted e m)) number (Some (record { kind = node.kind; links = node.links; bytes = [] }))
    × IsWithPlaces (places_of k.geom (drafted d m)) (places_of k.geom (drafted e m)) number []
new_stored k m number node c d e is used empty out =
    let there = stored_node k m number node c d e is in
    let now : HasNewNode k.geom (drafted d m) (drafted e m) number (Some node) = subst (HasNewNode k.geom (drafted d m) (drafted e m) number) (used_some node used) there in
    let same = stored_data k m number node c d e is in
    let ch = node_made k.geom is.sound.live is.sound.live (drafted d m) (drafted e m) number node is.from is.upto out now empty same (λ b from below. refl) in
    let all = both k.geom is.sound.live is.sound.live (drafted d m) (drafted e m) number None (Some node) is.sound.blocks ch in
    let shared : SharesFiles k.geom (is_kept d.kept) (drafted e m) =
    shared_changed k.geom is.sound.live is.sound.live (drafted d m) (drafted e m) number None (Some node) (is_kept d.kept) is.sound.blocks ch is.sound.shared
    (λ new b eq mine keep. absurd (false≢true (sym (ap (λ rs. has (run_places rs) b) empty) ∙ ap (λ (x : Node). has (run_places x.runs) b) (same_Some node new eq) ∙ mine))) in (
      stored_sound k m number node c d e is all.0 shared,
      file_is (files_of k.geom (drafted d m)) (files_of k.geom (drafted e m)) number (option_map (file_of k.geom.layout (drafted e m)) (Some node)) (Some (record { kind = node.kind; links = node.links; bytes = [] }))
          (made_file k.geom.layout (drafted e m) node empty) all.1,
      places_now k m number d e (Some node) [] now (ap run_places empty),
    )
