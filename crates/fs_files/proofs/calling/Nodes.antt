-- A call on a file that reads its node, and sets its links.
use Rattle.std.proofs.Common.{◌≡◌, ℕ, ◌≤◌, Bool, true, List, Option, Some, None, option_map, sym, ap, ◌∙◌, subst, arith, IsTrue}
use Rattle.std.proofs.lemmas.Option.{none-some, same_Some}
use Rattle.std.proofs.lemmas.Bool.Decides.{nat_tests}
use Rattle.base_types.specs.Seal.{Blocks}
use Rattle.base_types.specs.declared.words.Class.TheVariants.{Meta}
use Rattle.base_types.specs.Layouts.{node_byte}
use Rattle.layout_geometry.specs.Geometry.{Geometry, IsGeometry}
use Rattle.layout_bytes.specs.declared.node.Node.{Node}
use Rattle.layout_bytes.specs.declared.node.NodeKind.{NodeKind}
use Rattle.layout_bytes.specs.Node.{node_fits, node_spelling, kind_fits, FitsAs}
use Rattle.engine_blocks.specs.State.{Bookkeeping, State}
use Rattle.crash_stands.specs.Files.{FileNode, file_of, files_of, used_node}
use Rattle.fs_files.specs.declared.changes.Changed.{Changed}
use Rattle.fs_files.specs.declared.nodes.OpenNode.{OpenNode}
use Rattle.fs_files.specs.Bytes.{overwrite}
use Rattle.fs_files.specs.Drafts.{DraftState, drafted, PutsBlock}
use Rattle.fs_files.specs.Sound.{FitsBooks, IsSoundDraft}
use Rattle.fs_files.specs.Nodes.{node_of_open, node_block, HasTable, IsOpen}
use Rattle.fs_files.specs.Frames.{ReadsBack}
use Rattle.fs_files.specs.Calls.{IsWithFile, IsWithPlaces, with_links, files_in, places_of}
use Rattle.fs_files.specs.Effects.{LooksOnly}
use Rattle.fs_files.proofs.frames.Carry.{files_look}
use Rattle.fs_files.proofs.frames.Puts.{put_fits}
use Rattle.fs_files.proofs.frames.Cells.{block_from, block_below}
use Rattle.fs_files.proofs.frames.Spelled.{fits_as}
use Rattle.fs_files.proofs.frames.Stored.{links_stored}

-- a sound draft has the block of each node
pub has_table : (s : State) (d : DraftState) (number : ℕ) → IsGeometry s.books.geom → 1 ≤ number → number ≤ s.books.geom.i → IsSoundDraft s.books s.map d → HasTable s d number
has_table s d number geom from upto sound = sound.blocks.table (node_block s.books.geom number) (block_from s.books.geom number) (block_below s.books.geom number geom.whole_blocks from upto)

-- a node out of use is no file
pub no_file : {A : Type 0} (g : Geometry) (m : Blocks) (k : ℕ) (x : FileNode) → None ≡ used_node g m k → files_of g m k ≡ Some x → A
no_file g m k x none at = absurd (none-some x (ap (option_map (file_of g.layout m)) none ∙ at))

-- where no node was found there is no file
pub none_found : {A : Type 0} (s : State) (d : DraftState) (k : ℕ) (x : FileNode) (o : Option OpenNode) → o ≡ None → option_map (node_of_open s.books.geom.layout) o ≡ used_node s.books.geom (drafted d s.map) k → files_in s d k ≡ Some x → A
none_found {A} s d k x o none found at = no_file {A = A} s.books.geom (drafted d s.map) k x (ap (option_map (node_of_open s.books.geom.layout)) (sym none) ∙ found) at

-- a node in use is its file
pub its_file : (g : Geometry) (m : Blocks) (k : ℕ) (x : FileNode) (node : Node) → Some node ≡ used_node g m k → files_of g m k ≡ Some x → x ≡ file_of g.layout m node
its_file g m k x node is at = same_Some x (file_of g.layout m node) (sym at ∙ ap (option_map (file_of g.layout m)) (sym is))

-- the rules of a kind with other links
links_kind : (node : Node) (kind : NodeKind) (links : ℕ) → links ≤ 65535 → kind_fits node kind ≡ true → kind_fits (record node { links = links }) kind ≡ true
links_kind node kind links e h = grind (arith, nat_tests)

-- a node with other links fits
pub links_fit : (g : Geometry) (node : Node) (links : ℕ) → 1 ≤ links → links ≤ 65535 → node_fits g node ≡ true → node_fits g (record node { links = links }) ≡ true
links_fit g node links some few e = grind (arith, nat_tests, links_kind)

-- the links of a node were set, and the node put into its block
pub links_set : (k : Bookkeeping) (m : Blocks) (g : Geometry) (number links : ℕ) (o : OpenNode) (node : Node) (x : FileNode) (table : List ℕ) (d e : DraftState) → g ≡ k.geom → IsGeometry g → 1 ≤ number → number ≤ k.geom.i
    → FitsBooks k d → IsSoundDraft k m d → IsOpen k.geom o → 1 ≤ links → links ≤ 65535
    → option_map (node_of_open k.geom.layout) (Some o) ≡ used_node k.geom (drafted d m) number → table ≡ drafted d m (node_block k.geom number)
    → node ≡ record (node_of_open g.layout o) { links = links }
    → PutsBlock (node_block g number) (record { class = Meta; bytes = overwrite (node_byte g.layout number) (node_spelling g.layout node) table }) d e
    → (FitsAs g node node.kind → ReadsBack g node)
    → files_of k.geom (drafted d m) number ≡ Some x
    → IsSoundDraft k m e × IsWithFile (files_of k.geom (drafted d m)) (files_of k.geom (drafted e m)) number (Some (with_links x links)) × IsWithPlaces (places_of k.geom (drafted d m)) (places_of k.geom (drafted e m)) number (places_of k.geom (drafted d m) number)
links_set k m g number links o node x table d e same geom from upto fits sound opened some few used bytes is puts back at =
    let was : Node = node_of_open k.geom.layout o in
    let new : Node = record was { links = links } in
    let c : Changed = record { class = Meta; bytes = overwrite (node_byte k.geom.layout number) (node_spelling k.geom.layout node) table } in
    let its : node ≡ new = is ∙ ap (λ (h : Geometry). record (node_of_open h.layout o) { links = links }) same in
    links_stored k m number links was x c d e
    (record {
      geom = subst IsGeometry same geom;
      from = from;
      upto = upto;
      fits = fits;
      sound = sound;
      bytes = ap (λ n. overwrite (node_byte k.geom.layout number) (node_spelling k.geom.layout n) table) its ∙ ap (overwrite (node_byte k.geom.layout number) (node_spelling k.geom.layout new)) bytes;
      puts = subst (λ (h : Geometry). PutsBlock (node_block h number) (record { class = Meta; bytes = overwrite (node_byte h.layout number) (node_spelling h.layout node) table }) d e) same puts;
      back = subst (λ h. ReadsBack h new) same (subst (λ n. FitsAs g n n.kind → ReadsBack g n) its back (subst (λ h. FitsAs h new new.kind) (sym same) (fits_as k.geom new opened.used (links_fit k.geom was links some few opened.fits))));
    })
    (sym used) (its_file k.geom (drafted d m) number x was used at)

-- the draft still fits, also where nothing is known of the blocks
pub put_still_fits : (k : Bookkeeping) (g : Geometry) (number : ℕ) (c : Changed) (d e : DraftState) → g ≡ k.geom → IsGeometry g → 1 ≤ number → number ≤ k.geom.i → FitsBooks k d → PutsBlock (node_block g number) c d e → FitsBooks k e
put_still_fits k g number c d e same geom from upto fits puts =
    let right : IsGeometry k.geom = subst IsGeometry same geom in
    put_fits k d e (node_block k.geom number) c right (block_from k.geom number) (block_below k.geom number right.whole_blocks from upto) fits (subst (λ h. PutsBlock (node_block h number) c d e) same puts)

-- what a call made of the files is so where the blocks were looked at meanwhile
pub looked_files : (tells failed : Bool) (s t : State) (d e : DraftState) (k : ℕ) (x : Option FileNode) → LooksOnly tells failed s t → IsTrue tells
    → IsWithFile (files_of s.books.geom (drafted d s.map)) (files_of s.books.geom (drafted e s.map)) k x → IsWithFile (files_in s d) (files_in t e) k x
looked_files tells failed s t d e k x looks known is = grind (arith, nat_tests, files_look)
