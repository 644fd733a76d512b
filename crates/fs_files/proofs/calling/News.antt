-- A call on a file that makes a node.
use Rattle.std.proofs.Common.{◌≡◌, ◌≢◌, ℕ, ◌<◌, ◌≤◌, true, List, [], Option, Some, None, is_some, option_map, refl, ap, ◌∙◌, subst, ⊎_elim}
use Rattle.std.proofs.lemmas.Bool.{cases_lt, false≢true}
use Rattle.base_types.specs.Seal.{Blocks}
use Rattle.base_types.specs.declared.words.Class.TheVariants.{Meta}
use Rattle.base_types.specs.Layouts.{node_byte}
use Rattle.layout_geometry.specs.Geometry.{Geometry, IsGeometry}
use Rattle.layout_bytes.specs.declared.node.Node.{Node}
use Rattle.layout_bytes.specs.declared.node.NodeKind.{NodeKind}
use Rattle.layout_bytes.specs.declared.node.NodeKind.TheVariants.{Free}
use Rattle.layout_bytes.specs.Node.{node_spelling, FitsAs}
use Rattle.engine_blocks.specs.State.{Bookkeeping}
use Rattle.crash_stands.specs.Files.{file_of, files_of, used_node}
use Rattle.fs_files.specs.declared.changes.Changed.{Changed}
use Rattle.fs_files.specs.Bytes.{overwrite}
use Rattle.fs_files.specs.Calls.{IsWithFile, IsWithPlaces, places_of, IsUsed, AreUsed, IsFirstUnused, IsLeastUnused}
use Rattle.fs_files.specs.Drafts.{DraftState, drafted, PutsBlock}
use Rattle.fs_files.specs.Frames.{ReadsBack}
use Rattle.fs_files.specs.Nodes.{node_block}
use Rattle.fs_files.specs.Sound.{FitsBooks, IsSoundDraft}
use Rattle.fs_files.proofs.frames.Fits.{new_fits}
use Rattle.fs_files.proofs.frames.Spelled.{fits_as}
use Rattle.fs_files.proofs.frames.Stored.{PutsNode, new_stored}

-- a node that is read is a file
pub file_there : (g : Geometry) (m : Blocks) (l : ℕ) → is_some (used_node g m l) ≡ true → IsUsed (files_of g m) l
file_there g m l is = by (used_node g m l) is refl
  where
    by : (o : Option Node) → is_some o ≡ true → used_node g m l ≡ o → IsUsed (files_of g m) l
    by None h e = absurd (false≢true h)
    by (Some node) h e = (file_of g.layout m node, ap (option_map (file_of g.layout m)) e)

-- those below the first number are in use, and those from it on to the number found
pub all_used : (g : Geometry) (m : Blocks) (from upto : ℕ) → ((l : ℕ) → 1 ≤ l → l < from → IsUsed (files_of g m) l) → AreUsed g m from upto → (l : ℕ) → 1 ≤ l → l < upto → IsUsed (files_of g m) l
all_used g m from upto below rest l low high = ⊎_elim (λ before. below l low before)
    (λ behind. file_there g m l (rest l behind high))
    (cases_lt l from)

-- a node was made of the first number that isn't in use
pub news : (k : Bookkeeping) (m : Blocks) (g : Geometry) (from number : ℕ) (kind : NodeKind) (node : Node) (table : List ℕ) (d e : DraftState) → g ≡ k.geom → IsGeometry g → 1 ≤ number → number ≤ k.geom.i
    → FitsBooks k d → IsSoundDraft k m d → kind ≢ Free → ((l : ℕ) → 1 ≤ l → l < from → IsUsed (files_of k.geom (drafted d m)) l)
    → IsFirstUnused k.geom (drafted d m) from number → table ≡ drafted d m (node_block k.geom number)
    → node ≡ record { kind = kind; links = 1; size = 0; runs = [] }
    → PutsBlock (node_block g number) (record { class = Meta; bytes = overwrite (node_byte g.layout number) (node_spelling g.layout node) table }) d e
    → (FitsAs g node node.kind → ReadsBack g node)
    → IsSoundDraft k m e × IsWithFile (files_of k.geom (drafted d m)) (files_of k.geom (drafted e m)) number (Some (record { kind = kind; links = 1; bytes = [] })) × IsLeastUnused k.geom.i (files_of k.geom (drafted d m)) number
    × IsWithPlaces (places_of k.geom (drafted d m)) (places_of k.geom (drafted e m)) number []
news k m g from number kind node table d e same geom low high fits sound used below first bytes is puts back =
    let new : Node = record { kind = kind; links = 1; size = 0; runs = [] } in
    let c : Changed = record { class = Meta; bytes = overwrite (node_byte k.geom.layout number) (node_spelling k.geom.layout node) table } in
    let put : PutsNode k m number new c d e = record {
      geom = subst IsGeometry same geom;
      from = low;
      upto = high;
      fits = fits;
      sound = sound;
      bytes = ap (λ n. overwrite (node_byte k.geom.layout number) (node_spelling k.geom.layout n) table) is ∙ ap (overwrite (node_byte k.geom.layout number) (node_spelling k.geom.layout new)) bytes;
      puts = subst (λ (h : Geometry). PutsBlock (node_block h number) (record { class = Meta; bytes = overwrite (node_byte h.layout number) (node_spelling h.layout node) table }) d e) same puts;
      back = subst (λ h. ReadsBack h new) same (subst (λ n. FitsAs g n n.kind → ReadsBack g n) is back (fits_as g new used (new_fits g kind)));
    } in
    let made = new_stored k m number new c d e put used refl first.unused in
    (made.0, made.1, record { from = low; upto = high; unused = ap (option_map (file_of k.geom.layout (drafted d m))) first.unused; below = all_used k.geom (drafted d m) from number below first.below }, made.2)
