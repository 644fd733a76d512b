-- A node whose file and blocks a draft leaves is the same node in the finished map, and the bytes of no node are zeros there.
use Rattle.std.proofs.Common.{◌≡◌, ℕ, ◌+◌, ◌%◌, ◌≤◌, ◌&&◌, ◌||◌, not, true, List, length, take, drop, replicate, Option, Some, None, option_map, refl, sym, ap, ap₂, ◌∙◌, arith}
use Rattle.std.proofs.lemmas.Bool.{eqb-true, or_left}
use Rattle.std.proofs.lemmas.Option.{none-some, same_Some}
use Rattle.base_types.specs.declared.places.Run.{Run}
use Rattle.base_types.specs.Seal.{Blocks}
use Rattle.base_types.specs.Runs.{run_places}
use Rattle.base_types.specs.Layouts.{node_size, node_block, node_byte}
use Rattle.base_types.specs.LayoutLaws.{node_in_table}
use Rattle.layout_geometry.specs.Geometry.{Geometry, IsGeometry, table_start}
use Rattle.layout_bytes.specs.Bitmap.{is_set}
use Rattle.layout_bytes.specs.declared.node.Node.{Node}
use Rattle.layout_bytes.specs.declared.node.NodeKind.{NodeKind}
use Rattle.layout_bytes.specs.declared.node.NodeKind.TheVariants.{Dir}
use Rattle.layout_bytes.specs.Node.{content_of, kind_fits, node_at, node_bytes, node_of, size_of}
use Rattle.layout_bytes.specs.NodeLaws.{size_of_content}
use Rattle.layout_extent.specs.Runs.{runs_of}
use Rattle.layout_extent.specs.TidyLaws.{runs_of_places}
use Rattle.crash_stands.specs.Files.{FileNode, file_of, used_node}
use Rattle.crash_stands.specs.Stands.{AreSound}
use Rattle.engine_blocks.specs.Crashes.{IsTold}
use Rattle.engine_blocks.specs.Running.{has}
use Rattle.engine_blocks.specs.State.{State}
use Rattle.fs_files.specs.Calls.{files_in, places_in, places_or_none}
use Rattle.fs_files.specs.Drafts.{DraftState, drafted, nothing_drafted}
use Rattle.fs_files.specs.Places.{place_of}
use Rattle.fs_files.specs.Shared.{is_kept}
use Rattle.fs_files.specs.Sound.{IsSoundDraft}
use Rattle.fs_snapshots.specs.Nodes.{used_fits}
use Rattle.fs_session.specs.Commands.{places_of}
use Rattle.fs_session.specs.Plans.{HasDrafted}
use Rattle.fs_session.proofs.rooms.Nodes.{are_tidy}
use Rattle.fs_session.proofs.standing.Marks.{data_live, place_marked}
use Rattle.fs_session.proofs.standing.Nodes.{content_length, place_block, place_data}

-- these blocks are whole
abbrev AreWhole : Blocks → List ℕ → Type 0
AreWhole m ps = (b : ℕ) → has ps b ≡ true → length (m b) ≡ 1024

-- a directory's size says whole slots
whole_slots_said : (node : Node) (kind : NodeKind) → kind_fits node kind ≡ true → kind ≡ Dir → node.size % 64 ≡ 0
whole_slots_said node kind fits is = eqb-true (node.size % 64) 0 (ap (kind_fits node) (sym is) ∙ fits)

module _ (g : Geometry) (m n : Blocks) (k : ℕ) where
  -- nodes with the same file in the same whole blocks are the same
  same_node : (x y : Node) → used_node g m k ≡ Some x → used_node g n k ≡ Some y → file_of g.layout n y ≡ file_of g.layout m x → run_places y.runs ≡ run_places x.runs → AreWhole m (run_places x.runs) → AreWhole n (run_places y.runs) → y ≡ x
  same_node x y was is file places whole_was whole_is =
      let kind : y.kind ≡ x.kind = ap (λ (f : FileNode). f.kind) file in
      let content : content_of g.layout y.kind y.size ≡ content_of g.layout x.kind x.size =
      sym (content_length g n y (used_fits g n k y is) whole_is) ∙ ap (λ (f : FileNode). length f.bytes) file ∙ content_length g m x (used_fits g m k x was) whole_was in
      let size : y.size ≡ x.size =
      sym (size_of_content g.layout y.kind y.size (whole_slots_said y y.kind (used_fits g n k y is).kind)) ∙ ap₂ (size_of g.layout) kind content
      ∙ size_of_content g.layout x.kind x.size (whole_slots_said x x.kind (used_fits g m k x was).kind) in
      let runs : y.runs ≡ x.runs =
      sym (runs_of_places y.runs (are_tidy g 0 y.runs (used_fits g n k y is).runs)) ∙ ap runs_of places ∙ runs_of_places x.runs (are_tidy g 0 x.runs (used_fits g m k x was).runs) in
      ap₂ (λ (kind : NodeKind) links. record { kind = kind; links = links; size = y.size; runs = y.runs }) kind (ap (λ (f : FileNode). f.links) file)
      ∙ ap₂ (λ size (runs : List Run). record { kind = x.kind; links = x.links; size = size; runs = runs }) size runs

  same_used : (o p : Option Node) → used_node g m k ≡ o → used_node g n k ≡ p → option_map (file_of g.layout n) p ≡ option_map (file_of g.layout m) o → places_or_none p ≡ places_or_none o → AreWhole m (places_or_none o) → AreWhole n (places_or_none p) → p ≡ o
  same_used None None was is file places whole_was whole_is = refl
  same_used (Some x) None was is file places whole_was whole_is = absurd (none-some (file_of g.layout m x) file)
  same_used None (Some y) was is file places whole_was whole_is = absurd (none-some (file_of g.layout n y) (sym file))
  same_used (Some x) (Some y) was is file places whole_was whole_is = ap Some (same_node x y was is (same_Some (file_of g.layout n y) (file_of g.layout m x) file) places whole_was whole_is)

module _ (now : State) (fits : IsGeometry now.books.geom) (w : Blocks) (d : DraftState) (sound : IsSoundDraft now.books now.map d) (fin : HasDrafted now d w) where
  -- a node of the draft has whole blocks
  drafted_whole : (k : ℕ) → IsTold now → AreWhole w (places_in now d k)
  drafted_whole k told b is =
      let at = place_data now.books.geom (drafted d now.map) k b is in
      let r = place_of (places_in now d k) b is in
      let live : sound.live b ≡ true = (sound.blocks.marked b at.from at.below).1 (k, r.0, place_block now.books.geom (drafted d now.map) k r.0 b r.1) in
      let set : is_set now.books.geom w b ≡ true =
      fin.bits b (omega (arith, at.below)) ∙ ap (λ x. not (has d.freed b) && (has d.taken b || x)) (sym (told.bits b at.below)) ∙ sound.bits b at.from at.below ∙ or_left (sound.live b) (is_kept d.kept b) live in
      fin.whole b (data_live now.books.geom w b (omega (arith, at.from)) at.below set)

  node_whole : (k : ℕ) → AreSound now.books.geom now.map → AreWhole now.map (places_of now k)
  node_whole k ok b is =
      let at = place_data now.books.geom now.map k b is in
      ok.whole b (data_live now.books.geom now.map b (omega (arith, at.from)) at.below (place_marked now.books.geom now.map ok k b is))

  pub node_stays : (k : ℕ) → IsTold now → AreSound now.books.geom now.map → files_in now d k ≡ files_in now nothing_drafted k → places_in now d k ≡ places_of now k → used_node now.books.geom w k ≡ used_node now.books.geom now.map k
  node_stays k told ok file places =
      same_used now.books.geom now.map w k (used_node now.books.geom now.map k) (used_node now.books.geom w k) refl refl (fin.files k ∙ file) (fin.places k ∙ places) (node_whole k ok)
      (λ b is. drafted_whole k told b (ap (λ (ps : List ℕ). has ps b) (sym (fin.places k)) ∙ is))

  pub bare_zeros : (k : ℕ) → 1 ≤ k → k ≤ now.books.geom.i → node_at now.books.geom w k ≡ None → node_bytes now.books.geom w k ≡ replicate (node_size now.books.geom.layout) 0
  bare_zeros k from upto none =
      let b = table_start now.books.geom + node_block now.books.geom.layout k in
      let block : w b ≡ drafted d now.map b =
      fin.lies b (omega (arith)) (omega (arith, node_in_table now.books.geom.layout now.books.geom.i k fits.whole_blocks from upto, fits.data_room)) in
      let bytes : node_bytes now.books.geom w k ≡ node_bytes now.books.geom (drafted d now.map) k =
      ap (λ (xs : List ℕ). take (node_size now.books.geom.layout) (drop (node_byte now.books.geom.layout k) xs)) block in
      bytes ∙ sound.blocks.free k from upto (sym (ap (node_of now.books.geom) bytes) ∙ none)
