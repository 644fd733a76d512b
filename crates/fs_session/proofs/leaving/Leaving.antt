-- A draft that leaves the snapshots as they are: in the finished map each has the same blocks, with the same bytes, and so do the files that it keeps.
use Rattle.std.proofs.Common.{◌≡◌, ◌≢◌, ℕ, zero, suc, ◌*◌, ◌&&◌, ◌||◌, not, Bool, true, false, if◌then◌else◌, List, [], ◌∷◌, length, take, take_all, drop, slice_get, is_some, Option, Some, None, option_map, refl, sym, ap, ap₂, subst, ◌∙◌, arith}
use Rattle.std.proofs.Math.Seq.{take-append_seam, drop-append_seam}
use Rattle.std.proofs.lemmas.Bool.{or_left, true≢false}
use Rattle.std.proofs.lemmas.Option.{none-some, same_Some}
use Rattle.base_types.specs.Seal.{Blocks}
use Rattle.base_types.specs.Runs.{run_places}
use Rattle.layout_geometry.specs.Geometry.{Geometry}
use Rattle.layout_bytes.specs.declared.node.Node.{Node}
use Rattle.layout_bytes.specs.declared.node.NodeKind.{NodeKind}
use Rattle.layout_bytes.specs.declared.node.NodeKind.TheVariants.{Free, Dir, File, Snapshot}
use Rattle.layout_bytes.specs.Bitmap.{is_set}
use Rattle.layout_bytes.specs.Node.{content_of}
use Rattle.lang_tree.specs.Tree.{Tree}
use Rattle.crash_stands.specs.Files.{FileNode, file_of, files_of, joined, used_node}
use Rattle.crash_stands.specs.Kept.{HaveSameSnapshot, kept_nodes}
use Rattle.crash_stands.specs.Places.{is_copied, kept_table}
use Rattle.crash_stands.specs.Sharing.{IsKeptBlock}
use Rattle.crash_stands.specs.Stands.{IsTreeOf}
use Rattle.engine_blocks.specs.Crashes.{IsTold}
use Rattle.engine_blocks.specs.Running.{has}
use Rattle.engine_blocks.specs.State.{State}
use Rattle.fs_files.specs.declared.changes.Changed.{Changed}
use Rattle.fs_files.specs.Calls.{files_in, places_in, places_or_none}
use Rattle.fs_files.specs.Drafts.{DraftState, bytes_or, change_of, drafted, nothing_drafted}
use Rattle.fs_files.specs.Places.{has_place, joined_length, place_of}
use Rattle.fs_files.specs.Shared.{is_kept}
use Rattle.fs_files.specs.Sound.{IsSoundDraft}
use Rattle.fs_snapshots.specs.Nodes.{used_fits}
use Rattle.fs_session.specs.Plans.{HasDrafted, StaysBeside}
use Rattle.fs_session.proofs.standing.Marks.{data_live, place_marked}
use Rattle.fs_session.proofs.standing.Nodes.{content_length, place_block, place_data}

-- Blocks with the same bytes, one behind the other, are the same.
blocks_alike : (m w : Blocks) (ps : List ℕ) → ((b : ℕ) → has ps b ≡ true → length (m b) ≡ 1024) → ((b : ℕ) → has ps b ≡ true → length (w b) ≡ 1024) → joined w ps ≡ joined m ps → (i b : ℕ) → slice_get ps i ≡ Some b → w b ≡ m b
blocks_alike m w [] here there e i b at = absurd (none-some b at)
blocks_alike m w (p ∷ ps) here there e zero b at = subst (λ q. w q ≡ m q) (same_Some p b at) first
  where
    long : length (w p) ≡ length (m p)
    long = there p (has_place (p ∷ ps) 0 p refl) ∙ sym (here p (has_place (p ∷ ps) 0 p refl))

    first : w p ≡ m p
    first = sym (take-append_seam (w p) (joined w ps)) ∙ ap₂ take long e ∙ take-append_seam (m p) (joined m ps)
blocks_alike m w (p ∷ ps) here there e (suc i) b at = blocks_alike m w ps (λ q is. here q (more q is)) (λ q is. there q (more q is)) rest i b at
  where
    long : length (w p) ≡ length (m p)
    long = there p (has_place (p ∷ ps) 0 p refl) ∙ sym (here p (has_place (p ∷ ps) 0 p refl))

    rest : joined w ps ≡ joined m ps
    rest = sym (drop-append_seam (w p) (joined w ps)) ∙ ap₂ drop long e ∙ drop-append_seam (m p) (joined m ps)

    more : (q : ℕ) → has ps q ≡ true → has (p ∷ ps) q ≡ true
    more q is = let r = place_of ps q is in has_place (p ∷ ps) (suc r.0) q r.1

-- a block that isn't filled has what it had
unfilled : (bytes : List ℕ) (x : Bool) (fresh changed : Option Changed) → (x || (is_some changed || is_some fresh)) ≡ false → (if x then [] else bytes_or (bytes_or bytes fresh) changed) ≡ bytes
unfilled bytes true fresh changed e = absurd (true≢false e)
unfilled bytes false fresh (Some c) e = absurd (true≢false e)
unfilled bytes false (Some c) None e = absurd (true≢false e)
unfilled bytes false None None e = refl

-- the node of a file
node_of_file : (g : Geometry) (w : Blocks) (k : ℕ) (x : FileNode) (o : Option Node) → used_node g w k ≡ o → option_map (file_of g.layout w) o ≡ Some x → (node : Node) × (used_node g w k ≡ Some node) × (file_of g.layout w node ≡ x)
node_of_file g w k x None used e = absurd (none-some x e)
node_of_file g w k x (Some node) used e = (node, used, same_Some (file_of g.layout w node) x e)

module _ (now : State) (w : Blocks) (d : DraftState) (t : Tree) (told : IsTold now) (stands : IsTreeOf now.books.geom now.map t) (sound : IsSoundDraft now.books now.map d) (stays : StaysBeside d now) (fin : HasDrafted now d w)
    (used_kind : (g : Geometry) (m : Blocks) (k : ℕ) (node : Node) → used_node g m k ≡ Some node → node.kind ≢ Free) where
  -- One snapshot.
  module _ (k : ℕ) (node : Node) (used : used_node now.books.geom now.map k ≡ Some node) (kind : node.kind ≡ Snapshot) where
    file_was : files_in now nothing_drafted k ≡ Some (file_of now.books.geom.layout now.map node)
    file_was = ap (option_map (file_of now.books.geom.layout now.map)) used

    file_is : files_of now.books.geom w k ≡ Some (file_of now.books.geom.layout now.map node)
    file_is = fin.files k ∙ (stays.leaves.files k (file_of now.books.geom.layout now.map node) kind).0 file_was

    pub found : (other : Node) × (used_node now.books.geom w k ≡ Some other) × (file_of now.books.geom.layout w other ≡ file_of now.books.geom.layout now.map node)
    found = node_of_file now.books.geom w k (file_of now.books.geom.layout now.map node) (used_node now.books.geom w k) refl file_is

    drafted_places : places_in now d k ≡ run_places node.runs
    drafted_places = stays.leaves.places k (file_of now.books.geom.layout now.map node) kind file_was ∙ ap places_or_none used

    pub places_same : run_places found.0.runs ≡ run_places node.runs
    places_same = sym (ap places_or_none found.1) ∙ fin.places k ∙ drafted_places

    -- its own blocks

    is_place : (b : ℕ) → has (run_places node.runs) b ≡ true → has (places_or_none (used_node now.books.geom now.map k)) b ≡ true
    is_place b is = ap (λ o. has (places_or_none o) b) used ∙ is

    whole_was : (b : ℕ) → has (run_places node.runs) b ≡ true → length (now.map b) ≡ 1024
    whole_was b is =
        let at = place_data now.books.geom now.map k b (is_place b is) in
        stands.sound.whole b (data_live now.books.geom now.map b (omega (arith, at.from)) at.below (place_marked now.books.geom now.map stands.sound k b (is_place b is)))

    set_is : (b : ℕ) → has (run_places node.runs) b ≡ true → is_set now.books.geom w b ≡ true
    set_is b is =
        let at = place_data now.books.geom now.map k b (is_place b is) in
        let r = place_of (run_places node.runs) b is in
        let block = place_block now.books.geom (drafted d now.map) k r.0 b (ap (λ (ps : List ℕ). slice_get ps r.0) drafted_places ∙ r.1) in
        let live : sound.live b ≡ true = (sound.blocks.marked b at.from at.below).1 (k, r.0, block) in
        fin.bits b (omega (arith, at.below)) ∙ ap (λ x. not (has d.freed b) && (has d.taken b || x)) (sym (told.bits b at.below)) ∙ sound.bits b at.from at.below ∙ or_left (sound.live b) (is_kept d.kept b) live

    whole_is : (b : ℕ) → has (run_places node.runs) b ≡ true → length (w b) ≡ 1024
    whole_is b is =
        let at = place_data now.books.geom now.map k b (is_place b is) in
        fin.whole b (data_live now.books.geom w b (omega (arith, at.from)) at.below (set_is b is))

    pub size_is : node.size ≡ 1024 * length (run_places node.runs)
    size_is =
        let its = stands.each k node used kind in
        let held = stands.keeps its.0 its.1 its.2 in
        let same : held.node ≡ node = same_Some held.node node (sym held.is_node ∙ ap (used_node now.books.geom now.map) its.3 ∙ used) in
        ap (λ (n : Node). n.size) (sym same) ∙ held.size ∙ ap (λ (n : Node). 1024 * length (run_places n.runs)) same

    -- all of a snapshot's bytes are its content
    all_content : (n : Node) → n.kind ≡ Snapshot → content_of now.books.geom.layout n.kind n.size ≡ n.size
    all_content n is = ap (λ (k : NodeKind). content_of now.books.geom.layout k n.size) is

    found_content : content_of now.books.geom.layout found.0.kind found.0.size ≡ found.0.size
    found_content = all_content found.0 (ap (λ (x : FileNode). x.kind) found.2 ∙ kind)

    pub other_size : found.0.size ≡ node.size
    other_size =
        sym found_content
        ∙ sym (content_length now.books.geom w found.0 (used_fits now.books.geom w k found.0 found.1) (λ b is. whole_is b (ap (λ (ps : List ℕ). has ps b) (sym places_same) ∙ is)))
        ∙ ap (λ (x : FileNode). length x.bytes) found.2
        ∙ content_length now.books.geom now.map node (used_fits now.books.geom now.map k node used) whole_was
        ∙ all_content node kind

    bytes_same : joined w (run_places node.runs) ≡ joined now.map (run_places node.runs)
    bytes_same =
        sym (take_all node.size (joined w (run_places node.runs)) (omega (arith, size_is, joined_length w (run_places node.runs) whole_is)))
        ∙ ap₂ (λ n (ps : List ℕ). take n (joined w ps)) (sym (found_content ∙ other_size)) (sym places_same)
        ∙ ap (λ (x : FileNode). x.bytes) found.2
        ∙ ap (λ n. take n (joined now.map (run_places node.runs))) (all_content node kind)
        ∙ take_all node.size (joined now.map (run_places node.runs)) (omega (arith, size_is, joined_length now.map (run_places node.runs) whole_was))

    pub own_same : (i b : ℕ) → slice_get (run_places node.runs) i ≡ Some b → w b ≡ now.map b
    own_same i b at = blocks_alike now.map w (run_places node.runs) whole_was whole_is bytes_same i b at

    -- the blocks of the files that it keeps

    kept_same : (b : ℕ) → IsKeptBlock now.books.geom now.map b → w b ≡ now.map b
    kept_same b one =
        let rests = sound.untouched b ((stays.kept b).1 one) in
        fin.lies b (omega (arith, rests.0.from)) rests.0.below ∙ unfilled (now.map b) (has d.freed b) (change_of d.fresh b) (change_of d.changed b) rests.2

    files_same : (l i b : ℕ) (file : Node) (kind : NodeKind) → file.kind ≡ kind → kept_nodes now.books.geom now.map (run_places node.runs) l ≡ Some file → is_copied kind ≡ false → slice_get (run_places file.runs) i ≡ Some b → w b ≡ now.map b
    files_same l i b file Free of is copied at = absurd (used_kind now.books.geom (kept_table now.map (run_places node.runs) now.books.geom) l file is of)
    files_same l i b file Dir of is copied at = absurd (true≢false copied)
    files_same l i b file Snapshot of is copied at = absurd ((stands.sound.kept k node used kind).plain l file is of)
    files_same l i b file File of is copied at =
        kept_same b (record { snapshot = k; node = node; is_node = used; kind = kind; number = l; place = i; has = record { node = file; is_node = is; kind = of; place = at } })

    pub same_snapshot : HaveSameSnapshot now.books.geom now.map w (run_places node.runs)
    same_snapshot = record {
      long = omega (arith, (stands.sound.kept k node used kind).long);
      own = own_same;
      files = λ l i b file is copied at. files_same l i b file file.kind refl is copied at;
    }

  -- A snapshot of the finished map was there before.
  pub was_there : (k : ℕ) (other : Node) → used_node now.books.geom w k ≡ Some other → other.kind ≡ Snapshot → (node : Node) × (used_node now.books.geom now.map k ≡ Some node) × (node.kind ≡ Snapshot)
  was_there k other used kind =
      let x = file_of now.books.geom.layout w other in
      let file : files_in now d k ≡ Some x = sym (fin.files k) ∙ ap (option_map (file_of now.books.geom.layout w)) used in
      let before = node_of_file now.books.geom now.map k x (used_node now.books.geom now.map k) refl ((stays.leaves.files k x kind).1 file) in
      (before.0, before.1, ap (λ (f : FileNode). f.kind) before.2 ∙ kind)
