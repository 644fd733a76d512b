-- A cut to fewer bytes: d, then f without the places past them, then g with zeros over the rest of a directory's last block, then e with the node.
use Rattle.std.proofs.Common.{◌≡◌, ◌≢◌, ◌⊎◌, inl, inr, ℕ, ◌+◌, ◌-◌, ◌*◌, ◌/◌, ◌%◌, ◌^◌, ◌<◌, ◌≤◌, ◌==◌, nat_le, Bool, true, false, not, ◌&&◌, ◌||◌, if◌then◌else◌, IsTrue, List, [], ◌∷◌, ◌++◌, length, take, drop, replicate, All, Option, Some, None, is_some, refl, sym, ap, subst, ◌∙◌, arith}
use Rattle.std.specs.List.{AllPairs}
use Rattle.std.proofs.lemmas.Bool.{and_from, and_parts, cases_Bool, false≢true, le-leb, or_left, or_right, or_cases, eq-eqb, eqb-true, false_from_ne_true}
use Rattle.std.proofs.lemmas.List.{take-append-drop, length-take, drop-take, take-take}
use Rattle.std.proofs.lemmas.Bool.Decides.{nat_tests}
use Rattle.base_types.specs.Seal.{Blocks}
use Rattle.base_types.specs.Runs.{run_places}
use Rattle.base_types.specs.declared.places.Run.{Run}
use Rattle.base_types.specs.declared.words.Class.TheVariants.{Meta}
use Rattle.base_types.specs.declared.layout.Layout.{Layout}
use Rattle.base_types.specs.Layouts.{most_runs, node_byte, slots_held}
use Rattle.layout_extent.specs.Runs.{AreTidy, runs_of, stretches}
use Rattle.layout_geometry.specs.Geometry.{Geometry, IsGeometry, table_start, data_start}
use Rattle.layout_bytes.specs.declared.node.Node.{Node}
use Rattle.layout_bytes.specs.declared.node.NodeKind.{NodeKind}
use Rattle.layout_bytes.specs.declared.node.NodeKind.TheVariants.{Free, Dir, File, Snapshot}
use Rattle.layout_bytes.specs.Bytes.{are_zeros, has_zeros}
use Rattle.layout_bytes.specs.Node.{content_of, size_of, node_fits, node_spelling, kind_fits, FitsAs}
use Rattle.engine_blocks.specs.Puts.{IsData}
use Rattle.engine_blocks.specs.Running.{has}
use Rattle.engine_blocks.specs.State.{Bookkeeping, State}
use Rattle.crash_stands.specs.Files.{FileNode, Files, joined, content, past_content, used_node, file_of, files_of}
use Rattle.lang_tree.specs.Step.{resized}
use Rattle.fs_files.specs.declared.changes.Changed.{Changed}
use Rattle.fs_files.specs.declared.nodes.OpenNode.{OpenNode}
use Rattle.fs_files.specs.Bytes.{overwrite, blocks_for}
use Rattle.fs_files.specs.Calls.{IsWithFile, IsWithPlaces, Shrinks, ChangesAmong, files_in, places_in, places_or_none, with_bytes, is_dir, cut_blocks}
use Rattle.fs_files.specs.Content.{HasContent}
use Rattle.fs_files.specs.Contents.{blocks_of_size, content_of_size, next_block, next_within}
use Rattle.fs_files.specs.Drafts.{DraftState, ChangesSome, change_of, drafted, PutsBlock, FreesBlocks}
use Rattle.fs_files.specs.Effects.{LooksOnly}
use Rattle.fs_files.specs.Growing.{ShrinksPlaces, alone}
use Rattle.fs_files.specs.Frames.{used_of, ReadsBack}
use Rattle.fs_files.specs.Nodes.{node_block, node_of_open, AreWholeSlots, MayEndAt, fills_blocks}
use Rattle.fs_files.specs.Resizing.{IsLoaded, ClearsRest, IsCleared}
use Rattle.fs_files.specs.Shared.{is_kept}
use Rattle.fs_files.specs.Sound.{FitsBooks, IsSoundDraft, IsDraftOf}
use Rattle.fs_files.proofs.bytes.Calls.{cut_bytes, cut_filled}
use Rattle.fs_files.proofs.bytes.Places.{bytes_cut, content_cut, rest_apart}
use Rattle.fs_files.proofs.bytes.Sizes.{blocks_hold, blocks_rise}
use Rattle.fs_files.proofs.calling.Nodes.{its_file}
use Rattle.fs_files.proofs.calling.Resizes.{in_cleared, pairs_drop}
use Rattle.fs_files.proofs.drafts.Lists.{in_alone, in_rest, in_front, none_of_table, has_append, each_of}
use Rattle.fs_files.proofs.frames.After.{IsStored, stored_after, stored_content, stored_cut}
use Rattle.fs_files.proofs.frames.Carry.{draft_looks, files_look, places_look}
use Rattle.fs_files.proofs.frames.Cells.{block_from, block_below}
use Rattle.fs_files.proofs.frames.Fits.{fits_with}
use Rattle.fs_files.proofs.frames.Frames.{node_places}
use Rattle.fs_files.proofs.frames.Places.{has_block, node_file, used_marked, used_whole, all_of, parts_fit}
use Rattle.fs_files.proofs.frames.Puts.{put_fits, put_changed, put_changes}
use Rattle.fs_files.proofs.frames.Rules.{HasRules, rules_of, frees_others, frees_fits, frees_rules, writes_others, writes_fits, writes_rules}
use Rattle.fs_files.proofs.frames.Spelled.{used_some, fits_as}
use Rattle.fs_files.proofs.frames.Steps.{used_once}
use Rattle.fs_files.proofs.growing.Stretches.{stretches_cut}

-- the first blocks, which the node keeps, and the others
abbrev pub kept_of : ℕ → OpenNode → List ℕ
kept_of size o = take (blocks_for size) o.places

-- the rules of a kind with another size
pub sized_kind : (l : Layout) (kind : NodeKind) (links was size : ℕ) (old_runs new_runs : List Run) → (kind ≡ File → size ≤ 2 ^ 30)
    → kind_fits (record { kind = kind; links = links; size = was; runs = old_runs }) kind ≡ true → kind_fits (record { kind = kind; links = links; size = size_of l kind size; runs = new_runs }) kind ≡ true
sized_kind l Free links was size old_runs new_runs few p = refl
sized_kind l Dir links was size old_runs new_runs few p = eq-eqb (64 * slots_held l size % 64) 0 (omega arith)
sized_kind l File links was size old_runs new_runs few p = and_from (nat_le links 65535) (nat_le size 1073741824) (and_parts (nat_le links 65535) (nat_le was 1073741824) p).0 (le-leb size 1073741824 (omega (arith, few refl)))
sized_kind l Snapshot links was size old_runs new_runs few p = refl

-- zeros up to a place behind the end of the first bytes
zeros_before : (from end upto : ℕ) (xs : List ℕ) → IsTrue (has_zeros (take end xs) from upto) → from ≤ upto → upto ≤ end → IsTrue (are_zeros (drop from (take upto xs)))
zeros_before from end upto xs zeros order within =
    let n = upto - from in
    let all : take n (drop from (take end xs)) ≡ drop from (take upto xs) =
    ap (λ m. take n (drop from (take m xs))) {x = end} {y = from + (end - from)} (omega (arith, order, within))
    ∙ ap (take n) (drop-take from (end - from) xs)
    ∙ take-take n (end - from) (drop from xs) (omega (arith, order, within))
    ∙ sym (drop-take from n xs)
    ∙ ap (λ m. drop from (take m xs)) {x = from + n} {y = upto} (omega (arith, order)) in
    subst (λ ys. IsTrue (are_zeros ys)) all zeros

pub not_in : (xs : List ℕ) (b : ℕ) → (has xs b ≡ true → ⊥) → has xs b ≡ false
not_in xs b isnt = false_from_ne_true (has xs b) (λ is. isnt is)

-- what a cut leaves, and what is known of the steps
pub record CutsNode (tells : Bool) (s : State) (number size : ℕ) (o : OpenNode) (node : Node) (table : List ℕ) (d f g e : DraftState) : Type 0 where
  pub geom : IsGeometry s.books.geom
  pub loaded : IsLoaded tells s d number o table
  pub less : size < o.size
  pub most : size ≤ 2 ^ 30
  pub slots : IsTrue tells → (x : FileNode) → files_in s d number ≡ Some x → x.kind ≡ Dir → MayEndAt s.books.geom.layout x.bytes size
  pub is : node ≡ record { kind = o.kind; links = o.links; size = size_of s.books.geom.layout o.kind size; runs = runs_of (kept_of size o) }
  pub frees : FreesBlocks (alone (is_kept d.kept) (drop (blocks_for size) o.places)) d f
  pub clears : ClearsRest s.books.geom.layout o.kind size (kept_of size o) f g
  pub cleared : IsTrue tells → HasContent s.map f (kept_of size o)
      → (o.kind ≡ Dir → fills_blocks s.books.geom.layout size ≡ true → IsTrue (are_zeros (drop size (joined (drafted f s.map) (kept_of size o))))) → IsCleared s.map o.kind size (kept_of size o) f g
  pub puts : PutsBlock (node_block s.books.geom number) (record { class = Meta; bytes = overwrite (node_byte s.books.geom.layout number) (node_spelling s.books.geom.layout node) table }) g e
  pub back : FitsAs s.books.geom node node.kind → ReadsBack s.books.geom node
  pub places : (xs : List ℕ) → run_places (runs_of xs) ≡ xs
  pub count : (xs : List ℕ) → length (runs_of xs) ≡ stretches xs
  pub tidy : (xs : List ℕ) → AreTidy (runs_of xs)

module _ (tells : Bool) (s : State) (number size : ℕ) (o : OpenNode) (node : Node) (table : List ℕ) (d f g e : DraftState) (is : CutsNode tells s number size o node table d f g e) where
  abbrev k : Bookkeeping
  k = s.books

  abbrev kept : List ℕ
  kept = kept_of size o

  abbrev gone : List ℕ
  gone = drop (blocks_for size) o.places

  -- of these the freed ones
  abbrev freed : List ℕ
  freed = alone (is_kept d.kept) gone

  abbrev rest : List ℕ
  rest = if is_dir o.kind && not (fills_blocks k.geom.layout size) then drop (size / 1024) kept else []

  abbrev c : Changed
  c = record { class = Meta; bytes = overwrite (node_byte k.geom.layout number) (node_spelling k.geom.layout node) table }

  abbrev new : Node
  new = record { kind = o.kind; links = o.links; size = size_of k.geom.layout o.kind size; runs = runs_of kept }

  in_kept : (b : ℕ) → has rest b ≡ true → has kept b ≡ true
  in_kept b mine = in_cleared (is_dir o.kind && not (fills_blocks k.geom.layout size)) (size / 1024) kept b mine

  in_places : (b : ℕ) → has kept b ≡ true → has o.places b ≡ true
  in_places b mine = in_front (blocks_for size) o.places b mine

  kept_data : All (IsData k.geom) kept
  kept_data = all_of (IsData k.geom) kept (λ b mine. each_of (IsData k.geom) o.places is.loaded.fits.«data» b (in_places b mine))

  rest_data : All (IsData k.geom) rest
  rest_data = all_of (IsData k.geom) rest (λ b mine. each_of (IsData k.geom) kept kept_data b (in_kept b mine))

  gone_data : All (IsData k.geom) gone
  gone_data = all_of (IsData k.geom) gone (λ b mine. each_of (IsData k.geom) o.places is.loaded.fits.«data» b (in_rest (blocks_for size) o.places b mine))

  freed_data : All (IsData k.geom) freed
  freed_data = all_of (IsData k.geom) freed (λ b mine. each_of (IsData k.geom) gone gone_data b (in_alone (is_kept d.kept) gone b mine))

  low : table_start k.geom ≤ node_block k.geom number
  low = block_from k.geom number

  high : node_block k.geom number < data_start k.geom
  high = block_below k.geom number is.geom.whole_blocks is.loaded.from is.loaded.upto

  f_fits : FitsBooks k f
  f_fits = frees_fits k freed d f is.frees freed_data is.loaded.draft.fits

  g_fits : FitsBooks k g
  g_fits = writes_fits k Meta rest f g is.clears.writes is.geom rest_data f_fits

  pub cut_fits : FitsBooks k e
  cut_fits = put_fits k g e (node_block k.geom number) c is.geom low high g_fits is.puts

  -- the node's block changed
  pub cut_some : ChangesSome e
  cut_some = put_changes k k.geom number c g e refl is.geom is.loaded.from is.loaded.upto cut_fits is.puts

  -- what changed
  pub cut_among : ChangesAmong (rest ++ node_block k.geom number ∷ []) d e
  cut_among b some = by (cases_Bool (node_block k.geom number == b))
    where
      was : is_some (change_of g.changed b) ≡ true → (has (rest ++ node_block k.geom number ∷ []) b || is_some (change_of d.changed b)) ≡ true
      was old = step (or_cases (has rest b) (is_some (change_of f.changed b)) (is.clears.writes.keys b old))
        where
          was_some : (t : Bool) → is_some (if t then None else change_of d.changed b) ≡ true → is_some (change_of d.changed b) ≡ true
          was_some true e = absurd (false≢true e)
          was_some false e = e

          step : (has rest b ≡ true) ⊎ (is_some (change_of f.changed b) ≡ true) → (has (rest ++ node_block k.geom number ∷ []) b || is_some (change_of d.changed b)) ≡ true
          step (inl mine) = or_left (has (rest ++ node_block k.geom number ∷ []) b) (is_some (change_of d.changed b)) (has_append rest (node_block k.geom number ∷ []) b ∙ or_left (has rest b) (has (node_block k.geom number ∷ []) b) mine)
          step (inr old) = or_right (has (rest ++ node_block k.geom number ∷ []) b) (is_some (change_of d.changed b)) (was_some (has freed b) (ap is_some (sym (is.frees.changed b)) ∙ old))

      by : ((node_block k.geom number == b) ≡ true) ⊎ ((node_block k.geom number == b) ≡ false) → (has (rest ++ node_block k.geom number ∷ []) b || is_some (change_of d.changed b)) ≡ true
      by (inl here) = or_left (has (rest ++ node_block k.geom number ∷ []) b) (is_some (change_of d.changed b))
          (has_append rest (node_block k.geom number ∷ []) b ∙ or_right (has rest b) (has (node_block k.geom number ∷ []) b) (or_left (b == node_block k.geom number) false (eq-eqb b (node_block k.geom number) (sym (eqb-true (node_block k.geom number) b here)))))
      by (inr away) = was (ap is_some (sym (put_changed k g e (node_block k.geom number) c is.geom low high g_fits is.puts b ∙ ap (λ t. if t then Some c else change_of g.changed b) away)) ∙ some)

  pub cut_taken : e.taken ≡ d.taken
  cut_taken = is.puts.taken ∙ is.clears.writes.taken ∙ is.frees.taken

  pub cut_freed : e.freed ≡ d.freed ++ freed
  cut_freed = is.puts.freed ∙ is.clears.writes.freed ∙ is.frees.freed

  pub cut_kept : e.kept ≡ d.kept
  cut_kept = is.puts.kept ∙ is.clears.writes.kept ∙ is.frees.kept

  pub cut_fresh : length e.fresh ≤ length d.fresh
  cut_fresh = omega (arith, is.puts.fresh_len, is.clears.writes.fresh_len, is.frees.fresh_len)

  -- where the blocks are known
  module _ (known : IsTrue tells) where
    abbrev m : Blocks
    m = s.map

    sound : IsSoundDraft k m d
    sound = is.loaded.draft.sound known

    used : used_node k.geom (drafted d m) number ≡ Some (node_of_open k.geom.layout o)
    used = sym (is.loaded.is known)

    ps : run_places (runs_of o.places) ≡ o.places
    ps = is.places o.places

    live_of : (b : ℕ) → has o.places b ≡ true → sound.live b ≡ true
    live_of b mine = used_marked k.geom sound.live (drafted d m) number (node_of_open k.geom.layout o) sound.blocks used b (ap (λ xs. has xs b) ps ∙ mine)

    -- these blocks are live then
    abbrev now : ℕ → Bool
    now b = sound.live b && not (has gone b)

    d_content : HasContent m d o.places
    d_content = record {
      whole = all_of (λ b. length (drafted d m b) ≡ 1024) o.places (λ b mine. used_whole k.geom sound.live (drafted d m) number (node_of_open k.geom.layout o) sound.blocks used b (ap (λ xs. has xs b) ps ∙ mine));
      once = subst (AllPairs (λ a b. a ≢ b)) ps (used_once k.geom sound.live (drafted d m) number (node_of_open k.geom.layout o) sound.blocks used);
      apart = all_of (λ b. is_some (change_of d.fresh b) ≡ true → change_of d.changed b ≡ None) o.places (λ b mine. sound.apart b);
    }

    -- the file, and the bytes of its blocks
    abbrev file : FileNode
    file = file_of k.geom.layout (drafted d m) (node_of_open k.geom.layout o)

    old_size : content_of k.geom.layout o.kind (size_of k.geom.layout o.kind o.size) ≡ o.size
    old_size = content_of_size k.geom.layout o.kind o.size is.loaded.fits.slots

    old_bytes : content k.geom.layout (drafted d m) (node_of_open k.geom.layout o) ≡ take o.size (joined (drafted d m) o.places)
    old_bytes = ap (λ n. take n (joined (drafted d m) (run_places (runs_of o.places)))) old_size ∙ ap (λ xs. take o.size (joined (drafted d m) xs)) ps

    may_end : o.kind ≡ Dir → MayEndAt k.geom.layout (take o.size (joined (drafted d m) o.places)) size
    may_end dir = subst (λ bs. MayEndAt k.geom.layout bs size) old_bytes (is.slots known file (node_file k.geom (drafted d m) number (node_of_open k.geom.layout o) used) dir)

    whole_now : o.kind ≡ Dir → AreWholeSlots k.geom.layout size
    whole_now dir = (may_end dir).whole

    new_size : content_of k.geom.layout o.kind (size_of k.geom.layout o.kind size) ≡ size
    new_size = content_of_size k.geom.layout o.kind size whole_now

    f_content : HasContent m f kept
    f_content = content_cut m (is_kept d.kept) (blocks_for size) o.places d f d_content is.frees

    -- where there is room for no slot more there are zeros
    zeros_there : o.kind ≡ Dir → fills_blocks k.geom.layout size ≡ true → IsTrue (are_zeros (drop size (joined (drafted f m) kept)))
    zeros_there dir full =
        subst (λ xs. IsTrue (are_zeros (drop size xs))) (sym (bytes_cut m (is_kept d.kept) (blocks_for size) o.places d f d_content is.frees))
        (zeros_before size o.size (1024 * blocks_for size) (joined (drafted d m) o.places)
        (subst (λ n. IsTrue (has_zeros (take o.size (joined (drafted d m) o.places)) size n)) (next_block k.geom.layout size full) (may_end dir).gap)
        (blocks_hold size).0
        (omega (arith, next_block k.geom.layout size full, next_within k.geom.layout size o.size (whole_now dir) (is.loaded.fits.slots dir) is.less)))

    done : IsCleared m o.kind size kept f g
    done = is.cleared known f_content zeros_there

    f_rules : HasRules k now f
    f_rules = frees_rules k freed d f is.frees sound.live gone refl gone_data
        (all_of (λ b. sound.live b ≡ true) gone (λ b mine. live_of b (in_rest (blocks_for size) o.places b mine)))
        (pairs_drop (blocks_for size) o.places d_content.once) (rules_of k m d sound)

    kept_live : (b : ℕ) → has kept b ≡ true → now b ≡ true
    kept_live b mine = λ i. live_of b (in_places b mine) i && not (rest_apart (blocks_for size) o.places b d_content.once mine i)

    -- a directory's blocks aren't kept by a snapshot
    rest_alone : (b : ℕ) → has rest b ≡ true → is_kept f.kept b ≡ false
    rest_alone b mine = ap (λ ks. is_kept ks b) is.frees.kept ∙ false_from_ne_true (is_kept d.kept b) (λ held.
        let at = has_block k.geom (drafted d m) number (node_of_open k.geom.layout o) used b (ap (λ xs. has xs b) ps ∙ in_places b (in_kept b mine)) in
        not_a_dir (is_dir o.kind) (not (fills_blocks k.geom.layout size)) mine (ap is_dir (sound.shared b number at.0 (node_of_open k.geom.layout o) held at.1 used)))
      where
        not_a_dir : (t u : Bool) → has (if t && u then drop (size / 1024) kept else []) b ≡ true → t ≡ false → ⊥
        not_a_dir true u mine e = false≢true (sym e)
        not_a_dir false u mine e = false≢true mine

    g_rules : HasRules k now g
    g_rules = writes_rules k Meta rest f g is.clears.writes now (all_of (λ b. now b ≡ true) rest (λ b mine. kept_live b (in_kept b mine)))
        (all_of (λ b. is_kept f.kept b ≡ false) rest rest_alone) f_rules

    -- a block that isn't the node's is as before
    others : (b : ℕ) → has o.places b ≡ false → drafted g m b ≡ drafted d m b
    others b out =
        writes_others k Meta rest f g is.clears.writes m b (not_in rest b (λ mine. false≢true (sym out ∙ in_places b (in_kept b mine))))
        ∙ frees_others k freed d f is.frees m b (not_in freed b (λ mine. false≢true (sym out ∙ in_rest (blocks_for size) o.places b (in_alone (is_kept d.kept) gone b mine))))

    few : stretches kept ≤ most_runs k.geom.layout
    few = omega (arith, stretches_cut (blocks_for size) o.places, is.loaded.fits.runs)

    fits_new : node_fits k.geom new ≡ true
    fits_new = fits_with k.geom o.kind o.links (size_of k.geom.layout o.kind size) kept (is.places kept) (is.count kept) (is.tidy kept) (parts_fit k.geom (node_of_open k.geom.layout o) is.loaded.fits.fits).links few kept_data
        (omega (arith, length-take (blocks_for size) o.places, is.loaded.fits.count, blocks_rise size o.size (omega (arith, is.less)), blocks_of_size k.geom.layout o.kind size whole_now))
        (sized_kind k.geom.layout o.kind o.links (size_of k.geom.layout o.kind o.size) size (runs_of o.places) (runs_of kept) (λ file. is.most) (parts_fit k.geom (node_of_open k.geom.layout o) is.loaded.fits.fits).kind)

    back : ReadsBack k.geom new
    back = subst (ReadsBack k.geom) is.is (is.back (subst (λ n. FitsAs k.geom n n.kind) (sym is.is) (fits_as k.geom new is.loaded.fits.used fits_new)))

    stored : IsStored k now m number new d g e
    stored = stored_after k sound.live now m number new c d g e is.geom is.loaded.from is.loaded.upto sound.blocks g_fits g_rules (is.clears.writes.kept ∙ is.frees.kept)
        (λ b from below. others b (none_of_table k.geom o.places b is.loaded.fits.«data» below))
        (ap (λ n. overwrite (node_byte k.geom.layout number) (node_spelling k.geom.layout n) table) is.is ∙ ap (overwrite (node_byte k.geom.layout number) (node_spelling k.geom.layout new)) (is.loaded.block known))
        is.puts back

    -- the bytes, and what is past them
    size_fits : o.size ≤ 1024 * length o.places
    size_fits = omega (arith, is.loaded.fits.count, (blocks_hold o.size).0)

    kept_count : length kept ≡ blocks_for size
    kept_count = omega (arith, length-take (blocks_for size) o.places, is.loaded.fits.count, blocks_rise size o.size (omega (arith, is.less)))

    filled : is_dir o.kind ≡ true → joined (drafted g m) kept ≡ overwrite size (replicate (1024 * blocks_for size - size) 0) (joined (drafted f m) kept)
    filled dir = done.bytes ∙ ap (λ t. if t then overwrite size (replicate (1024 * length kept - size) 0) (joined (drafted f m) kept) else joined (drafted f m) kept) dir
        ∙ ap (λ n. overwrite size (replicate (1024 * n - size) 0) (joined (drafted f m) kept)) kept_count

    bytes : take size (joined (drafted g m) kept) ≡ resized size (take o.size (joined (drafted d m) o.places))
    bytes = grind (arith, nat_tests, cut_filled, d_content, size_fits, filled, done, cut_bytes)

    tail : o.kind ≡ Dir → IsTrue (are_zeros (past_content k.geom.layout (drafted g m) new))
    tail dir = ap (λ n. are_zeros (drop n (joined (drafted g m) (run_places (runs_of kept))))) new_size ∙ ap (λ xs. are_zeros (drop size (joined (drafted g m) xs))) (is.places kept)
        ∙ (cut_filled m (is_kept d.kept) o.places o.size size d f g d_content size_fits (omega (arith, is.less)) is.frees (filled (ap is_dir dir))).1

    whole : All (λ b. length (drafted g m b) ≡ 1024) (run_places (runs_of kept))
    whole = subst (All (λ b. length (drafted g m b) ≡ 1024)) (sym (is.places kept)) done.content.whole

    inside : All (IsData k.geom) (run_places (runs_of kept))
    inside = subst (All (IsData k.geom)) (sym (is.places kept)) kept_data

    is_used : used_of new ≡ Some new
    is_used = used_some new is.loaded.fits.used

    all : IsSoundDraft k m e × IsWithFile (files_of k.geom (drafted d m)) (files_of k.geom (drafted e m)) number (Some (file_of k.geom.layout (drafted e m) new))
    all = stored_cut k m number new (node_of_open k.geom.layout o) d g e now sound stored refl is_used used inside whole tail kept gone
        (ps ∙ sym (take-append-drop (blocks_for size) o.places)) (is.places kept)
        (λ b from below out. others b (ap (λ xs. has xs b) (sym ps) ∙ out))
        (λ b. refl)

    pub cut_sound : IsSoundDraft k m e
    cut_sound = all.0

    pub cut_node : used_node k.geom (drafted e m) number ≡ Some new
    cut_node = stored.node_is.own ∙ is_used

    now_bytes : content k.geom.layout (drafted e m) new ≡ resized size (content k.geom.layout (drafted d m) (node_of_open k.geom.layout o))
    now_bytes = stored_content k m number new (node_of_open k.geom.layout o) d g e now sound stored refl is_used used inside whole tail
        ∙ ap (λ n. take n (joined (drafted g m) (run_places (runs_of kept)))) new_size
        ∙ ap (λ xs. take size (joined (drafted g m) xs)) (is.places kept)
        ∙ bytes
        ∙ ap (resized size) (sym old_bytes)

    pub cut_file : (x : FileNode) → files_of k.geom (drafted d m) number ≡ Some x
        → IsWithFile (files_of k.geom (drafted d m)) (files_of k.geom (drafted e m)) number (Some (with_bytes x (resized size x.bytes)))
    cut_file x at = grind (arith, nat_tests, its_file, bytes, now_bytes, all)

    places_d : places_in s d number ≡ o.places
    places_d = ap places_or_none used ∙ ps

    module _ (t : State) (looks : LooksOnly tells false s t) where
      places_e : places_in t e number ≡ kept
      places_e = grind (arith, nat_tests, cut_node)

      pub cut_places : IsWithPlaces (places_in s d) (places_in t e) number (take (blocks_for size) (places_in s d number))
      cut_places = grind (arith, nat_tests, places_e, places_d, others, places_look, node_places, stored)

      pub cut_shrinks : (x : FileNode) → Shrinks x (places_in s d number) (places_in t e number) size d e
      cut_shrinks x = grind (arith, nat_tests, places_e, places_d, cut_taken, cut_freed, cut_fresh, cut_some)

    pub cut_changes : (x : FileNode) → files_of k.geom (drafted d m) number ≡ Some x → ChangesAmong (cut_blocks k.geom number x (places_in s d number) size) d e
    cut_changes x at = grind (arith, nat_tests, its_file, places_d, cut_among)

-- the rest of a node's blocks is cleared, where they are known
abbrev Clears : Bool → State → ℕ → DraftState → DraftState → Layout → OpenNode → Type 0
Clears tells s size f g l o = IsTrue tells → HasContent s.map f o.places → (o.kind ≡ Dir → fills_blocks l size ≡ true → IsTrue (are_zeros (drop size (joined (drafted f s.map) o.places)))) → IsCleared s.map o.kind size o.places f g

-- the steps of a cut are one
pub cut_steps : (tells : Bool) (s : State) (number size n : ℕ) (o p : OpenNode) (node : Node) (table : List ℕ) (d f g e : DraftState) (h : Geometry) (l : Layout) → h ≡ s.books.geom → l ≡ h.layout → IsGeometry h
    → IsLoaded tells s d number o table → size < o.size → size ≤ 2 ^ 30
    → (IsTrue tells → (x : FileNode) → files_in s d number ≡ Some x → x.kind ≡ Dir → MayEndAt s.books.geom.layout x.bytes size)
    → n ≡ blocks_for size → ShrinksPlaces n o p d f
    → ClearsRest l p.kind size p.places f g
    → Clears tells s size f g l p
    → node ≡ record { kind = p.kind; links = p.links; size = size_of l p.kind size; runs = runs_of p.places }
    → PutsBlock (node_block h number) (record { class = Meta; bytes = overwrite (node_byte h.layout number) (node_spelling h.layout node) table }) g e → (FitsAs h node node.kind → ReadsBack h node)
    → ((xs : List ℕ) → run_places (runs_of xs) ≡ xs) → ((xs : List ℕ) → length (runs_of xs) ≡ stretches xs) → ((xs : List ℕ) → AreTidy (runs_of xs))
    → CutsNode tells s number size o node table d f g e
cut_steps tells s number size n o p node table d f g e h l same layout geom loaded less most slots count shrinks clears cleared node_is puts reads back runs tidy = record {
  geom = subst IsGeometry same geom;
  loaded = loaded;
  less = less;
  most = most;
  slots = slots;
  is = node_is ∙ (λ i. record { kind = (p_is i).kind; links = (p_is i).links; size = size_of (l_is i) (p_is i).kind size; runs = runs_of (p_is i).places });
  frees = subst (λ m. FreesBlocks (alone (is_kept d.kept) (drop m o.places)) d f) count shrinks.frees;
  clears = subst (λ (q : OpenNode). ClearsRest s.books.geom.layout q.kind size q.places f g) p_is (subst (λ (y : Layout). ClearsRest y p.kind size p.places f g) l_is clears);
  cleared = subst (Clears tells s size f g s.books.geom.layout) p_is (subst (λ (y : Layout). Clears tells s size f g y p) l_is cleared);
  puts = subst (λ (x : Geometry). PutsBlock (node_block x number) (record { class = Meta; bytes = overwrite (node_byte x.layout number) (node_spelling x.layout node) table }) g e) same puts;
  back = subst (λ (x : Geometry). FitsAs x node node.kind → ReadsBack x node) same reads;
  places = back;
  count = runs;
  tidy = tidy;
}
  where
    l_is : l ≡ s.books.geom.layout
    l_is = layout ∙ ap (λ (x : Geometry). x.layout) same

    p_is : p ≡ record o { places = kept_of size o }
    p_is = shrinks.node ∙ ap (λ m. record o { places = take m o.places }) count

-- the files are those of the map that was looked at
pub file_looks : (tells : Bool) (s t : State) (e : DraftState) (old : Files) (number : ℕ) (x : Option FileNode) → LooksOnly tells false s t → IsTrue tells
    → IsWithFile old (files_in s e) number x → IsWithFile old (files_in t e) number x
file_looks tells s t e old number x looks known w = grind (arith, nat_tests, files_look)

-- the draft after it
pub cut_draft : (tells : Bool) (s t : State) (number size : ℕ) (o : OpenNode) (node : Node) (table : List ℕ) (d f g e : DraftState) → CutsNode tells s number size o node table d f g e → LooksOnly tells false s t → IsDraftOf tells t e
cut_draft tells s t number size o node table d f g e is looks = draft_looks tells false s t e looks (record {
  fits = cut_fits tells s number size o node table d f g e is;
  sound = λ known. cut_sound tells s number size o node table d f g e is known;
  content = λ b some. cut_some tells s number size o node table d f g e is;
})
