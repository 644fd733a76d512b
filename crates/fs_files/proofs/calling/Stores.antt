-- A write whose node was stored where its size grew: the draft is one of the blocks again, and the file has the bytes.
use Rattle.std.proofs.Common.{◌≡◌, ◌≢◌, ◌⊎◌, inl, inr, ℕ, ◌+◌, ◌^◌, ◌<◌, ◌≤◌, Bool, true, false, not, ◌&&◌, ◌||◌, IsTrue, List, length, take, drop, max, min, All, Some, refl, sym, ap, subst, ◌∙◌, arith, ⊎_elim}
use Rattle.std.specs.List.{AllPairs}
use Rattle.std.proofs.lemmas.Bool.{cases_lt}
use Rattle.base_types.specs.Seal.{Blocks}
use Rattle.base_types.specs.Runs.{run_places}
use Rattle.base_types.specs.declared.words.Class.TheVariants.{Meta}
use Rattle.base_types.specs.Layouts.{most_runs, node_byte}
use Rattle.layout_geometry.specs.Geometry.{IsGeometry, table_start, data_start}
use Rattle.layout_extent.specs.Runs.{AreTidy, runs_of, stretches}
use Rattle.layout_bytes.specs.declared.node.Node.{Node}
use Rattle.layout_bytes.specs.declared.node.NodeKind.TheVariants.{Free, Dir}
use Rattle.layout_bytes.specs.Bytes.{are_zeros}
use Rattle.layout_bytes.specs.Node.{content_of, size_of, node_fits, node_spelling, kind_fits, FitsAs}
use Rattle.engine_blocks.specs.Running.{has}
use Rattle.engine_blocks.specs.Puts.{IsData}
use Rattle.engine_blocks.specs.State.{Bookkeeping, IsReusable}
use Rattle.lang_tree.specs.Step.{written}
use Rattle.crash_stands.specs.Files.{FileNode, joined, past_content, file_of, files_of, used_node}
use Rattle.fs_files.specs.declared.changes.Changed.{Changed}
use Rattle.fs_files.specs.declared.nodes.OpenNode.{OpenNode}
use Rattle.fs_files.specs.Bytes.{blocks_for, met, overwrite}
use Rattle.fs_files.specs.Calls.{IsWithFile, with_bytes, places_or_none, places_of}
use Rattle.fs_files.specs.Content.{WritesContent}
use Rattle.fs_files.specs.Contents.{blocks_of_size, content_of_size}
use Rattle.fs_files.specs.Drafts.{DraftState, drafted, PutsBlock}
use Rattle.fs_files.specs.Frames.{used_of, ReadsBack}
use Rattle.fs_files.specs.Growing.{placed, taken_by}
use Rattle.fs_files.specs.Nodes.{class_of, node_of_open, node_block, AreWholeSlots, IsOpen}
use Rattle.fs_files.specs.Shared.{is_kept}
use Rattle.fs_files.specs.Sound.{FitsBooks, IsSoundDraft}
use Rattle.fs_files.specs.Writing.{WritesOpen, KeepsSize, with_size}
use Rattle.fs_files.proofs.bytes.Places.{met_in}
use Rattle.fs_files.proofs.frames.After.{IsStored, stored_after, stored_renewed, stored_content}
use Rattle.fs_files.proofs.frames.Cells.{block_from, block_below}
use Rattle.fs_files.proofs.frames.Fits.{fits_with}
use Rattle.fs_files.proofs.frames.Frames.{node_places}
use Rattle.fs_files.proofs.frames.Places.{used_length, parts_fit}
use Rattle.fs_files.proofs.frames.Puts.{put_fits}
use Rattle.fs_files.proofs.frames.Spelled.{fits_as, used_some}
use Rattle.fs_files.proofs.frames.Steps.{file_is, file_bytes, node_kept}
use Rattle.fs_files.proofs.frames.Written.{written_sound}
use Rattle.fs_files.proofs.calling.Came.{news}
use Rattle.fs_files.proofs.calling.Nodes.{its_file}
use Rattle.fs_files.proofs.calling.Writes as writes
use Rattle.fs_files.proofs.drafts.Lists.{none_of_table}
use Rattle.fs_files.proofs.calling.Cuts.{sized_kind}

module _ (tells : Bool) (k : Bookkeeping) (m : Blocks) (number off : ℕ) (ys : List ℕ) (o p : OpenNode) (d f e : DraftState) (table : List ℕ) (geom : IsGeometry k.geom) (opened : IsOpen k.geom o) (fits : FitsBooks k d) (some : (0 < length ys) ⊎ (o.size < off)) (w : WritesOpen tells k m off ys o p d f)
    (from : 1 ≤ number) (upto : number ≤ k.geom.i) (keeps : KeepsSize k.geom number (off + length ys) (taken_by (is_kept d.kept) (min off o.size) (off + length ys) o.places) p table f e) where
  abbrev wide : ℕ
  wide = max o.size (off + length ys)

  abbrev hi : ℕ
  hi = off + length ys

  abbrev need : ℕ
  need = taken_by (is_kept d.kept) (min off o.size) (off + length ys) o.places

  abbrev extra : List ℕ
  extra = news k (min off o.size) (off + length ys) o d

  low : table_start k.geom ≤ node_block k.geom number
  low = block_from k.geom number

  high : node_block k.geom number < data_start k.geom
  high = block_below k.geom number geom.whole_blocks from upto

  abbrev put : Changed
  put = record { class = Meta; bytes = overwrite (node_byte k.geom.layout number) (node_spelling k.geom.layout (with_size k.geom.layout p (max p.size hi))) table }

  fits_f : FitsBooks k f
  fits_f = writes.wrote_fits tells k m number off ys o p d f geom opened fits some w

  -- the node was stored, or it has the size and the blocks that it had
  pub stored_or : ((p.size < hi) ⊎ (0 < need)) ⊎ ((hi ≤ p.size) × (need ≡ 0))
  stored_or = ⊎_elim (λ grew. inl (inl grew))
      (λ small. ⊎_elim (λ got. inl (inr got))
      (λ none. inr (small, omega (arith, none)))
      (cases_lt 0 need))
      (cases_lt p.size hi)

  pub kept_fits : FitsBooks k e
  kept_fits = ⊎_elim (λ stored. put_fits k f e (node_block k.geom number) put geom low high fits_f (keeps.puts stored))
      (λ not. subst (FitsBooks k) (sym (keeps.same not.0 not.1)) fits_f)
      stored_or

  pub kept_kept : e.kept ≡ d.kept
  kept_kept = ⊎_elim (λ stored. (keeps.puts stored).kept)
      (λ not. ap (λ (x : DraftState). x.kept) (keeps.same not.0 not.1))
      stored_or ∙ writes.wrote_kept tells k m number off ys o p d f geom opened fits some w

  module _ (told : IsTrue tells) (sound : IsSoundDraft k m d) (free : (b : ℕ) → IsReusable k.geom k.reusable b → k.marked b ≡ false)
      (used : used_node k.geom (drafted d m) number ≡ Some (node_of_open k.geom.layout o)) (back : (xs : List ℕ) → run_places (runs_of xs) ≡ xs) (count : (xs : List ℕ) → length (runs_of xs) ≡ stretches xs) (tidy : (xs : List ℕ) → AreTidy (runs_of xs))
      (at_table : table ≡ drafted d m (node_block k.geom number)) (few : off + length ys ≤ 2 ^ 30) (slots : o.kind ≡ Dir → AreWholeSlots k.geom.layout wide) where
    abbrev old : Node
    old = node_of_open k.geom.layout o

    abbrev new : Node
    new = with_size k.geom.layout p wide

    node_is : p ≡ record o { places = placed (is_kept d.kept) (min off o.size) (off + length ys) o.places extra }
    node_is = (writes.its tells k m number off ys o p d f geom opened fits some w).node

    kind_is : p.kind ≡ o.kind
    kind_is = ap (λ (q : OpenNode). q.kind) node_is

    links_is : p.links ≡ o.links
    links_is = ap (λ (q : OpenNode). q.links) node_is

    size_is : p.size ≡ o.size
    size_is = ap (λ (q : OpenNode). q.size) node_is

    wide_is : max p.size hi ≡ wide
    wide_is = ap (λ n. max n hi) size_is

    -- the places fit
    pub stretched : stretches p.places ≤ most_runs k.geom.layout
    stretched = (writes.its tells k m number off ys o p d f geom opened fits some w).runs opened.runs

    counted : length p.places ≡ blocks_for wide
    counted = omega (arith, writes.its_count tells k m number off ys o p d f geom opened fits some w, opened.count)

    slots_now : p.kind ≡ Dir → AreWholeSlots k.geom.layout wide
    slots_now dir = slots (sym kind_is ∙ dir)

    -- as many bytes as its size tells
    tells_wide : content_of k.geom.layout p.kind (size_of k.geom.layout p.kind wide) ≡ wide
    tells_wide = content_of_size k.geom.layout p.kind wide slots_now

    tells_old : content_of k.geom.layout o.kind (size_of k.geom.layout o.kind o.size) ≡ o.size
    tells_old = content_of_size k.geom.layout o.kind o.size opened.slots

    fit : node_fits k.geom new ≡ true
    fit =
        let l = parts_fit k.geom old opened.fits in
        let linked_p : 0 < p.links = omega (arith, links_is, l.links) in
        fits_with k.geom p.kind p.links (size_of k.geom.layout p.kind wide) p.places (back p.places) (count p.places) (tidy p.places) linked_p stretched (writes.all_inside tells k m number off ys o p d f geom opened fits some w)
        (counted ∙ sym (blocks_of_size k.geom.layout p.kind wide slots_now))
        (subst (λ (q : OpenNode). kind_fits (record { kind = q.kind; links = q.links; size = size_of k.geom.layout q.kind wide; runs = runs_of p.places }) q.kind ≡ true) (sym node_is)
        (sized_kind k.geom.layout o.kind o.links (size_of k.geom.layout o.kind o.size) wide (runs_of o.places) (runs_of p.places) (λ file. omega (arith, opened.file file, few)) l.kind))

    used_kind : p.kind ≢ Free
    used_kind e = opened.used (sym kind_is ∙ e)

    table_same : (b : ℕ) → table_start k.geom ≤ b → b < data_start k.geom → drafted f m b ≡ drafted d m b
    table_same b above below =
        writes.wrote_others tells k m number off ys o p d f geom opened fits some w told sound free used back b
        (none_of_table k.geom o.places b opened.«data» below)
        (none_of_table k.geom extra b (writes.its tells k m number off ys o p d f geom opened fits some w).inside below)

    whole_f : All (λ b. length (drafted f m b) ≡ 1024) p.places
    whole_f = (writes.content_after tells k m number off ys o p d f geom opened fits some w told sound free used back).whole

    -- the bytes past the end of a directory
    tail_after : o.kind ≡ Dir → IsTrue (are_zeros (drop wide (joined (drafted f m) p.places)))
    tail_after dir = writes.tail_written tells k m number off ys o p d f geom opened fits some w told sound free used back (writes.tail_before tells k m number off ys o p d f geom opened fits some w told sound free used back dir)

    bytes_after : (x : FileNode) → files_of k.geom (drafted d m) number ≡ Some x → take wide (joined (drafted f m) p.places) ≡ written off ys x.bytes
    bytes_after x at =
        writes.bytes_written tells k m number off ys o p d f geom opened fits some w told sound free used back
        ∙ ap (λ xs. written off ys (take o.size (joined (drafted d m) xs))) (sym (back o.places))
        ∙ ap (λ n. written off ys (take n (joined (drafted d m) (run_places (runs_of o.places))))) (sym tells_old)
        ∙ ap (λ (y : FileNode). written off ys y.bytes) (sym (its_file k.geom (drafted d m) number x old (sym used) at))

    abbrev Sound : Type 0
    Sound = IsSoundDraft k m e × ((x : FileNode) → files_of k.geom (drafted d m) number ≡ Some x → IsWithFile (files_of k.geom (drafted d m)) (files_of k.geom (drafted e m)) number (Some (with_bytes x (written off ys x.bytes))))

    abbrev now : ℕ → Bool
    now b = has p.places b || (sound.live b && not (has o.places b))

    module _ (grew : (p.size < hi) ⊎ (0 < need)) where
      puts : PutsBlock (node_block k.geom number) (record { class = Meta; bytes = overwrite (node_byte k.geom.layout number) (node_spelling k.geom.layout new) table }) f e
      puts = subst (λ n. PutsBlock (node_block k.geom number) (record { class = Meta; bytes = overwrite (node_byte k.geom.layout number) (node_spelling k.geom.layout (with_size k.geom.layout p n)) table }) f e) wide_is (keeps.puts grew)

      reads : ReadsBack k.geom new
      reads = subst (λ n. FitsAs k.geom (with_size k.geom.layout p n) p.kind → ReadsBack k.geom (with_size k.geom.layout p n)) wide_is (keeps.back grew) (fits_as k.geom new used_kind fit)

      stored : IsStored k now m number new d f e
      stored = stored_after k sound.live now m number new (record { class = Meta; bytes = overwrite (node_byte k.geom.layout number) (node_spelling k.geom.layout new) table }) d f e geom from upto sound.blocks fits_f
          (writes.now_rules tells k m number off ys o p d f geom opened fits some w told sound free used back) (writes.wrote_kept tells k m number off ys o p d f geom opened fits some w) table_same
          (ap (overwrite (node_byte k.geom.layout number) (node_spelling k.geom.layout new)) at_table) puts reads

      inside_new : All (IsData k.geom) (run_places (runs_of p.places))
      inside_new = subst (All (IsData k.geom)) (sym (back p.places)) (writes.all_inside tells k m number off ys o p d f geom opened fits some w)

      whole_new : All (λ b. length (drafted f m b) ≡ 1024) (run_places (runs_of p.places))
      whole_new = subst (All (λ b. length (drafted f m b) ≡ 1024)) (sym (back p.places)) whole_f

      tail_new : p.kind ≡ Dir → IsTrue (are_zeros (past_content k.geom.layout (drafted f m) new))
      tail_new dir = subst (λ n. IsTrue (are_zeros (drop n (joined (drafted f m) (run_places (runs_of p.places)))))) (sym tells_wide)
          (subst (λ xs. IsTrue (are_zeros (drop wide (joined (drafted f m) xs)))) (sym (back p.places)) (tail_after (sym kind_is ∙ dir)))

      was_new : (b : ℕ) → has (run_places (runs_of p.places)) b ≡ has p.places b
      was_new b = ap (λ xs. has xs b) (back p.places)

      was_old : (b : ℕ) → has (run_places (runs_of o.places)) b ≡ has o.places b
      was_old b = ap (λ xs. has xs b) (back o.places)

      all_stored : IsSoundDraft k m e × IsWithFile (files_of k.geom (drafted d m)) (files_of k.geom (drafted e m)) number (Some (file_of k.geom.layout (drafted e m) new))
      all_stored = stored_renewed k m number new old d f e now sound stored kind_is (used_some new used_kind) used inside_new whole_new tail_new
          extra
          (λ b is. ⊎_elim (λ mine. inl (was_old b ∙ mine))
          (λ came. inr came)
          (writes.either tells k m number off ys o p d f geom opened fits some w b (sym (was_new b) ∙ is)))
          (λ b is. was_new b ∙ writes.comes tells k m number off ys o p d f geom opened fits some w b is)
          (subst (AllPairs (λ a b. a ≢ b)) (sym (back p.places)) (writes.once_now tells k m number off ys o p d f geom opened fits some w told sound free used back))
          (writes.its tells k m number off ys o p d f geom opened fits some w).inside
          (writes.came_unmarked tells k m number off ys o p d f geom opened fits some w told sound free used back)
          (λ b above below out_old out_new. writes.wrote_others tells k m number off ys o p d f geom opened fits some w told sound free used back b (sym (was_old b) ∙ out_old) out_new)
          (λ b. (λ i. sym (was_new b) i || (sound.live b && not (sym (was_old b) i))))

      sound_more : Sound
      sound_more = (
        all_stored.0,
        λ x at. file_is (files_of k.geom (drafted d m)) (files_of k.geom (drafted e m)) number (Some (file_of k.geom.layout (drafted e m) new)) (Some (with_bytes x (written off ys x.bytes)))
            (file_bytes k.geom.layout (drafted d m) (drafted e m) old new x (written off ys x.bytes) (its_file k.geom (drafted d m) number x old (sym used) at) kind_is links_is
            (stored_content k m number new old d f e now sound stored kind_is (used_some new used_kind) used inside_new whole_new tail_new
            ∙ ap (λ n. take n (joined (drafted f m) (run_places (runs_of p.places)))) tells_wide
            ∙ ap (λ xs. take wide (joined (drafted f m) xs)) (back p.places) ∙ bytes_after x at))
            all_stored.1,
      )

    module _ (small : hi ≤ p.size) (none : need ≡ 0) where
      wide_old : wide ≡ o.size
      wide_old = omega (arith, small, size_is)

      same_node : p ≡ o
      same_node = (w.room.same none).0

      same_draft : w.grown ≡ d
      same_draft = (w.room.same none).1

      old_places : p.places ≡ run_places (runs_of o.places)
      old_places = ap (λ (q : OpenNode). q.places) same_node ∙ sym (back o.places)

      writes_d : WritesContent (class_of o.kind) (met (min off o.size) hi p.places) d f
      writes_d = subst (λ (x : DraftState). WritesContent (class_of o.kind) (met (min off o.size) hi p.places) x f) same_draft (writes.grown_wrote tells k m number off ys o p d f geom opened fits some w)

      sound_enough : Sound
      sound_enough =
          let whole : All (λ b. length (drafted f m b) ≡ 1024) (run_places (runs_of o.places)) = subst (All (λ b. length (drafted f m b) ≡ 1024)) old_places whole_f in
          let tail : o.kind ≡ Dir → IsTrue (are_zeros (past_content k.geom.layout (drafted f m) old)) =
          λ dir. subst (λ n. IsTrue (are_zeros (drop n (joined (drafted f m) (run_places (runs_of o.places)))))) (wide_old ∙ sym tells_old) (subst (λ xs. IsTrue (are_zeros (drop wide (joined (drafted f m) xs)))) old_places (tail_after dir)) in
          let all = written_sound k m number old (class_of o.kind) (met (min off o.size) hi p.places) d f geom fits sound used writes_d
          (λ b is. ap (λ xs. has xs b) (sym old_places) ∙ met_in (min off o.size) hi p.places b is)
          (writes.met_alone tells k m number off ys o p d f geom opened fits some w told sound free used back) whole tail in
          subst (λ (y : DraftState). IsSoundDraft k m y × ((x : FileNode) → files_of k.geom (drafted d m) number ≡ Some x → IsWithFile (files_of k.geom (drafted d m)) (files_of k.geom (drafted y m)) number (Some (with_bytes x (written off ys x.bytes)))))
          (sym (keeps.same small none)) (
            all.0,
            λ x at. file_is (files_of k.geom (drafted d m)) (files_of k.geom (drafted f m)) number (Some (file_of k.geom.layout (drafted f m) old)) (Some (with_bytes x (written off ys x.bytes)))
                (file_bytes k.geom.layout (drafted d m) (drafted f m) old old x (written off ys x.bytes) (its_file k.geom (drafted d m) number x old (sym used) at) refl refl
                (ap (λ n. take n (joined (drafted f m) (run_places (runs_of o.places)))) (tells_old ∙ sym wide_old) ∙ ap (λ xs. take wide (joined (drafted f m) xs)) (sym old_places) ∙ bytes_after x at))
                all.1,
          )

    pub kept_sound : Sound
    kept_sound = ⊎_elim (λ grew. sound_more grew)
        (λ not. sound_enough not.0 not.1)
        stored_or

    -- Its blocks before and after.

    pub places_before : places_of k.geom (drafted d m) number ≡ o.places
    places_before = ap places_or_none used ∙ back o.places

    pub places_now : places_of k.geom (drafted e m) number ≡ p.places
    places_now = ⊎_elim (λ grew. ap places_or_none ((stored grew).node_is.own ∙ used_some new used_kind) ∙ back p.places)
        (λ not. ap (λ (y : DraftState). places_of k.geom (drafted y m) number) (keeps.same not.0 not.1)
        ∙ ap places_or_none ((node_kept k.geom sound.live (drafted d m) (drafted f m) number geom.whole_blocks from upto sound.blocks table_same).own ∙ used)
        ∙ sym (old_places not.0 not.1))
        stored_or

    -- and those of the other nodes are as before
    pub other_places : (l : ℕ) → l ≢ number → places_of k.geom (drafted e m) l ≡ places_of k.geom (drafted d m) l
    other_places l other = ⊎_elim (λ grew. (node_places k.geom (drafted d m) (drafted e m) number (used_of new) (stored grew).node_is).others l other)
        (λ not. ap (λ (y : DraftState). places_of k.geom (drafted y m) l) (keeps.same not.0 not.1)
        ∙ (node_places k.geom (drafted d m) (drafted f m) number (used_node k.geom (drafted d m) number) (node_kept k.geom sound.live (drafted d m) (drafted f m) number geom.whole_blocks from upto sound.blocks table_same)).others l other)
        stored_or

    pub file_size : (x : FileNode) → files_of k.geom (drafted d m) number ≡ Some x → (length x.bytes ≡ o.size) × (x.kind ≡ o.kind)
    file_size x at =
        let is = its_file k.geom (drafted d m) number x old (sym used) at in
        (ap (λ (y : FileNode). length y.bytes) is ∙ used_length k.geom sound.live (drafted d m) number old sound.blocks used ∙ tells_old, ap (λ (y : FileNode). y.kind) is)
