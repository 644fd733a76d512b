-- A write into a node that was loaded, from the state before it to the one after it.
use Rattle.std.proofs.Common.{◌≡◌, ◌⊎◌, ℕ, ◌+◌, ◌^◌, ◌<◌, ◌≤◌, if◌then◌else◌, Bool, true, false, IsTrue, List, [], ◌∷◌, ◌++◌, length, drop, max, min, All, Some, is_some, refl, sym, ap, subst, ◌∙◌, arith, ⊎_elim}
use Rattle.std.proofs.lemmas.Bool.{cases_Bool, or_cases}
use Rattle.std.proofs.lemmas.List.{length-take}
use Rattle.base_types.specs.Seal.{Blocks}
use Rattle.base_types.specs.Runs.{run_places}
use Rattle.layout_geometry.specs.Geometry.{Geometry, IsGeometry}
use Rattle.layout_extent.specs.Runs.{AreTidy, runs_of, stretches}
use Rattle.layout_bytes.specs.declared.node.NodeKind.TheVariants.{Dir}
use Rattle.engine_blocks.specs.Running.{has}
use Rattle.engine_blocks.specs.State.{Bookkeeping, State, reusable_blocks, IsReusable}
use Rattle.crash_stands.specs.Files.{FileNode, files_of, used_node}
use Rattle.fs_files.specs.declared.nodes.OpenNode.{OpenNode}
use Rattle.fs_files.specs.Calls.{places_of, is_dir, written_blocks, written_from, ChangesAmong, Grows}
use Rattle.fs_files.specs.Bytes.{met}
use Rattle.fs_files.specs.Content.{HasNewBytes, WritesContent}
use Rattle.fs_files.specs.Drafts.{DraftState, ChangesSome, change_of, drafted}
use Rattle.fs_files.specs.Effects.{LooksAndSettles}
use Rattle.fs_files.specs.Growing.{places_after, taken_by}
use Rattle.fs_files.specs.Nodes.{class_of, node_block, node_of_open, AreWholeSlots, IsOpen}
use Rattle.fs_files.specs.Shared.{is_kept}
use Rattle.fs_files.specs.Sound.{FitsBooks, IsSoundDraft, IsDraftOf}
use Rattle.fs_files.specs.Writing.{KeepsSize, WritesFile, WritesOpen}
use Rattle.fs_files.proofs.bytes.Places.{met_in}
use Rattle.fs_files.proofs.drafts.Lists.{each_of}
use Rattle.fs_files.proofs.frames.Carry.{draft_settles}
use Rattle.fs_files.proofs.frames.Puts.{put_changes}
use Rattle.fs_files.proofs.calling.Among.{fresh_of, may_change, kept_known, met_front}
use Rattle.fs_files.proofs.calling.Came.{news}
use Rattle.fs_files.proofs.calling.Stores as stores
use Rattle.fs_files.proofs.calling.Writes as writes
use Rattle.fs_files.proofs.growing.Placed.{met_old}

drop_behind : (xs ys : List ℕ) → drop (length xs) (xs ++ ys) ≡ ys
drop_behind [] ys = refl
drop_behind (x ∷ xs) ys = drop_behind xs ys

-- storing the node takes and frees nothing
record StoresOnly (d e : DraftState) : Type 0 where
  taken : e.taken ≡ d.taken
  freed : e.freed ≡ d.freed
  fresh : length e.fresh ≡ length d.fresh

module _ (tells : Bool) (k : Bookkeeping) (m : Blocks) (number off : ℕ) (ys : List ℕ) (o p : OpenNode) (d f e : DraftState) (table : List ℕ) (geom : IsGeometry k.geom) (opened : IsOpen k.geom o) (fits : FitsBooks k d) (some : (0 < length ys) ⊎ (o.size < off)) (w : WritesOpen tells k m off ys o p d f)
    (from : 1 ≤ number) (upto : number ≤ k.geom.i) (keeps : KeepsSize k.geom number (off + length ys) (taken_by (is_kept d.kept) (min off o.size) (off + length ys) o.places) p table f e) where
  stores_only : StoresOnly f e
  stores_only = ⊎_elim (λ stored. let puts = keeps.puts stored in record { taken = puts.taken; freed = puts.freed; fresh = puts.fresh_len })
      (λ not. subst (StoresOnly f) (sym (keeps.same not.0 not.1)) (record { taken = refl; freed = refl; fresh = refl }))
      (stores.stored_or tells k m number off ys o p d f e table geom opened fits some w from upto keeps)

  module _ (told : IsTrue tells) (sound : IsSoundDraft k m d) (free : (b : ℕ) → IsReusable k.geom k.reusable b → k.marked b ≡ false)
      (used : used_node k.geom (drafted d m) number ≡ Some (node_of_open k.geom.layout o)) (back : (xs : List ℕ) → run_places (runs_of xs) ≡ xs) (count : (xs : List ℕ) → length (runs_of xs) ≡ stretches xs) (tidy : (xs : List ℕ) → AreTidy (runs_of xs))
      (at_table : table ≡ drafted d m (node_block k.geom number)) (few : off + length ys ≤ 2 ^ 30) (slots : o.kind ≡ Dir → AreWholeSlots k.geom.layout (max o.size (off + length ys))) (changes : ChangesSome e) where
    abbrev kept : ℕ → Bool
    kept = is_kept d.kept

    abbrev hi : ℕ
    hi = off + length ys

    abbrev extra : List ℕ
    extra = news k (min off o.size) (off + length ys) o d

    abbrev before : List ℕ
    before = places_of k.geom (drafted d m) number

    abbrev after : List ℕ
    after = places_of k.geom (drafted e m) number

    before_is : before ≡ o.places
    before_is = stores.places_before tells k m number off ys o p d f e table geom opened fits some w from upto keeps told sound free used back count tidy at_table few slots

    after_is : after ≡ p.places
    after_is = stores.places_now tells k m number off ys o p d f e table geom opened fits some w from upto keeps told sound free used back count tidy at_table few slots

    its_places : p.places ≡ places_after kept (min off o.size) hi o.places (reusable_blocks k)
    its_places = writes.its_places tells k m number off ys o p d f geom opened fits some w

    many : length extra ≡ taken_by kept (min off o.size) hi o.places
    many = (writes.its tells k m number off ys o p d f geom opened fits some w).many

    grew_o : (x : FileNode) → x.kind ≡ o.kind → Grows k x o.places p.places (min off o.size) hi d e
    grew_o x kind =
        let takes = (writes.its tells k m number off ys o p d f geom opened fits some w).takes in
        let wrote = writes.all_wrote tells k m number off ys o p d f geom opened fits some w in
        let step : length e.fresh ≤ length d.fresh + (if is_dir o.kind then 0 else length extra) = omega (arith, stores_only.fresh, wrote.fresh_len, takes.fresh_len, fresh_of o.kind (length extra)) in
        record {
          enough = omega (arith, many, length-take (taken_by kept (min off o.size) hi o.places) (reusable_blocks k));
          taken = stores_only.taken ∙ wrote.taken ∙ takes.taken;
          placed = its_places;
          runs = stores.stretched tells k m number off ys o p d f e table geom opened fits some w from upto keeps told sound free used back count tidy at_table few slots;
          freed = stores_only.freed ∙ wrote.freed ∙ takes.freed;
          fresh = subst (λ t. length e.fresh ≤ length d.fresh + (if is_dir t then 0 else taken_by kept (min off o.size) hi o.places)) (sym kind) (subst (λ c. length e.fresh ≤ length d.fresh + (if is_dir o.kind then 0 else c)) many step);
          changes = changes;
        }

    grew : (x : FileNode) → files_of k.geom (drafted d m) number ≡ Some x → Grows k x before after (min off (length x.bytes)) hi d e
    grew x at =
        let is = stores.file_size tells k m number off ys o p d f e table geom opened fits some w from upto keeps told sound free used back count tidy at_table few slots x at in
        subst (λ n. Grows k x before after (min off n) hi d e) (sym is.0)
        (subst (λ ps. Grows k x ps after (min off o.size) hi d e) (sym before_is) (subst (λ ps. Grows k x o.places ps (min off o.size) hi d e) (sym after_is) (grew_o x is.1)))

    alone : is_dir o.kind ≡ true → All (λ b. is_kept d.kept b ≡ false) o.places
    alone dir = writes.dir_alone tells k m number off ys o p d f geom opened fits some w told sound free used back dir

    -- a directory's new blocks stand behind those that it had
    behind : is_dir o.kind ≡ true → (b : ℕ) → has extra b ≡ true → has (drop (length o.places) p.places) b ≡ true
    behind dir b is =
        ap (λ xs. has (drop (length o.places) xs) b) (writes.dir_placed tells k m number off ys o p d f geom opened fits some w dir (alone dir)) ∙ ap (λ xs. has xs b) (drop_behind o.places extra) ∙ is

    -- where the bytes begin that were written
    abbrev start : ℕ
    start = if is_dir o.kind then off else min off o.size

    start_dir : is_dir o.kind ≡ true → off ≡ start
    start_dir dir = sym (ap (λ t. if t then off else min off o.size) dir)

    start_file : is_dir o.kind ≡ false → min off o.size ≡ start
    start_file not_dir = sym (ap (λ t. if t then off else min off o.size) not_dir)

    wrote_from : WritesContent (class_of o.kind) (met start hi p.places) (writes.its tells k m number off ys o p d f geom opened fits some w).base f
    wrote_from = ⊎_elim (λ dir. subst (λ n. WritesContent (class_of o.kind) (met n hi p.places) (writes.its tells k m number off ys o p d f geom opened fits some w).base f) (start_dir dir)
        (writes.dir_wrote tells k m number off ys o p d f geom opened fits some w dir (alone dir)))
        (λ file. subst (λ n. WritesContent (class_of o.kind) (met n hi p.places) (writes.its tells k m number off ys o p d f geom opened fits some w).base f) (start_file file)
        (writes.all_wrote tells k m number off ys o p d f geom opened fits some w))
        (cases_Bool (is_dir o.kind))

    stays : (b : ℕ) → has (met start hi p.places) b ≡ true → has extra b ≡ false → (has (met start hi o.places) b ≡ true) × (kept b ≡ false)
    stays b is out = ⊎_elim (λ dir.
        let front = met_front start hi o.places extra b (ap (λ xs. has (met start hi xs) b) (sym (writes.dir_placed tells k m number off ys o p d f geom opened fits some w dir (alone dir))) ∙ is) out in
        (front, each_of (λ c. kept c ≡ false) o.places (alone dir) b (met_in start hi o.places b front)))
        (λ file. subst (λ n. (has (met n hi o.places) b ≡ true) × (kept b ≡ false)) (start_file file)
        (met_old kept (min off o.size) hi o.places p.places extra its_places many b (writes.less tells k m number off ys o p d f geom opened fits some w)
        (ap (λ n. has (met n hi p.places) b) (start_file file) ∙ is) out))
        (cases_Bool (is_dir o.kind))

    among_o : ChangesAmong (may_change k.geom kept number o.kind o.places (drop (length o.places) p.places) o.size start (min off o.size) hi) d e
    among_o = kept_known k.geom kept number start (min off o.size) hi o p extra (drop (length o.places) p.places) d (writes.its tells k m number off ys o p d f geom opened fits some w).base f e table keeps
        (ap (λ (q : OpenNode). q.size) (writes.its tells k m number off ys o p d f geom opened fits some w).node) opened.used
        wrote_from (writes.its tells k m number off ys o p d f geom opened fits some w).takes stays behind

    among : (x : FileNode) → files_of k.geom (drafted d m) number ≡ Some x → ChangesAmong (written_blocks k.geom kept number x before (drop (length before) after) off hi) d e
    among x at =
        let is = stores.file_size tells k m number off ys o p d f e table geom opened fits some w from upto keeps told sound free used back count tidy at_table few slots x at in
        let all : may_change k.geom kept number x.kind before (drop (length before) after) (length x.bytes) (written_from x off) (min off (length x.bytes)) hi
        ≡ may_change k.geom kept number o.kind o.places (drop (length o.places) p.places) o.size start (min off o.size) hi
        = (λ i. may_change k.geom kept number (is.1 i) (before_is i) (drop (length (before_is i)) (after_is i)) (is.0 i) (if is_dir (is.1 i) then off else min off (is.0 i)) (min off (is.0 i)) hi) in
        subst (λ bs. ChangesAmong bs d e) (sym all) among_o

    pub file_written : WritesFile k m number off ys d e
    file_written = record {
      file = (stores.kept_sound tells k m number off ys o p d f e table geom opened fits some w from upto keeps told sound free used back count tidy at_table few slots).1;
      grows = grew;
      others = stores.other_places tells k m number off ys o p d f e table geom opened fits some w from upto keeps told sound free used back count tidy at_table few slots;
      among = among;
    }

  -- Some block changed: the node's, where it was stored, else one in which bytes were written; where they are new content some other had changed before.

  new_changes : ((b : ℕ) → is_some (change_of d.fresh b) ≡ true → ChangesSome d) → w.grown ≡ d → HasNewBytes f → ChangesSome f
  new_changes was same (b, new) =
      let wrote = writes.grown_wrote tells k m number off ys o p d f geom opened fits some w in
      ⊎_elim (λ is. (b, is))
      (λ is. let old = was b (ap (λ (x : DraftState). is_some (change_of x.fresh b)) (sym same) ∙ sym (wrote.fresh_keys b) ∙ is) in
      (old.0, wrote.stays old.0 (ap (λ (x : DraftState). is_some (change_of x.changed old.0)) same ∙ old.1)))
      (or_cases (is_some (change_of f.changed b)) (is_some (change_of f.fresh b)) new)

  size_same : p.size ≡ o.size
  size_same = ap (λ (q : OpenNode). q.size) (writes.its tells k m number off ys o p d f geom opened fits some w).node

  pub kept_changes : ((b : ℕ) → is_some (change_of d.fresh b) ≡ true → ChangesSome d) → ChangesSome e
  kept_changes was = ⊎_elim (λ stored. put_changes k k.geom number _ f e refl geom from upto (stores.kept_fits tells k m number off ys o p d f e table geom opened fits some w from upto keeps) (keeps.puts stored))
      (λ not. subst ChangesSome (sym (keeps.same not.0 not.1))
      (new_changes was (w.room.same not.1).1 (w.fills.some (⊎_elim (λ bytes. bytes) (λ past. absurd (omega (arith, past, not.0, size_same))) some))))
      (stores.stored_or tells k m number off ys o p d f e table geom opened fits some w from upto keeps)

-- From one state to the next.

module _ (tells : Bool) (s t : State) (g : Geometry) (number off : ℕ) (ys : List ℕ) (o p : OpenNode) (d f e : DraftState) (table : List ℕ) (here : g ≡ s.books.geom) (geom : IsGeometry g) (opened : IsOpen s.books.geom o) (is : IsDraftOf tells s d) (settles : LooksAndSettles tells false false s t) (some : (0 < length ys) ⊎ (o.size < off))
    (w : WritesOpen tells t.books s.map off ys o p d f) (from : 1 ≤ number) (upto : number ≤ s.books.geom.i) (keeps : KeepsSize g number (off + length ys) (taken_by (is_kept d.kept) (min off o.size) (off + length ys) o.places) p table f e)
    (free : (b : ℕ) → IsReusable t.books.geom t.books.reusable b → t.books.marked b ≡ false)
    (used : IsTrue tells → used_node s.books.geom (drafted d s.map) number ≡ Some (node_of_open s.books.geom.layout o)) (back : (xs : List ℕ) → run_places (runs_of xs) ≡ xs) (count : (xs : List ℕ) → length (runs_of xs) ≡ stretches xs) (tidy : (xs : List ℕ) → AreTidy (runs_of xs))
    (at_table : IsTrue tells → table ≡ drafted d s.map (node_block s.books.geom number)) (few : off + length ys ≤ 2 ^ 30) (slots : IsTrue tells → o.kind ≡ Dir → AreWholeSlots s.books.geom.layout (max o.size (off + length ys))) where
  to : s.books.geom ≡ t.books.geom
  to = sym settles.pipeline.geom

  geom_t : IsGeometry t.books.geom
  geom_t = subst IsGeometry (here ∙ to) geom

  opened_t : IsOpen t.books.geom o
  opened_t = subst (λ (h : Geometry). IsOpen h o) to opened

  moved : IsDraftOf tells t d
  moved = draft_settles tells false false s t d settles is

  upto_t : number ≤ t.books.geom.i
  upto_t = subst (λ (h : Geometry). number ≤ h.i) to upto

  keeps_t : KeepsSize t.books.geom number (off + length ys) (taken_by (is_kept d.kept) (min off o.size) (off + length ys) o.places) p table f e
  keeps_t = subst (λ (h : Geometry). KeepsSize h number (off + length ys) (taken_by (is_kept d.kept) (min off o.size) (off + length ys) o.places) p table f e) (here ∙ to) keeps

  sound_t : IsTrue tells → IsSoundDraft t.books s.map d
  sound_t told = subst (λ (m : Blocks). IsSoundDraft t.books m d) (settles.map told) (moved.sound told)

  used_t : IsTrue tells → used_node t.books.geom (drafted d s.map) number ≡ Some (node_of_open t.books.geom.layout o)
  used_t told = subst (λ (h : Geometry). used_node h (drafted d s.map) number ≡ Some (node_of_open h.layout o)) to (used told)

  table_t : IsTrue tells → table ≡ drafted d s.map (node_block t.books.geom number)
  table_t told = subst (λ (h : Geometry). table ≡ drafted d s.map (node_block h number)) to (at_table told)

  slots_t : IsTrue tells → o.kind ≡ Dir → AreWholeSlots t.books.geom.layout (max o.size (off + length ys))
  slots_t told dir = subst (λ (h : Geometry). AreWholeSlots h.layout (max o.size (off + length ys))) to (slots told dir)

  loaded_changes : ChangesSome e
  loaded_changes = kept_changes tells t.books s.map number off ys o p d f e table geom_t opened_t moved.fits some w from upto_t keeps_t is.content

  pub loaded_draft : IsDraftOf tells t e
  loaded_draft = record {
    fits = stores.kept_fits tells t.books s.map number off ys o p d f e table geom_t opened_t moved.fits some w from upto_t keeps_t;
    sound = λ told. subst (λ (m : Blocks). IsSoundDraft t.books m e) (sym (settles.map told))
        (stores.kept_sound tells t.books s.map number off ys o p d f e table geom_t opened_t moved.fits some w from upto_t keeps_t told (sound_t told) free (used_t told) back count tidy (table_t told) few (slots_t told)).0;
    content = λ b is. loaded_changes;
  }

  pub loaded_kept : e.kept ≡ d.kept
  loaded_kept = stores.kept_kept tells t.books s.map number off ys o p d f e table geom_t opened_t moved.fits some w from upto_t keeps_t

  pub loaded_file : IsTrue tells → WritesFile t.books s.map number off ys d e
  loaded_file told = file_written tells t.books s.map number off ys o p d f e table geom_t opened_t moved.fits some w from upto_t keeps_t told (sound_t told) free (used_t told) back count tidy (table_t told) few (slots_t told) loaded_changes
