-- A draft in which blocks were freed that no node has, and nothing else was done.
use Rattle.std.proofs.Common.{◌≡◌, ◌≢◌, ◌⊎◌, inl, inr, ℕ, ◌%◌, ◌<◌, ◌≤◌, Bool, true, false, not, ◌&&◌, ◌||◌, if◌then◌else◌, List, All, length, take, drop, Option, Some, None, is_some, nat_lt, option_map, refl, sym, ap, subst, ◌∙◌, arith}
use Rattle.std.specs.List.{AllPairs}
use Rattle.std.proofs.lemmas.Bool.{false≢true, false_from_ne_true, lt-ltb, or_left, or_right}
use Rattle.std.proofs.lemmas.Bool.Decides.{nat_tests}
use Rattle.std.proofs.lemmas.Option.{none-some}
use Rattle.base_types.specs.Runs.{run_places}
use Rattle.base_types.specs.Seal.{Blocks}
use Rattle.base_types.specs.Layouts.{node_byte}
use Rattle.layout_geometry.specs.Geometry.{Geometry, data_start}
use Rattle.layout_bytes.specs.declared.node.Node.{Node}
use Rattle.layout_bytes.specs.Bitmap.{is_set}
use Rattle.layout_bytes.specs.Bytes.{are_zeros}
use Rattle.layout_bytes.specs.Node.{content_of, node_bytes, node_of, node_size}
use Rattle.engine_blocks.specs.Crashes.{IsTold}
use Rattle.engine_blocks.specs.Puts.{IsData}
use Rattle.engine_blocks.specs.Running.{HasNoBare, has}
use Rattle.engine_blocks.specs.State.{State}
use Rattle.crash_stands.specs.Files.{file_of, files_of, joined, used_node}
use Rattle.crash_stands.specs.Stands.{HasBlock}
use Rattle.fs_files.specs.declared.changes.Changed.{Changed}
use Rattle.fs_files.specs.Calls.{places_of, places_or_none}
use Rattle.fs_files.specs.Drafts.{DraftState, FreesBlocks, begun_beside, change_of, drafted}
use Rattle.fs_files.specs.Nodes.{node_block}
use Rattle.fs_files.specs.Shared.{is_kept}
use Rattle.fs_files.specs.Sound.{AreApartFrom, AreSoundBeside, FitsBooks, IsSoundDraft}
use Rattle.fs_files.proofs.drafts.Lists.{each_of, none_of_table}
use Rattle.fs_files.proofs.frames.Begins.{begun_fits, had_by, had_has, is_had, live_from}
use Rattle.fs_files.proofs.frames.Cells.{block_below, same_node}
use Rattle.fs_files.proofs.frames.Places.{all_of, has_block, joined_same}
use Rattle.fs_files.proofs.frames.Rules.{frees_filled, frees_fits, frees_marks, frees_others}

-- it fits the bookkeeping
pub freeing_fits : (s : State) (kept bs : List ℕ) (d : DraftState) → HasNoBare s.books.running → All (IsData s.books.geom) bs → FreesBlocks bs (begun_beside kept) d → FitsBooks s.books d
freeing_fits s kept bs d none inside frees = frees_fits s.books bs (begun_beside kept) d frees inside (begun_fits s.books kept none)

abbrev none_changed : Option Changed
none_changed = None

-- no block has new bytes
pub freeing_none : (kept bs : List ℕ) (d : DraftState) (b : ℕ) → FreesBlocks bs (begun_beside kept) d → (change_of d.changed b ≡ None) × (change_of d.fresh b ≡ None)
freeing_none kept bs d b frees = (frees.changed b ∙ either (has bs b), frees.fresh b ∙ either (has bs b))
  where
    either : (t : Bool) → (if t then none_changed else none_changed) ≡ none_changed
    either true = refl
    either false = refl

marks_are : (set live kept freed : Bool) → (set ≡ true → (live ≡ true) ⊎ ((kept || freed) ≡ true)) → ((live ≡ true) ⊎ ((kept || freed) ≡ true) → set ≡ true)
    → (freed ≡ true → live ≡ true → ⊥) → (freed ≡ true → kept ≡ false) → (set && not freed) ≡ (live || kept)
marks_are set live kept freed to from bare alone = grind (arith, nat_tests)

module _ (s : State) (kept bs : List ℕ) (d : DraftState) (whole : s.books.geom.i % 4 ≡ 0) (apart : AreApartFrom s.books.geom s.map kept bs) (inside : All (IsData s.books.geom) bs) (frees : FreesBlocks bs (begun_beside kept) d) where
  abbrev g : Geometry
  g = s.books.geom

  abbrev m : Blocks
  m = s.map

  abbrev n : Blocks
  n = drafted d s.map

  unfreed : (b : ℕ) → has bs b ≡ false → n b ≡ m b
  unfreed b out = frees_others s.books bs (begun_beside kept) d frees m b out

  -- a block that a node has isn't freed
  stays : (k i b : ℕ) → HasBlock g m k i b → has bs b ≡ false
  stays k i b h = false_from_ne_true (has bs b) (λ is. apart.bare k i b is h)

  -- The nodes are the same, and so are their blocks.

  table_same : (b : ℕ) → b < data_start g → n b ≡ m b
  table_same b low = unfreed b (none_of_table g bs b inside low)

  bytes_same : (l : ℕ) → 1 ≤ l → l ≤ g.i → node_bytes g n l ≡ node_bytes g m l
  bytes_same l from upto = ap (λ xs. take (node_size g.layout) (drop (node_byte g.layout l) xs)) (table_same (node_block g l) (block_below g l whole from upto))

  pub freeing_node : (l : ℕ) → used_node g n l ≡ used_node g m l
  freeing_node l = same_node g m n l (bytes_same l)

  joined_now : (l : ℕ) (node : Node) → used_node g m l ≡ Some node → joined n (run_places node.runs) ≡ joined m (run_places node.runs)
  joined_now l node used = joined_same m n (run_places node.runs) (λ b is. let at = has_block g m l node used b is in unfreed b (stays l at.0 b at.1))

  pub freeing_files : (l : ℕ) → files_of g n l ≡ files_of g m l
  freeing_files l = ap (option_map (file_of g.layout n)) (freeing_node l) ∙ its (used_node g m l) refl
    where
      its : (o : Option Node) → used_node g m l ≡ o → option_map (file_of g.layout n) o ≡ option_map (file_of g.layout m) o
      its None used = refl
      its (Some node) used = ap (λ xs. Some (record { kind = node.kind; links = node.links; bytes = take (content_of g.layout node.kind node.size) xs })) (joined_now l node used)

  pub freeing_places : (l : ℕ) → places_of g n l ≡ places_of g m l
  freeing_places l = ap places_or_none (freeing_node l)

  was : (k i b : ℕ) → HasBlock g n k i b → HasBlock g m k i b
  was k i b h = record { node = h.node; is_node = sym (freeing_node k) ∙ h.is_node; place = h.place }

  is_now : (k i b : ℕ) → HasBlock g m k i b → HasBlock g n k i b
  is_now k i b h = record { node = h.node; is_node = freeing_node k ∙ h.is_node; place = h.place }

  -- The draft is sound.
  pub freeing_sound : data_start g ≤ g.n → IsTold s → AreSoundBeside g (λ b. is_kept kept b || has bs b) m → IsSoundDraft s.books m d
  freeing_sound room told sound = record {
    live = λ b. is_had g m b g.i;
    blocks = record {
      table = λ b low high. ap length (table_same b high) ∙ sound.whole b (live_from g m b (omega (arith, low)) (omega (arith, high, room)) (or_left (nat_lt b (data_start g)) (is_set g m b) (lt-ltb b (data_start g) high)));
      «data» = λ b low high is.
          let r = had_has g m b g.i is in
          ap length (unfreed b (stays r.0 r.1 b r.2)) ∙ sound.whole b (live_from g m b (omega (arith, low)) high (or_right (nat_lt b (data_start g)) (is_set g m b) ((sound.marked b low high).1 (inl r))));
      own = λ k l i j b first second. sound.own k l i j b (was k i b first) (was l j b second);
      marked = λ b low high. (λ is. let r = had_has g m b g.i is in (r.0, r.1, is_now r.0 r.1 b r.2), λ r. had_by g m b (r.0, r.1, was r.0 r.1 b r.2));
      free = λ k from upto none. bytes_same k from upto ∙ sound.free k from upto (ap (node_of g) (sym (bytes_same k from upto)) ∙ none);
      tail = λ k node used dir. let before = sym (freeing_node k) ∙ used in ap (λ xs. are_zeros (drop (content_of g.layout node.kind node.size) xs)) (joined_now k node before) ∙ sound.tail k node before dir;
    };
    bits = λ b low high.
        frees_marks s.books bs (begun_beside kept) d frees s.books.marked b
        ∙ ap (λ t. t && not (has bs b)) (told.bits b high)
        ∙ marks_are (is_set g m b) (is_had g m b g.i) (is_kept kept b) (has bs b)
        (λ is. told_by b ((sound.marked b low high).0 is)) (λ is. (sound.marked b low high).1 (by_told b is))
        (λ freed is. let r = had_has g m b g.i is in apart.bare r.0 r.1 b freed r.2) (unkept b)
        ∙ ap (λ ks. is_had g m b g.i || is_kept ks b) (sym frees.kept);
    untouched = λ b keep.
        let one = keeps b keep in
        let at = sound.inside b (or_left (is_kept kept b) (has bs b) one) in (
          at,
          told.bits b at.below ∙ (sound.marked b at.from at.below).1 (inr (or_left (is_kept kept b) (has bs b) one)),
          frees_filled s.books bs (begun_beside kept) d frees b (false_from_ne_true (has bs b) (λ is. false≢true (sym (unkept b is) ∙ one))),
        );
    shared = λ b k i node keep h used. sound.shared b k i node (or_left (is_kept kept b) (has bs b) (keeps b keep)) (was k i b h) (sym (freeing_node k) ∙ used);
    changed = λ b c e. absurd (none-some c (sym (freeing_none kept bs d b frees).0 ∙ e));
    fresh = λ b c e. absurd (none-some c (sym (freeing_none kept bs d b frees).1 ∙ e));
    apart = λ b is. absurd (false≢true (ap is_some (sym (freeing_none kept bs d b frees).1) ∙ is));
    freed = subst (All (λ b. (has d.taken b || s.books.marked b) ≡ true)) (sym frees.freed) (all_of (λ b. (has d.taken b || s.books.marked b) ≡ true) bs (λ b is.
        let at = each_of (IsData g) bs inside b is in
        or_right (has d.taken b) (s.books.marked b) (told.bits b at.below ∙ (sound.marked b at.from at.below).1 (inr (or_right (is_kept kept b) (has bs b) is)))));
    once = subst (AllPairs (λ a b. a ≢ b)) (sym frees.freed) apart.once;
  }
    where
      keeps : (b : ℕ) → is_kept d.kept b ≡ true → is_kept kept b ≡ true
      keeps b keep = ap (λ ks. is_kept ks b) (sym frees.kept) ∙ keep

      unkept : (b : ℕ) → has bs b ≡ true → is_kept kept b ≡ false
      unkept b is = each_of (λ c. is_kept kept c ≡ false) bs apart.unkept b is

      told_by : (b : ℕ) → ((k : ℕ) × (i : ℕ) × HasBlock g m k i b) ⊎ ((is_kept kept b || has bs b) ≡ true) → (is_had g m b g.i ≡ true) ⊎ ((is_kept kept b || has bs b) ≡ true)
      told_by b (inl r) = inl (had_by g m b r)
      told_by b (inr is) = inr is

      by_told : (b : ℕ) → (is_had g m b g.i ≡ true) ⊎ ((is_kept kept b || has bs b) ≡ true) → ((k : ℕ) × (i : ℕ) × HasBlock g m k i b) ⊎ ((is_kept kept b || has bs b) ≡ true)
      by_told b (inl is) = inl (had_has g m b g.i is)
      by_told b (inr is) = inr is
