-- The test tells the blocks that are covered and live after the batch, and no others.
use Rattle.std.proofs.Common.{◌≡◌, ⊎_elim, ℕ, suc, ◌+◌, ◌<◌, ◌&&◌, ◌||◌, nat_le, nat_lt, Bool, true, false, if◌then◌else◌, List, [], ◌∷◌, ◌++◌, length, slice_get, Option, Some, None, refl, sym, ◌∙◌, ap, arith, length-append, length-drop, length-take, take, drop}
use Rattle.std.proofs.lemmas.Bool.{false≢true, cases_lt, lt-ltb, cond-true, cond-false}
use Rattle.std.proofs.lemmas.List.{take-append-drop}
use Rattle.base_types.specs.Seal.{Blocks}
use Rattle.disk_contract.specs.declared.event.Event.{Event}
use Rattle.layout_geometry.specs.Geometry.{Geometry, data_start, bitmap_start}
use Rattle.layout_bytes.specs.Bitmap.{is_set}
use Rattle.layout_journal.specs.Run.{names_block, or_else, is_live}
use Rattle.crash_argument.specs.Ledger.{Ledger, WrittenRecord, IsConsistentWith, payload_in, cover}
use Rattle.crash_argument.specs.LastWrites.{FreshAreNew}
use Rattle.crash_argument.specs.HomeTest.{is_one_of, goes_after, goes_home, AreFreedBy}
use Rattle.crash_argument.specs.PipelineData.{PipelineData, DataAgree, NeedsCheckpoint}
use Rattle.crash_argument.proofs.log.Lists.{get_front, get_behind, get_drop}
use Rattle.crash_argument.proofs.pipe.InPlace.{numbered}
use Rattle.std.proofs.lemmas.Option.{none-some}

-- all of these bytes, where a block is live, and nothing else
abbrev where_live : Bool → Option (List ℕ) → Option (List ℕ)
where_live live c = if live then c else None

where_none : (v : Bool) → where_live v None ≡ None
where_none true = refl
where_none false = refl

-- a block before the data is live in every map, or in none
table_lives : (g : Geometry) (m q : Blocks) (b : ℕ) → b < data_start g → is_live g m b ≡ is_live g q b
table_lives g m q b low = ap (λ v. nat_le (bitmap_start g) b && (nat_lt b g.n && (v || is_set g m b))) (lt-ltb b (data_start g) low) ∙ sym (ap (λ v. nat_le (bitmap_start g) b && (nat_lt b g.n && (v || is_set g q b))) (lt-ltb b (data_start g) low))

module _ (l : Ledger) (new : FreshAreNew l) (freed : List (List ℕ)) (are : AreFreedBy l freed) (b : ℕ) where
  abbrev live : ℕ → Bool
  live n = is_live l.geom (l.map_before n) b

  abbrev covered : Option (List ℕ) → WrittenRecord → Option (List ℕ)
  covered c w = or_else (payload_in w b) (if names_block w.says.fresh b then None else c)

  -- one record more
  one : (k : ℕ) (w : WrittenRecord) (f : List ℕ) (g c : Option (List ℕ)) → slice_get l.records k ≡ Some w → slice_get freed k ≡ Some f → g ≡ where_live (live w.says.number) c
      → goes_after g w f b ≡ where_live (live (w.says.number + 1)) (covered c w)
  one k w f g c is at before = by_free (is_one_of b f) refl
    where
      by_live : is_one_of b f ≡ false → payload_in w b ≡ None → names_block w.says.fresh b ≡ false → (u v : Bool) → live (w.says.number + 1) ≡ u → live w.says.number ≡ v → where_live v c ≡ where_live u c
      by_live e none fresh true true now was = refl
      by_live e none fresh true false now was = absurd (false≢true (sym was ∙ new.kept k b w is none fresh now))
      by_live e none fresh false false now was = refl
      by_live e none fresh false true now was = ⊎_elim (λ low. absurd (false≢true (sym now ∙ table_lives l.geom (l.map_before (w.says.number + 1)) (l.map_before w.says.number) b low ∙ was)))
          (λ far. absurd (false≢true (sym e ∙ are.killed k b w f is at far was now))) (cases_lt b (data_start l.geom))

      by_fresh : is_one_of b f ≡ false → payload_in w b ≡ None → (v : Bool) → names_block w.says.fresh b ≡ v → (if v then None else g) ≡ where_live (live (w.says.number + 1)) (if v then None else c)
      by_fresh e none true fresh = sym (where_none (live (w.says.number + 1)))
      by_fresh e none false fresh = before ∙ by_live e none fresh (live (w.says.number + 1)) (live w.says.number) refl refl

      by_paid : is_one_of b f ≡ false → (o : Option (List ℕ)) → payload_in w b ≡ o → or_else o (if names_block w.says.fresh b then None else g) ≡ where_live (live (w.says.number + 1)) (or_else o (if names_block w.says.fresh b then None else c))
      by_paid e (Some y) paid = sym (cond-true (live (w.says.number + 1)) (Some y) None (new.paid k b w y is paid))
      by_paid e None paid = by_fresh e paid (names_block w.says.fresh b) refl

      by_free : (v : Bool) → is_one_of b f ≡ v → (if v then None else or_else (payload_in w b) (if names_block w.says.fresh b then None else g)) ≡ where_live (live (w.says.number + 1)) (covered c w)
      by_free true e = sym (cond-false (live (w.says.number + 1)) (covered c w) None (are.dead k b w f is at e))
      by_free false e = by_paid e (payload_in w b) refl

  -- and all of a row of records, the first of which is at place k of the ledger's
  all : (ws : List WrittenRecord) (fs : List (List ℕ)) (k n : ℕ) (g c : Option (List ℕ)) → length ws ≡ length fs → ((i : ℕ) (w : WrittenRecord) → slice_get ws i ≡ Some w → (slice_get l.records (k + i) ≡ Some w) × (w.says.number ≡ n + i))
      → ((i : ℕ) (f : List ℕ) → slice_get fs i ≡ Some f → slice_get freed (k + i) ≡ Some f) → g ≡ where_live (live n) c → goes_home g ws fs b ≡ where_live (live (n + length ws)) (cover c ws b)
  all [] [] k n g c same members lists before = before ∙ ap (λ m. where_live (live m) c) (omega arith)
  all [] (f ∷ fs) k n g c same members lists before = absurd (omega (arith, same))
  all (w ∷ ws) [] k n g c same members lists before = absurd (omega (arith, same))
  all (w ∷ ws) (f ∷ fs) k n g c same members lists before =
      let here = members 0 w refl in
      let number : w.says.number ≡ n = here.1 ∙ sym (omega arith) in
      let at = ap (slice_get l.records) (omega arith) ∙ here.0 in
      let own = ap (slice_get freed) (omega arith) ∙ lists 0 f refl in
      all ws fs (k + 1) (n + 1) (goes_after g w f b) (covered c w) (omega (arith, same)) (λ i v is. let m = members (suc i) v is in (ap (slice_get l.records) (omega arith) ∙ m.0, m.1 ∙ sym (omega arith))) (λ i e is. ap (slice_get freed) (omega arith) ∙ lists (suc i) e is)
      (one k w f g c at own (before ∙ ap (λ m. where_live (live m) c) (sym number)) ∙ ap (λ m. where_live (live (m + 1)) (covered c w)) number)
      ∙ ap (λ m. where_live (live m) (cover (covered c w) ws b)) (omega arith)

-- the batch's blocks, while it ends with the last sure record
module _ (base : Blocks) (log : List Event) (l : Ledger) (keeps : IsConsistentWith base log l) (p : PipelineData) (k : DataAgree base log l p) (freed : List (List ℕ)) (are : AreFreedBy l freed) (ends : l.header.start + p.placed + p.batch ≡ l.header.sure + 1) (b : ℕ) where
  tested : goes_home None k.batch (take p.batch (drop p.placed freed)) b ≡ where_live (is_live l.geom (l.map_before (l.header.sure + 1)) b) (cover None k.batch b)
  tested = all l k.new freed are b k.batch (take p.batch (drop p.placed freed)) p.placed (l.header.start + p.placed) None None (size ends) members lists (sym (where_none (is_live l.geom (l.map_before (l.header.start + p.placed)) b)))
      ∙ ap (λ n. where_live (is_live l.geom (l.map_before n) b) (cover None k.batch b)) (omega (arith, ends, k.batch_is))
    where
      size : l.header.start + p.placed + p.batch ≡ l.header.sure + 1 → length k.batch ≡ length (take p.batch (drop p.placed freed))
      size e = omega (arith, k.batch_is, k.placed_is, are.count, length-take p.batch (drop p.placed freed), length-drop p.placed freed, ap (λ (ws : List WrittenRecord). length ws) k.is_batch.split, length-append k.placed (k.batch ++ k.rest), length-append k.batch k.rest)

      members : (i : ℕ) (w : WrittenRecord) → slice_get k.batch i ≡ Some w → (slice_get l.records (p.placed + i) ≡ Some w) × (w.says.number ≡ l.header.start + p.placed + i)
      members i w is =
          let at : slice_get l.records (length k.placed + i) ≡ Some w = ap (λ (ws : List WrittenRecord). slice_get ws (length k.placed + i)) k.is_batch.split ∙ get_behind k.placed (k.batch ++ k.rest) i ∙ get_front k.batch k.rest i w is in
          let here : slice_get l.records (p.placed + i) ≡ Some w = ap (λ n. slice_get l.records (n + i)) (sym k.placed_is) ∙ at in
          (here, omega (arith, numbered base log l keeps k.new (p.placed + i) w here))

      lists : (i : ℕ) (f : List ℕ) → slice_get (take p.batch (drop p.placed freed)) i ≡ Some f → slice_get freed (p.placed + i) ≡ Some f
      lists i f is = sym (get_drop p.placed freed i) ∙ ap (λ (l : List (List ℕ)). slice_get l i) (sym (take-append-drop p.batch (drop p.placed freed))) ∙ get_front (take p.batch (drop p.placed freed)) (drop p.batch (drop p.placed freed)) i f is

  -- what the test finds has to go home
  pub test_needs : (x : List ℕ) → goes_home None k.batch (take p.batch (drop p.placed freed)) b ≡ Some x → NeedsCheckpoint l k.batch b x
  test_needs x is = by (is_live l.geom (l.map_before (l.header.sure + 1)) b) refl (sym tested ∙ is)
    where
      by : (v : Bool) → is_live l.geom (l.map_before (l.header.sure + 1)) b ≡ v → where_live (is_live l.geom (l.map_before (l.header.sure + 1)) b) (cover None k.batch b) ≡ Some x → NeedsCheckpoint l k.batch b x
      by true on e = record { covered = sym (cond-true (is_live l.geom (l.map_before (l.header.sure + 1)) b) (cover None k.batch b) None on) ∙ e; live = on }
      by false off e = absurd (none-some x (sym (cond-false (is_live l.geom (l.map_before (l.header.sure + 1)) b) (cover None k.batch b) None off) ∙ e))

  -- and it finds all that has to
  pub needs_test : (x : List ℕ) → NeedsCheckpoint l k.batch b x → goes_home None k.batch (take p.batch (drop p.placed freed)) b ≡ Some x
  needs_test x needs = tested ∙ cond-true (is_live l.geom (l.map_before (l.header.sure + 1)) b) (cover None k.batch b) None needs.live ∙ needs.covered
