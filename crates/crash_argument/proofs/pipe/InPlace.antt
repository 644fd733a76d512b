-- When a block may be written in place: a fresh one that is dead, and a home block that the batch covers.
use Rattle.std.proofs.Common.{◌≡◌, ◌≢◌, inl, ⊎_elim, ℕ, suc, ◌+◌, ◌-◌, ◌<◌, ◌≤◌, true, false, ◌==◌, if◌then◌else◌, IsTrue, List, [], ◌∷◌, ◌++◌, length, drop, slice_get, Option, Some, None, refl, sym, ◌∙◌, ap, subst, arith, length-append, length-drop, append_assoc}
use Rattle.std.proofs.lemmas.Bool.{both_ways, cases_Bool, cond-false}
use Rattle.std.proofs.lemmas.Option.{none-some, slice_get_within}
use Rattle.base_types.specs.Seal.{Blocks}
use Rattle.disk_contract.specs.declared.event.Event.{Event}
use Rattle.disk_contract.specs.Cell.{cell_of}
use Rattle.layout_geometry.specs.Geometry.{bitmap_start}
use Rattle.layout_journal.specs.declared.header.Header.{Header}
use Rattle.layout_journal.specs.declared.entry.Entry.{Entry}
use Rattle.layout_journal.specs.Run.{names_block, or_else, is_live}
use Rattle.crash_argument.specs.Ledger.{Ledger, WrittenRecord, IsConsistentWith, from_start, cover, payload_in}
use Rattle.crash_argument.specs.Steps.{MayWriteInPlace}
use Rattle.crash_argument.specs.LastWrites.{IsDead, FreshAreNew, IsBatch}
use Rattle.crash_argument.proofs.log.Lists.{whole_list, get_front, get_behind, get_drop}
use Rattle.crash_argument.proofs.theorem.Whole.{count_of}
use Rattle.crash_argument.proofs.steps.HeaderSteps.{number_at, cover-parts, leave_or_decide, alone_leaves}
use Rattle.std.proofs.lemmas.List.{drop-append-le}

module _ (base : Blocks) (log : List Event) (l : Ledger) (k : IsConsistentWith base log l) (new : FreshAreNew l) where
  -- the number of the record at an index
  pub numbered : (i : ℕ) (w : WrittenRecord) → slice_get l.records i ≡ Some w → w.says.number ≡ l.header.start + i
  numbered i w is = number_at l.geom.j l.header.start l.header.at (from_start l l.header) i w (k.headers.fits l.header (inl refl)).consecutive (ap (λ (ws : List WrittenRecord). slice_get ws i) (whole_list l) ∙ is)

  -- and the index is within the records
  pub within : (i : ℕ) (w : WrittenRecord) → slice_get l.records i ≡ Some w → i < length l.records
  within i w is = slice_get_within l.records i w is

  -- fresh blocks are dead
  pub dead_may : (block : ℕ) → bitmap_start l.geom ≤ block → IsDead l block → MayWriteInPlace (cell_of base log) l block
  dead_may block high dead = record {
    outside = high;
    dead_or_covered = λ h good bad st split known live. absurd (both_ways _ (dead (h.start + length good) (omega (arith, known, (k.headers.fits l.header (inl refl)).known)) (count_of base log l k h good bad st split)) live);
    not_fresh = λ i j w e is late at same.
        let number = numbered i w is in
        both_ways _ (dead (w.says.number + 1) (omega (arith, late)) (omega (arith, number, within i w is))) (subst (λ b. IsTrue (is_live l.geom (l.map_before (w.says.number + 1)) b)) same (new.live i j w e is late at));
  }

  -- a covered block stays covered where no later record has it fresh
  cover_stays : (ws : List WrittenRecord) (b : ℕ) (x : List ℕ) → ((i : ℕ) (w : WrittenRecord) → slice_get ws i ≡ Some w → names_block w.says.fresh b ≡ false) → (y : List ℕ) × (cover (Some x) ws b ≡ Some y)
  cover_stays [] b x none = (x, refl)
  cover_stays (w ∷ ws) b x none = by (payload_in w b) (λ z. cover_stays ws b z (λ i v is. none (suc i) v is))
    where
      by : (p : Option (List ℕ)) → ((z : List ℕ) → (y : List ℕ) × (cover (Some z) ws b ≡ Some y)) → (y : List ℕ) × (cover (or_else p (if names_block w.says.fresh b then None else Some x)) ws b ≡ Some y)
      by (Some z) rest = rest z
      by None rest = let one = rest x in (one.0, ap (λ o. cover o ws b) (cond-false (names_block w.says.fresh b) None (Some x) (none 0 w refl)) ∙ one.1)

  -- the shorter of two fronts of a list is a front of the longer
  front_of : (xs ys good bad : List WrittenRecord) → xs ++ ys ≡ good ++ bad → length xs ≤ length good → (more : List WrittenRecord) × (good ≡ xs ++ more)
  front_of [] ys good bad e le = (good, refl)
  front_of (x ∷ xs) ys [] bad e le = absurd (omega arith)
  front_of (x ∷ xs) ys (g ∷ good) bad e le =
      let head : x ≡ g = cc in
      let tail : xs ++ ys ≡ good ++ bad = cc in
      let rest = front_of xs ys good bad tail (omega arith) in
      (rest.0, ap (λ (ws : List WrittenRecord). g ∷ ws) rest.1 ∙ ap (λ (w : WrittenRecord). w ∷ (xs ++ rest.0)) (sym head))

  -- home writes are covered, while the batch ends with the last sure record, and the block lives on after it
  pub home_may : (placed batch rest : List WrittenRecord) (block : ℕ) (x : List ℕ) → bitmap_start l.geom ≤ block → IsBatch l placed batch rest → l.header.start + length placed + length batch ≡ l.header.sure + 1
      → cover None batch block ≡ Some x → IsTrue (is_live l.geom (l.map_before (l.header.sure + 1)) block) → MayWriteInPlace (cell_of base log) l block
  home_may placed batch rest block x high batch_is ends covered live_on = record {
    outside = high;
    dead_or_covered = λ h good bad st split known live.
        let f = k.headers.fits h st in
        let a = h.start - l.header.start in
        let le : h.start - l.header.start ≤ length placed = omega (arith, batch_is.from h st, f.start) in
        let all : (drop a placed ++ batch) ++ rest ≡ good ++ bad = append_assoc (drop a placed) batch rest ∙ sym (drop-append-le a placed (batch ++ rest) le) ∙ ap (λ (ws : List WrittenRecord). drop a ws) (sym batch_is.split) ∙ split in
        let part = front_of (drop a placed ++ batch) rest good bad all (omega (arith, known, (k.headers.fits l.header (inl refl)).known, batch_is.sure, f.start, length-append (drop a placed) batch, length-drop {A = WrittenRecord} a placed, le)) in
        let more_fresh = λ (i : ℕ) (w : WrittenRecord) (is : slice_get part.0 i ≡ Some w). unnamed_later (length (placed ++ batch) + i) w (in_more h good bad part.0 part.1 i w is le split) (omega arith) in
        let one = cover_stays part.0 block x more_fresh in
        (one.0, ap (λ (ws : List WrittenRecord). cover None ws block) part.1 ∙ cover-parts (drop a placed ++ batch) part.0 None block ∙ ap (λ o. cover o part.0 block) (cover-parts (drop a placed) batch None block ∙ covered_whatever (cover None (drop a placed) block)) ∙ one.1);
    not_fresh = late_apart;
  }
    where
      late_apart : (i j : ℕ) (w : WrittenRecord) (e : Entry) → slice_get l.records i ≡ Some w → l.header.sure < w.says.number → slice_get w.says.fresh j ≡ Some e → e.block ≢ block
      late_apart i j w e is late at same = both_ways _ (new.dead i j (l.header.sure + 1) w e is (omega arith) (omega (arith, late)) at) (subst (λ b. IsTrue (is_live l.geom (l.map_before (l.header.sure + 1)) b)) (sym same) live_on)

      covered_whatever : (o : Option (List ℕ)) → cover o batch block ≡ Some x
      covered_whatever o = ⊎_elim (λ alone. absurd (none-some x (sym (alone_leaves batch block None alone) ∙ covered))) (λ decides. decides o ∙ covered) (leave_or_decide batch block)

      in_more : (h : Header) (good bad more : List WrittenRecord) → good ≡ (drop (h.start - l.header.start) placed ++ batch) ++ more → (i : ℕ) (w : WrittenRecord) → slice_get more i ≡ Some w → h.start - l.header.start ≤ length placed → from_start l h ≡ good ++ bad → slice_get l.records (length (placed ++ batch) + i) ≡ Some w
      in_more h good bad more e i w is le split =
          let a = h.start - l.header.start in
          let front = drop a placed ++ batch in
          let at : slice_get (from_start l h) (length front + i) ≡ Some w = ap (λ (ws : List WrittenRecord). slice_get ws (length front + i)) (split ∙ ap (λ (ws : List WrittenRecord). ws ++ bad) e ∙ append_assoc front more bad) ∙ get_behind front (more ++ bad) i ∙ get_front more bad i w is in
          ap (slice_get l.records) (omega (arith, length-append (drop a placed) batch, length-append placed batch, length-drop {A = WrittenRecord} a placed, le)) ∙ sym (get_drop a l.records (length front + i)) ∙ at

      not_named : (es : List Entry) (b : ℕ) → ((i : ℕ) (e : Entry) → slice_get es i ≡ Some e → e.block ≡ b → ⊥) → names_block es b ≡ false
      not_named [] b none = refl
      not_named (e ∷ es) b none = ⊎_elim (λ yes. absurd (none 0 e refl (Rattle.std.proofs.lemmas.Bool.eqb-true e.block b yes))) (λ other. cond-false (e.block == b) true (names_block es b) other ∙ not_named es b (λ i a is. none (suc i) a is)) (cases_Bool (e.block == b))

      unnamed_later : (j : ℕ) (w : WrittenRecord) → slice_get l.records j ≡ Some w → length (placed ++ batch) ≤ j → names_block w.says.fresh block ≡ false
      unnamed_later j w is late = not_named w.says.fresh block (λ i e at same. late_apart j i w e is (omega (arith, numbered j w is, late, ends, length-append placed batch)) at same)
