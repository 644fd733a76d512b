-- Each kind of write leaves the disk as the ledger then says.
use Rattle.std.proofs.Common.{◌≡◌, ◌≢◌, ◌⊎◌, inl, inr, ⊎_elim, ℕ, zero, suc, ◌+◌, ◌-◌, ◌%◌, ◌<◌, ◌≤◌, nat_le, Bool, true, false, if◌then◌else◌, IsTrue, List, [], ◌∷◌, ◌++◌, length, take, slice_get, Option, Some, None, refl, sym, ◌∙◌, ap, subst, arith, length-append, length-drop, append-nil}
use Rattle.std.proofs.lemmas.Bool.{cases_eq, both_ways, le-leb, lt-leb, cond-true, cond-false}
use Rattle.std.proofs.lemmas.Option.{none-some, same_Some}
use Rattle.base_types.specs.Seal.{Blocks}
use Rattle.disk_contract.specs.declared.event.Event.{Event}
use Rattle.disk_contract.specs.Cell.{Cell, cell_of}
use Rattle.layout_geometry.specs.Geometry.{ring_block}
use Rattle.layout_journal.specs.declared.header.Header.{Header}
use Rattle.layout_journal.specs.declared.record.Commit.{Commit}
use Rattle.layout_journal.specs.Layout.{commit_of, descriptor_of}
use Rattle.layout_journal.specs.Run.{Record, places, all_places, place_after, AreConsecutive, names_block, or_else, otherwise, is_live}
use Rattle.crash_argument.specs.JournalLaws.{JournalLaws}
use Rattle.crash_argument.specs.Ledger.{Ledger, WrittenRecord, IsConsistentWith, IsOnDisk, IsIssued, HeadersAlternate, NumbersUsedOnce, IsLaid, IsStanding, FitsRecords, latest, block_at, cover, payload_in, from_start, next_number, all_say}
use Rattle.crash_argument.specs.Steps.{MayWriteInPlace, MayWriteInRing, IsReadyToCommit, with_record}
use Rattle.crash_argument.proofs.log.Adds.{Adds, Settles, on_disk, stood, others_stay}
use Rattle.crash_argument.proofs.steps.HeaderSteps.{cover-parts}
use Rattle.crash_argument.proofs.steps.Kept.{same_headers, same_record, same_numbers, same_home}
use Rattle.crash_argument.proofs.theorem.Whole.{count_of}
use Rattle.crash_argument.proofs.theorem.Core.{live_from}
use Rattle.crash_argument.proofs.theorem.Images.{in_ring}
use Rattle.crash_argument.proofs.log.Lists.{get_front, get_behind, in_longer, named_at, empty_parts, say_append, say_length, place_after-append, places_append}
use Rattle.std.proofs.lemmas.List.{take-append-drop, take-append-le, drop-append-le}

module _ (base : Blocks) (log new : List Event) (l : Ledger) (block : ℕ) (x : List ℕ) (a : Adds base log new block x) (k : IsConsistentWith base log l) where
  -- the headers, where neither slot is written
  headers_stay : 2 ≤ block → HeadersAlternate (cell_of base new) l
  headers_stay high = same_headers base log new l k a.written (others_stay a l.slot (λ e. omega (arith, k.headers.is_slot))) (others_stay a (1 - l.slot) (λ e. omega arith))

  -- a write in place leaves the disk as the ledger says
  pub write_in_place : MayWriteInPlace (cell_of base log) l block → IsConsistentWith base new l
  write_in_place may = record {
    headers = headers_stay (omega (arith, may.outside));
    each = λ n w is. same_record base log new l k a.written w (k.each n w is) (λ i lt. ring_stays (w.says.place + i)) (λ late i e at. others_stay a e.block (may.not_fresh n i w e is late at));
    numbers = same_numbers base log new l k a.written ring_stays;
    shape = k.shape;
    ring = k.ring;
    known = k.known;
    home = record {
      map = λ h good bad b st split sure live. ⊎_elim
          (λ same. let cov = may.dead_or_covered h good bad st split sure (subst (λ c. IsTrue (is_live l.geom (l.map_before (h.start + length good)) c)) same live) in
          let at_b : cover None good b ≡ Some cov.0 = ap (cover None good) same ∙ cov.1 in
          ap (λ o. otherwise o (latest (cell_of base new b))) at_b ∙ sym (ap (λ o. otherwise o (latest (cell_of base log b))) at_b) ∙ k.home.map h good bad b st split sure live)
          (λ apart. ap (λ c. otherwise (cover None good b) (latest c)) (a.other b apart) ∙ k.home.map h good bad b st split sure live) (cases_eq b block);
      laid = λ h good bad b st split sure live none. ⊎_elim
          (λ same. let cov = may.dead_or_covered h good bad st split sure (subst (λ c. IsTrue (is_live l.geom (l.map_before (h.start + length good)) c)) same live) in absurd (none-some cov.0 (sym none ∙ ap (cover None good) same ∙ cov.1)))
          (λ apart. ⊎_elim (λ idle. inl (ap (λ (c : Cell). c.pending) (a.other b apart) ∙ idle)) (λ f. inr f) (k.home.laid h good bad b st split sure live none)) (cases_eq b block);
    };
  }
    where
      ring_stays : (p : ℕ) → Settles (cell_of base log (ring_block l.geom p)) (cell_of base new (ring_block l.geom p))
      ring_stays p = others_stay a _ (λ e. omega (arith, e, may.outside, in_ring l.geom p k.ring))

module _ (laws : JournalLaws) (base : Blocks) (log new : List Event) (l : Ledger) (place : ℕ) (x : List ℕ) (a : Adds base log new (ring_block l.geom place) x) (k : IsConsistentWith base log l) where
  -- and so does a write into a free place of the ring
  pub write_in_ring : MayWriteInRing l place x → IsConsistentWith base new l
  write_in_ring may = record {
    headers = headers_stay base log new l _ x a k (omega arith);
    each = λ n w is. same_record base log new l k a.written w (k.each n w is) (λ i lt. others_stay a _ (may.free n i w is lt)) (λ late i e at. others_stay a e.block (λ same. omega (arith, same, (k.each n w is).in_place i e at, in_ring l.geom place k.ring)));
    numbers = record {
      commit = λ p y c st is e from. ⊎_elim (λ old. k.numbers.commit p y c old is e from) (λ new_one. absurd (none-some c (sym may.no_commit ∙ ap (commit_of l.geom) (sym new_one) ∙ is))) (stood a _ y st);
      descriptor = λ p y d w st is e from got. ⊎_elim (λ old. k.numbers.descriptor p y d w old is e from got) (λ new_one. absurd (may.no_descriptor d w (ap (descriptor_of l.geom) (sym new_one) ∙ is) e from got)) (stood a _ y st);
    };
    shape = k.shape;
    ring = k.ring;
    known = k.known;
    home = same_home base log new l k a.written (λ b high. others_stay a b (λ same. omega (arith, same, high, in_ring l.geom place k.ring)));
  }

-- one more record in a split list: it is the last of the second part, or the second part is empty
split_last : (xs good bad : List WrittenRecord) (w : WrittenRecord) → xs ++ w ∷ [] ≡ good ++ bad → ((rest : List WrittenRecord) × (bad ≡ rest ++ w ∷ []) × (xs ≡ good ++ rest)) ⊎ ((bad ≡ []) × (good ≡ xs ++ w ∷ []))
split_last xs [] bad w e = inl (xs, sym e, refl)
split_last [] (g ∷ good) bad w e =
    let head : w ≡ g = cc in
    let tail : [] ≡ good ++ bad = cc in
    let none = empty_parts good bad tail in
    inr (none.1, ap (λ (l : List WrittenRecord). g ∷ l) none.0 ∙ ap (λ (y : WrittenRecord). y ∷ []) (sym head))
split_last (x ∷ xs) (g ∷ good) bad w e =
    let head : x ≡ g = cc in
    let tail : xs ++ w ∷ [] ≡ good ++ bad = cc in
    ⊎_elim (λ p. inl (p.0, p.1, ap (λ (l : List WrittenRecord). x ∷ l) p.2 ∙ ap (λ (y : WrittenRecord). y ∷ (good ++ p.0)) head)) (λ p. inr (p.0, ap (λ (l : List WrittenRecord). g ∷ l) p.1 ∙ ap (λ (y : WrittenRecord). y ∷ (xs ++ w ∷ [])) (sym head))) (split_last xs good bad w tail)

-- consecutive records are so still with the next one behind them
consecutive_more : (j n p : ℕ) (rs : List Record) (r : Record) → AreConsecutive j n p rs → r.number ≡ n + length rs → r.place ≡ place_after j p rs → AreConsecutive j n p (rs ++ r ∷ [])
consecutive_more j n p [] r h number place = (number ∙ omega arith, place, tt)
consecutive_more j n p (x ∷ rs) r h number place = (h.0, h.1, consecutive_more j (n + 1) ((p + places x) % j) rs r h.2 (omega arith) place)

-- behind the old elements there is the new one
get_last : (ws : List WrittenRecord) (w : WrittenRecord) (k : ℕ) → k ≡ length ws → slice_get (ws ++ w ∷ []) k ≡ Some w
get_last ws w k e = ap (slice_get (ws ++ w ∷ [])) {x = k} {y = length ws + 0} (omega (arith, e)) ∙ get_behind ws (w ∷ []) 0

-- with a record the maps up to the next number are the old ones
pub at_old : (l : Ledger) (w : WrittenRecord) (m : Blocks) (n : ℕ) → n ≤ next_number l → (with_record l w m).map_before n ≡ l.map_before n
at_old l w m n le = cond-true (nat_le n (next_number l)) (l.map_before n) m (le-leb n (next_number l) le)

-- and behind it there is the new one
pub at_new : (l : Ledger) (w : WrittenRecord) (m : Blocks) (n : ℕ) → next_number l < n → (with_record l w m).map_before n ≡ m
at_new l w m n lt = cond-false (nat_le n (next_number l)) (l.map_before n) m (lt-leb n (next_number l) lt)

module _ (laws : JournalLaws) (base : Blocks) (log new : List Event) (l : Ledger) (w : WrittenRecord) (m : Blocks) (a : Adds base log new (ring_block l.geom w.says.place) (block_at w.ring 0)) (k : IsConsistentWith base log l) (ready : IsReadyToCommit base log l w m) where
  -- a standing header starts within the records
  start_in : (h : Header) → IsStanding l h → h.start - l.header.start ≤ length l.records
  start_in h st = let f = k.headers.fits h st in omega (arith, f.start, f.sure, f.last)

  -- from its start on there is one record more
  from_more : (h : Header) → IsStanding l h → from_start (with_record l w m) h ≡ from_start l h ++ w ∷ []
  from_more h st = drop-append-le (h.start - l.header.start) l.records (w ∷ []) (start_in h st)

  -- counted from its start, the old records end at the next number
  from_length : (h : Header) → IsStanding l h → h.start + length (from_start l h) ≡ next_number l
  from_length h st = let f = k.headers.fits h st in omega (arith, f.start, start_in h st, length-drop {A = WrittenRecord} (h.start - l.header.start) l.records)

  -- what the old records say, parted at its start
  say_parts : (h : Header) → all_say l.records ≡ all_say (take (h.start - l.header.start) l.records) ++ all_say (from_start l h)
  say_parts h = ap all_say (sym (take-append-drop (h.start - l.header.start) l.records)) ∙ say_append (take (h.start - l.header.start) l.records) (from_start l h)

  -- the new record begins behind those from its start on
  place_here : (h : Header) → IsStanding l h → w.says.place ≡ place_after l.geom.j h.at (all_say (from_start l h))
  place_here h st =
      ready.place ∙ ap (place_after l.geom.j l.header.at) (say_parts h) ∙ place_after-append l.geom.j l.header.at (all_say (take (h.start - l.header.start) l.records)) (all_say (from_start l h))
      ∙ ap (λ p. place_after l.geom.j p (all_say (from_start l h))) (sym (k.headers.fits h st).place)

  -- a standing header fits the records with the new one
  fits_more : (h : Header) → IsStanding l h → FitsRecords (with_record l w m) h
  fits_more h st =
      let f = k.headers.fits h st in
      let says : all_say (from_start (with_record l w m) h) ≡ all_say (from_start l h) ++ w.says ∷ [] = ap all_say (from_more h st) ∙ say_append (from_start l h) (w ∷ []) in
      record {
        epoch = f.epoch;
        geom = f.geom;
        start = f.start;
        sure_grows = f.sure_grows;
        sure = f.sure;
        let_in = λ c. absurd (both_ways h.closed (ready.not_closed h st) c);
        last = omega (arith, f.last, length-append l.records (w ∷ []));
        known = f.known;
        place = f.place ∙ ap (λ (ws : List WrittenRecord). place_after l.geom.j l.header.at (all_say ws)) (sym (take-append-le (h.start - l.header.start) l.records (w ∷ []) (start_in h st)));
        consecutive = subst (λ (rs : List Record). AreConsecutive l.geom.j h.start h.at rs) (sym says)
            (consecutive_more l.geom.j h.start h.at (all_say (from_start l h)) w.says f.consecutive (ready.number ∙ sym (from_length h st) ∙ ap (λ n. h.start + n) (sym (say_length (from_start l h)))) (place_here h st));
        within = omega (arith, ap all_places says, places_append (all_say (from_start l h)) (w.says ∷ []), ready.within, ap all_places (say_parts h), places_append (all_say (take (h.start - l.header.start) l.records)) (all_say (from_start l h)));
      }

  -- the headers are as they were
  old_headers : HeadersAlternate (cell_of base new) l
  old_headers = headers_stay base log new l _ _ a k (omega arith)

  -- the new record is issued
  own_record : IsIssued base (cell_of base new) new (with_record l w m) w
  own_record = record {
    spelled = ready.spelled;
    ring = own_ring;
    ring_logged = own_logged;
    in_place = ready.in_place;
    fresh = λ late i e at. ap latest (a.other e.block (λ same. omega (arith, ready.in_place i e at, in_ring l.geom w.says.place k.ring))) ∙ ready.fresh i e at;
    fresh_logged = λ i e at. on_disk a _ (ready.fresh_logged i e at);
    intact = λ low i lt. absurd (omega (arith, low, ready.number, k.known));
    intact_fresh = λ late low i e at. absurd (omega (arith, low, ready.number, k.known));
  }
    where
      own_ring : (i : ℕ) → i < places w.says → latest (cell_of base new (ring_block l.geom (w.says.place + i))) ≡ block_at w.ring i
      own_ring zero lt = ap (λ p. latest (cell_of base new (ring_block l.geom p))) (omega arith) ∙ a.latest_is
      own_ring (suc i) lt = ap latest (a.other _ (ready.own (suc i) (omega arith) lt)) ∙ ready.ring (suc i) (omega arith) lt

      own_logged : (i : ℕ) → i < places w.says → IsOnDisk l.geom.n base new (block_at w.ring i)
      own_logged zero lt = inl a.own_written
      own_logged (suc i) lt = on_disk a _ (ready.ring_logged (suc i) (omega arith) lt)

  -- and the old ones are still
  old_record : (n : ℕ) (v : WrittenRecord) → slice_get l.records n ≡ Some v → IsIssued base (cell_of base new) new (with_record l w m) v
  old_record n v is =
      let old = same_record base log new l k a.written v (k.each n v is) (λ i lt. others_stay a _ (ready.free n i v is lt)) (λ late i e at. others_stay a e.block (λ same. omega (arith, same, (k.each n v is).in_place i e at, in_ring l.geom w.says.place k.ring))) in
      record { spelled = old.spelled; ring = old.ring; ring_logged = old.ring_logged; in_place = old.in_place; fresh = old.fresh; fresh_logged = old.fresh_logged; intact = old.intact; intact_fresh = old.intact_fresh }

  -- numbers are used once still
  once_more : NumbersUsedOnce (cell_of base new) (with_record l w m)
  once_more = record {
    commit = λ p y c st is e from.
        ⊎_elim (λ old. let found = k.numbers.commit p y c old is e from in (found.0, get_front l.records (w ∷ []) _ found.0 found.1, found.2))
        (λ new_one. let number = ap (λ (d : Commit). d.number) (same_Some _ _ (sym is ∙ ap (commit_of l.geom) new_one ∙ ready.spelled.commit)) in (w, get_last l.records w _ (omega (arith, number, ready.number)), new_one))
        (stood a _ y st);
    descriptor = λ p y d v st is e from got.
        ⊎_elim (λ old. ⊎_elim (λ was. k.numbers.descriptor p y d v old is e from was)
        (λ last. (ready.writing.each p y d old is e (omega (arith, last.1, from))).1 ∙ ap (λ (u : WrittenRecord). block_at u.ring (1 + d.index)) (sym last.0)) (in_longer l.records w v _ got))
        (λ new_one. absurd (none-some d (sym (laws.commit_no_descriptor l.geom l.geom (block_at w.ring 0) _ ready.spelled.commit) ∙ ap (descriptor_of l.geom) (sym new_one) ∙ is))) (stood a _ y st);
  }

  module _ (h : Header) (st : IsStanding l h) (b : ℕ) (live : IsTrue (is_live l.geom m b)) where
    -- a live block for which the new record has no entry was live before
    old_live : payload_in w b ≡ None → names_block w.says.fresh b ≡ false → IsTrue (is_live l.geom (l.map_before (h.start + length (from_start l h))) b)
    old_live unpaid unlaid = subst (λ n. IsTrue (is_live l.geom (l.map_before n) b)) (sym (from_length h st)) (ready.same b unpaid unlaid live).0

    -- a live block is as it was
    same_cell : cell_of base new b ≡ cell_of base log b
    same_cell = a.other b (λ same. omega (arith, live_from l.geom m b live, in_ring l.geom w.says.place k.ring))

    -- what is at home in it, under the old records and the new one, is the new map
    covered : (o : Option (List ℕ)) (n : Bool) → o ≡ payload_in w b → n ≡ names_block w.says.fresh b
        → otherwise (or_else o (if n then None else cover None (from_start l h) b)) (latest (cell_of base log b)) ≡ m b
    covered (Some y) n paid named = sym (ready.paid b y (sym paid))
    covered None true unpaid named = sym (ready.laid b (sym unpaid) (sym named))
    covered None false unpaid named =
        k.home.map h (from_start l h) [] b st (sym (append-nil (from_start l h))) (omega (arith, from_length h st, k.known)) (old_live (sym unpaid) (sym named))
        ∙ ap (λ n. l.map_before n b) (from_length h st) ∙ sym (ready.same b (sym unpaid) (sym named) live).1

    -- and where these don't cover it, nothing is pending on it or one of them wrote it fresh
    laid_so : (o : Option (List ℕ)) (n : Bool) → o ≡ payload_in w b → n ≡ names_block w.says.fresh b → or_else o (if n then None else cover None (from_start l h) b) ≡ None
        → IsLaid (cell_of base log) h (from_start l h ++ w ∷ []) b
    laid_so (Some y) n paid named none = cc
    laid_so None true unpaid named none =
        let at = named_at w.says.fresh b (sym named) in
        inr (length (from_start l h), w, at.0, at.1, get_last (from_start l h) w _ refl, omega (arith, ready.number, (k.headers.fits h st).last), at.2, at.3)
    laid_so None false unpaid named none =
        ⊎_elim inl (λ p. inr (p.0, p.1, p.2, p.3, get_front (from_start l h) (w ∷ []) p.0 p.1 p.4, p.5, p.6, p.7)) (k.home.laid h (from_start l h) [] b st (sym (append-nil (from_start l h))) (omega (arith, from_length h st, k.known)) (old_live (sym unpaid) (sym named)) none)

  -- a commit block leaves the disk as the ledger with its record says
  pub write_commit : IsConsistentWith base new (with_record l w m)
  write_commit = record {
    headers = record { is_slot = old_headers.is_slot; durable = old_headers.durable; alone = old_headers.alone; other = old_headers.other; newer = old_headers.newer; fits = fits_more };
    each = λ n v is. ⊎_elim (λ old. old_record n v old) (λ last. subst (λ (u : WrittenRecord). IsIssued base (cell_of base new) new (with_record l w m) u) (sym last.0) own_record) (in_longer l.records w v n is);
    numbers = once_more;
    shape = k.shape;
    ring = k.ring;
    known = omega (arith, k.known, length-append l.records (w ∷ []));
    home = record {
      map = λ h good bad b st split sure live. ⊎_elim
          (λ p. let le = count_of base log l k h good p.0 st p.2 in
          let old_map = at_old l w m (h.start + length good) le in
          ap (λ c. otherwise (cover None good b) (latest c)) (a.other b (λ same. omega (arith, (live_from l.geom (l.map_before (h.start + length good)) b (subst (λ (mm : Blocks). IsTrue (is_live l.geom mm b)) old_map live)), in_ring l.geom w.says.place k.ring)))
          ∙ k.home.map h good p.0 b st p.2 sure (subst (λ (mm : Blocks). IsTrue (is_live l.geom mm b)) old_map live) ∙ sym (ap (λ (mm : Blocks). mm b) old_map))
          (λ p. let new_map = at_new l w m (h.start + length good) (longer h good st p.1) in
          let live_m = subst (λ (mm : Blocks). IsTrue (is_live l.geom mm b)) new_map live in
          ap (λ (ws : List WrittenRecord). otherwise (cover None ws b) (latest (cell_of base new b))) p.1 ∙ ap (λ o. otherwise o (latest (cell_of base new b))) (cover-parts (from_start l h) (w ∷ []) None b)
          ∙ ap (λ c. otherwise (or_else (payload_in w b) (if names_block w.says.fresh b then None else cover None (from_start l h) b)) (latest c)) (same_cell h st b live_m)
          ∙ covered h st b live_m (payload_in w b) (names_block w.says.fresh b) refl refl ∙ sym (ap (λ (mm : Blocks). mm b) new_map))
          (split_last (from_start l h) good bad w (sym (from_more h st) ∙ split));
      laid = λ h good bad b st split sure live none. ⊎_elim
          (λ p. let le = count_of base log l k h good p.0 st p.2 in
          let old_map = at_old l w m (h.start + length good) le in
          let live_o = subst (λ (mm : Blocks). IsTrue (is_live l.geom mm b)) old_map live in
          ⊎_elim (λ idle. inl (ap (λ (c : Cell). c.pending) (a.other b (λ same. omega (arith, (live_from l.geom (l.map_before (h.start + length good)) b live_o), in_ring l.geom w.says.place k.ring))) ∙ idle)) (λ f. inr f) (k.home.laid h good p.0 b st p.2 sure live_o none))
          (λ p. let new_map = at_new l w m (h.start + length good) (longer h good st p.1) in
          let live_m = subst (λ (mm : Blocks). IsTrue (is_live l.geom mm b)) new_map live in
          let none_w = sym (cover-parts (from_start l h) (w ∷ []) None b) ∙ ap (λ (ws : List WrittenRecord). cover None ws b) (sym p.1) ∙ none in
          subst (λ (ws : List WrittenRecord). IsLaid (cell_of base new) h ws b) (sym p.1)
          (⊎_elim (λ idle. inl (ap (λ (c : Cell). c.pending) (same_cell h st b live_m) ∙ idle)) (λ f. inr f) (laid_so h st b live_m (payload_in w b) (names_block w.says.fresh b) refl refl none_w)))
          (split_last (from_start l h) good bad w (sym (from_more h st) ∙ split));
    };
  }
    where
      longer : (h : Header) (good : List WrittenRecord) → IsStanding l h → good ≡ from_start l h ++ w ∷ [] → next_number l < h.start + length good
      longer h good st e = omega (arith, from_length h st, ap (λ (ws : List WrittenRecord). length ws) e, length-append (from_start l h) (w ∷ []))
