-- The steps of the headers, and what becomes known.
use Rattle.std.proofs.Common.{◌≡◌, ◌≢◌, ◌⊎◌, inl, inr, ⊎_elim, ℕ, zero, suc, ◌+◌, ◌-◌, ◌%◌, ◌<◌, ◌≤◌, Bool, true, false, if◌then◌else◌, IsTrue, List, [], ◌∷◌, ◌++◌, length, take, drop, slice_get, Option, Some, None, refl, sym, ◌∙◌, ap, subst, arith, length-append, length-drop, length-take}
use Rattle.std.proofs.lemmas.Bool.{cases_lt, cond-false}
use Rattle.std.proofs.lemmas.List.{take-append-drop}
use Rattle.std.proofs.lemmas.Option.{none-some, same_Some}
use Rattle.base_types.specs.Seal.{Blocks}
use Rattle.disk_contract.specs.declared.event.Event.{Event}
use Rattle.disk_contract.specs.Cell.{Cell, cell_of}
use Rattle.layout_geometry.specs.Geometry.{ring_block, bitmap_start}
use Rattle.layout_journal.specs.declared.header.Header.{Header}
use Rattle.layout_journal.specs.declared.entry.Entry.{Entry}
use Rattle.layout_journal.specs.Layout.{header_of}
use Rattle.layout_journal.specs.Run.{places, names_block, or_else, otherwise, is_live, AreConsecutive}
use Rattle.crash_argument.specs.Ledger.{Ledger, WrittenRecord, IsConsistentWith, IsLaid, IsStanding, FitsRecords, StandsIn, latest, cover, payload_in, from_start, next_number, all_say}
use Rattle.crash_argument.specs.Steps.{MayWriteHeader, with_header, IsDurable, with_durable_header, AreNoticed, with_known}
use Rattle.crash_argument.proofs.log.Adds.{Adds, others_stay, stands_settled}
use Rattle.crash_argument.proofs.steps.Kept.{same_record, same_numbers}
use Rattle.crash_argument.proofs.theorem.Core.{live_from}
use Rattle.crash_argument.specs.PipelineData.{LeavesAlone}
use Rattle.crash_argument.proofs.log.Lists.{whole_list, inspect, get_front, get_behind, get_drop}

-- what two lists of records leave in a block, one behind the other
pub cover-parts : (xs ys : List WrittenRecord) (before : Option (List ℕ)) (b : ℕ) → cover before (xs ++ ys) b ≡ cover (cover before xs b) ys b
cover-parts [] ys before b = refl
cover-parts (x ∷ xs) ys before b = cover-parts xs ys _ b

-- these records leave the block alone, or they decide by themselves
pub leave_or_decide : (ws : List WrittenRecord) (b : ℕ) → ((k : ℕ) (w : WrittenRecord) → slice_get ws k ≡ Some w → LeavesAlone w b) ⊎ ((o : Option (List ℕ)) → cover o ws b ≡ cover None ws b)
leave_or_decide [] b = inl (λ k w e. cc)
leave_or_decide (w ∷ ws) b = by (payload_in w b) (names_block w.says.fresh b) refl refl (leave_or_decide ws b)
  where
    alone : payload_in w b ≡ None → names_block w.says.fresh b ≡ false → ((k : ℕ) (v : WrittenRecord) → slice_get ws k ≡ Some v → LeavesAlone v b) → (k : ℕ) (v : WrittenRecord) → slice_get (w ∷ ws) k ≡ Some v → LeavesAlone v b
    alone p f rest zero v e = subst (λ (u : WrittenRecord). LeavesAlone u b) (same_Some _ _ e) (record { paid = p; fresh = f })
    alone p f rest (suc k) v e = rest k v e

    by : (p : Option (List ℕ)) (n : Bool) → payload_in w b ≡ p → names_block w.says.fresh b ≡ n → ((k : ℕ) (v : WrittenRecord) → slice_get ws k ≡ Some v → LeavesAlone v b) ⊎ ((o : Option (List ℕ)) → cover o ws b ≡ cover None ws b)
        → ((k : ℕ) (v : WrittenRecord) → slice_get (w ∷ ws) k ≡ Some v → LeavesAlone v b) ⊎ ((o : Option (List ℕ)) → cover (or_else p (if n then None else o)) ws b ≡ cover (or_else p (if n then None else None)) ws b)
    by (Some x) n pe ne rest = inr (λ o. refl)
    by None true pe ne rest = inr (λ o. refl)
    by None false pe ne rest = ⊎_elim (λ all. inl (alone pe ne all)) inr rest

-- records that leave a block alone change nothing of it
pub alone_leaves : (ws : List WrittenRecord) (b : ℕ) (o : Option (List ℕ)) → ((k : ℕ) (w : WrittenRecord) → slice_get ws k ≡ Some w → LeavesAlone w b) → cover o ws b ≡ o
alone_leaves [] b o all = refl
alone_leaves (w ∷ ws) b o all =
    let first = all 0 w refl in
    ap (λ q. cover (or_else q (if names_block w.says.fresh b then None else o)) ws b) first.paid ∙ ap (λ q. cover q ws b) (cond-false (names_block w.says.fresh b) None o first.fresh) ∙ alone_leaves ws b o (λ k v e. all (suc k) v e)

-- the number of one of consecutive records
pub number_at : (j n p : ℕ) (ws : List WrittenRecord) (i : ℕ) (w : WrittenRecord) → AreConsecutive j n p (all_say ws) → slice_get ws i ≡ Some w → w.says.number ≡ n + i
number_at j n p [] i w c e = cc
number_at j n p (v ∷ ws) zero w c e =
    let same : v ≡ w = cc in
    sym (ap (λ (u : WrittenRecord). u.says.number) same) ∙ c.0 ∙ omega arith
number_at j n p (v ∷ ws) (suc i) w c e = number_at j (n + 1) ((p + places v.says) % j) ws i w c.2 e ∙ omega arith

module _ (base : Blocks) (log : List Event) (l : Ledger) (k : IsConsistentWith base log l) where
  -- all records before a number are known
  pub with_known_keeps : (number : ℕ) → AreNoticed (cell_of base log) l number → IsConsistentWith base log (with_known l number)
  with_known_keeps number n = record {
    headers = record {
      is_slot = k.headers.is_slot;
      durable = k.headers.durable;
      alone = k.headers.alone;
      other = k.headers.other;
      newer = k.headers.newer;
      fits = λ h st. let f = k.headers.fits h st in record { epoch = f.epoch; geom = f.geom; let_in = f.let_in; place = f.place; start = f.start; sure_grows = f.sure_grows; sure = f.sure; last = f.last; known = omega (arith, f.known, n.from); consecutive = f.consecutive; within = f.within };
    };
    each = λ i w is. let old = k.each i w is in record {
      spelled = old.spelled;
      ring = old.ring;
      ring_logged = old.ring_logged;
      in_place = old.in_place;
      fresh = old.fresh;
      fresh_logged = old.fresh_logged;
      intact = λ low j lt. n.ring i j w is low lt;
      intact_fresh = λ late low j e at. n.fresh i j w e is low late at;
    };
    numbers = record { commit = k.numbers.commit; descriptor = k.numbers.descriptor };
    shape = k.shape;
    ring = k.ring;
    known = n.upto;
    home = record {
      map = λ h good bad b st split from live. k.home.map h good bad b st split (omega (arith, from, n.from)) live;
      laid = λ h good bad b st split from live none. k.home.laid h good bad b st split (omega (arith, from, n.from)) live none;
    };
  }

  -- the header that was written last is known to be durable
  module _ (h : Header) (d : IsDurable (cell_of base log) l h) where
    -- and fits the records
    fit : FitsRecords l h
    fit = k.headers.fits h (inr d.next)

    -- no other one stands then
    only : (g : Header) → IsStanding (with_durable_header l h) g → g ≡ h
    only g st = ⊎_elim (λ e. e) (λ e. absurd (none-some g e)) st

    -- from its start on the records are the same
    from_same : from_start (with_durable_header l h) h ≡ from_start l h
    from_same = ap (λ n. drop n (from_start l h)) {x = h.start - h.start} {y = 0} (omega arith)

    -- it starts within the records
    start_in : h.start - l.header.start ≤ length l.records
    start_in = omega (arith, fit.start, fit.sure, fit.last)

    -- counted from its start, the records end at the next number
    pub count : h.start + length (from_start l h) ≡ next_number l
    count = omega (arith, fit.start, start_in, length-drop {A = WrittenRecord} (h.start - l.header.start) l.records)

    -- where a record from its start on stood before
    get_from : (i : ℕ) → slice_get (from_start l h) i ≡ slice_get l.records (h.start - l.header.start + i)
    get_from i = get_drop (h.start - l.header.start) l.records i

    -- it fits the records that are left
    fits_turned : FitsRecords (with_durable_header l h) h
    fits_turned = record {
      epoch = fit.epoch;
      geom = fit.geom;
      let_in = λ c. omega (arith, fit.let_in c, count);
      place = ap (λ n. Rattle.layout_journal.specs.Run.place_after l.geom.j h.at (all_say (take n (from_start l h)))) {x = 0} {y = h.start - h.start} (omega arith);
      start = omega arith;
      sure_grows = omega arith;
      sure = fit.sure;
      last = omega (arith, fit.last, count);
      known = fit.known;
      consecutive = subst (λ (ws : List WrittenRecord). AreConsecutive l.geom.j h.start h.at (all_say ws)) (sym from_same) fit.consecutive;
      within = omega (arith, ap (λ (ws : List WrittenRecord). Rattle.layout_journal.specs.Run.all_places (all_say ws)) from_same, fit.within);
    }

    -- the disk is as the ledger says with this header as its durable one
    pub turned_keeps : IsConsistentWith base log (with_durable_header l h)
    turned_keeps = record {
      headers = record {
        is_slot = omega arith;
        durable = d.settled;
        alone = d.alone;
        other = λ x g st is. inl (older x g (subst (λ s. StandsIn (cell_of base log s) x) (omega (arith, k.headers.is_slot)) st) is);
        newer = λ g e. absurd (none-some g e);
        fits = λ g st. subst (λ (f : Header). FitsRecords (with_durable_header l h) f) (sym (only g st)) fits_turned;
      };
      each = λ i w is. let old = k.each _ w (sym (get_from i) ∙ is) in record {
        spelled = old.spelled;
        ring = old.ring;
        ring_logged = old.ring_logged;
        in_place = old.in_place;
        fresh = λ late j e at. old.fresh (omega (arith, fit.sure_grows, late)) j e at;
        fresh_logged = old.fresh_logged;
        intact = old.intact;
        intact_fresh = λ late low j e at. old.intact_fresh (omega (arith, fit.sure_grows, late)) low j e at;
      };
      numbers = record {
        commit = λ p x c st is e from. let found = k.numbers.commit p x c st is e (omega (arith, fit.start, from)) in (found.0, get_from (c.number - h.start) ∙ ap (slice_get l.records) (omega (arith, fit.start)) ∙ found.1, found.2);
        descriptor = λ p x c w st is e from got. k.numbers.descriptor p x c w st is e (omega (arith, fit.start, from)) (ap (slice_get l.records) (sym (omega (arith, fit.start))) ∙ sym (get_from (c.number - h.start)) ∙ got);
      };
      shape = k.shape;
      ring = k.ring;
      known = omega (arith, k.known, count);
      home = record {
        map = λ g good bad b st. subst (λ (f : Header). from_start (with_durable_header l h) f ≡ good ++ bad → l.known ≤ f.start + length good → IsTrue (is_live l.geom (l.map_before (f.start + length good)) b) → otherwise (cover None good b) (latest (cell_of base log b)) ≡ l.map_before (f.start + length good) b) (sym (only g st))
            (λ split sure live. k.home.map h good bad b (inr d.next) (sym from_same ∙ split) sure live);
        laid = λ g good bad b st. subst (λ (f : Header). from_start (with_durable_header l h) f ≡ good ++ bad → l.known ≤ f.start + length good → IsTrue (is_live l.geom (l.map_before (f.start + length good)) b) → cover None good b ≡ None → IsLaid (cell_of base log) f good b) (sym (only g st))
            (λ split sure live none. k.home.laid h good bad b (inr d.next) (sym from_same ∙ split) sure live none);
      };
    }
      where
        older : (x : List ℕ) (g : Header) → StandsIn (cell_of base log l.slot) x → header_of l.geom.n x ≡ Some g → g.turn < h.turn
        older x g st is =
            let at : x ≡ (cell_of base log l.slot).settled = stands_settled _ x k.headers.alone st in
            subst (λ (f : Header). f.turn < h.turn) (same_Some _ _ (sym k.headers.durable ∙ ap (header_of l.geom.n) (sym at) ∙ is)) (k.headers.newer h d.next)

-- a header is written beside the durable one
module _ (base : Blocks) (log new : List Event) (l : Ledger) (x : List ℕ) (h : Header) (a : Adds base log new (1 - l.slot) x) (k : IsConsistentWith base log l) (may : MayWriteHeader (cell_of base log) l x h) where
  -- what is written is not the durable header
  header_apart : l.slot ≢ 1 - l.slot
  header_apart e = omega (arith, k.headers.is_slot)

  -- nor a block of the ring
  ring_apart : (p : ℕ) → ring_block l.geom p ≢ 1 - l.slot
  ring_apart p e = omega arith

  -- nor one behind the journal
  high_apart : (b : ℕ) → bitmap_start l.geom ≤ b → b ≢ 1 - l.slot
  high_apart b high e = omega arith

  -- the durable header and the new one stand then
  standing : (g : Header) → IsStanding (with_header l h) g → (g ≡ l.header) ⊎ (g ≡ h)
  standing g st = ⊎_elim inl (λ e. inr (sym (same_Some _ _ e))) st

  -- before, no header was written after the durable one
  no_more : (g : Header) → l.next ≡ Some g → ⊥
  no_more g e = none-some g (sym may.alone ∙ e)

  -- nor a live block
  live_apart : (m : Blocks) (b : ℕ) → IsTrue (is_live l.geom m b) → b ≢ 1 - l.slot
  live_apart m b live = high_apart b (live_from l.geom m b live)

  -- so what was written last there stays
  same_latest : (m : Blocks) (b : ℕ) → IsTrue (is_live l.geom m b) → latest (cell_of base new b) ≡ latest (cell_of base log b)
  same_latest m b live = ap latest (a.other b (live_apart m b live))

  -- and so does what is pending there
  same_pending : (m : Blocks) (b : ℕ) → IsTrue (is_live l.geom m b) → (cell_of base new b).pending ≡ (cell_of base log b).pending
  same_pending m b live = ap (λ (c : Cell). c.pending) (a.other b (live_apart m b live))

  module _ (before good bad : List WrittenRecord) (is_before : before ≡ take (h.start - l.header.start) l.records) (split : from_start l h ≡ good ++ bad) (sure : l.known ≤ h.start + length good) (b : ℕ)
      (live : IsTrue (is_live l.geom (l.map_before (h.start + length good)) b)) where
    -- all records: those before its start, the good ones, and the rest
    whole : l.records ≡ before ++ (good ++ bad)
    whole = sym (take-append-drop (h.start - l.header.start) l.records) ∙ ap (λ (ws : List WrittenRecord). ws ++ from_start l h) (sym is_before) ∙ ap (λ (ws : List WrittenRecord). before ++ ws) split

    -- the same from the durable header's start on
    from_header : from_start l l.header ≡ (before ++ good) ++ bad
    from_header = whole_list l ∙ whole ∙ sym (Rattle.std.proofs.Common.append_assoc before good bad)

    -- how many come before its start
    before_length : length before ≡ h.start - l.header.start
    before_length = omega (arith, ap (λ (ws : List WrittenRecord). length ws) is_before, length-take {A = WrittenRecord} (h.start - l.header.start) l.records, may.fits.start, may.fits.sure, may.fits.last)

    -- counted from either start, the good ones end at one number
    count_new : l.header.start + length (before ++ good) ≡ h.start + length good
    count_new = omega (arith, length-append before good, before_length, may.fits.start)

    -- so the block is live there by both, and all that is known comes before it by both
    live_header : IsTrue (is_live l.geom (l.map_before (l.header.start + length (before ++ good))) b)
    live_header = subst (λ n. IsTrue (is_live l.geom (l.map_before n) b)) (sym count_new) live

    sure_header : l.known ≤ l.header.start + length (before ++ good)
    sure_header = omega (arith, count_new, sure, may.fits.sure_grows)

    -- under the durable header what is at home is the map
    old_map : otherwise (cover None (before ++ good) b) (latest (cell_of base log b)) ≡ l.map_before (h.start + length good) b
    old_map = k.home.map l.header (before ++ good) bad b (inl refl) from_header sure_header live_header ∙ ap (λ n. l.map_before n b) count_new

    -- what only the records before its start cover is at home
    placed : (y : List ℕ) → cover None good b ≡ None → cover None (before ++ good) b ≡ Some y → (latest (cell_of base log b) ≡ y) × ((cell_of base log b).pending ≡ [])
    placed = may.placed before good bad b whole before_length sure live

    -- so under the new header what is at home is the map too
    new_map : otherwise (cover None good b) (latest (cell_of base log b)) ≡ l.map_before (h.start + length good) b
    new_map = ⊎_elim passed fixed (leave_or_decide good b)
      where
        fixed : ((o : Option (List ℕ)) → cover o good b ≡ cover None good b) → otherwise (cover None good b) (latest (cell_of base log b)) ≡ l.map_before (h.start + length good) b
        fixed decides = ap (λ o. otherwise o (latest (cell_of base log b))) (sym (cover-parts before good None b ∙ decides (cover None before b))) ∙ old_map

        passed : ((i : ℕ) (w : WrittenRecord) → slice_get good i ≡ Some w → LeavesAlone w b) → otherwise (cover None good b) (latest (cell_of base log b)) ≡ l.map_before (h.start + length good) b
        passed alone = ⊎_elim (λ none. ap (λ o. otherwise o (latest (cell_of base log b))) (alone_leaves good b None alone ∙ sym none) ∙ old_map)
            (λ some. ap (λ o. otherwise o (latest (cell_of base log b))) (alone_leaves good b None alone) ∙ (placed some.0 (alone_leaves good b None alone) some.1).0 ∙ sym (ap (λ o. otherwise o (latest (cell_of base log b))) some.1) ∙ old_map)
            (inspect (cover None (before ++ good) b))

    -- and where the good ones don't cover the block, nothing is pending on it or one of them wrote it fresh
    new_laid : cover None good b ≡ None → IsLaid (cell_of base log) h good b
    new_laid none = ⊎_elim uncovered (λ some. inl (placed some.0 none some.1).1) (inspect (cover None (before ++ good) b))
      where
        later : (i j : ℕ) (w : WrittenRecord) (e : Entry) → slice_get (before ++ good) i ≡ Some w → l.header.sure < w.says.number → slice_get w.says.fresh j ≡ Some e → e.block ≡ b → IsLaid (cell_of base log) h good b
        later i j w e is late at same =
            let in_all : slice_get ((before ++ good) ++ bad) i ≡ Some w = get_front (before ++ good) bad i w is in
            let in_from : slice_get (from_start l l.header) i ≡ Some w = ap (λ (ws : List WrittenRecord). slice_get ws i) from_header ∙ in_all in
            let number : w.says.number ≡ l.header.start + i = number_at l.geom.j l.header.start l.header.at (from_start l l.header) i w (k.headers.fits l.header (inl refl)).consecutive in_from in
            let in_records : slice_get l.records i ≡ Some w = ap (λ (ws : List WrittenRecord). slice_get ws i) (sym (whole_list l)) ∙ in_from in
            ⊎_elim (λ past. inr (i - length before, w, j, e, behind i w (omega (arith, past, number, may.fits.sure, before_length, may.fits.start)) is, past, at, same))
            (λ early. inl (subst (λ c. (cell_of base log c).pending ≡ []) same ((k.each i w in_records).intact_fresh late (omega (arith, early, may.fits.known)) j e at)))
            (cases_lt h.sure w.says.number)
          where
            behind : (i : ℕ) (w : WrittenRecord) → length before ≤ i → slice_get (before ++ good) i ≡ Some w → slice_get good (i - length before) ≡ Some w
            behind i w le is = sym (get_behind before good (i - length before)) ∙ ap (slice_get (before ++ good)) (omega arith) ∙ is

        uncovered : cover None (before ++ good) b ≡ None → IsLaid (cell_of base log) h good b
        uncovered unnamed = ⊎_elim inl (λ p. later p.0 p.2 p.1 p.3 p.4 p.5 p.6 p.7) (k.home.laid l.header (before ++ good) bad b (inl refl) from_header sure_header live_header unnamed)

  -- a header leaves the disk as the ledger with it says
  pub write_header : IsConsistentWith base new (with_header l h)
  write_header = record {
    headers = record {
      is_slot = k.headers.is_slot;
      durable = ap (λ (c : Cell). header_of l.geom.n c.settled) (a.other l.slot header_apart) ∙ k.headers.durable;
      alone = ap (λ (c : Cell). c.pending) (a.other l.slot header_apart) ∙ k.headers.alone;
      other = λ y g st is. ⊎_elim (λ old. ⊎_elim inl (λ e. absurd (no_more g e)) (k.headers.other y g old is)) (λ own. inr (sym may.reads ∙ ap (header_of l.geom.n) (sym own) ∙ is)) (a.stands y st);
      newer = λ g e. subst (λ (f : Header). l.header.turn < f.turn) (same_Some _ _ e) may.newer;
      fits = λ g st. ⊎_elim (λ e. old_fits g (k.headers.fits g (inl e))) (λ e. old_fits g (subst (λ (f : Header). FitsRecords l f) (sym e) may.fits)) (standing g st);
    };
    each = λ i w is. let old = same_record base log new l k a.written w (k.each i w is) (λ j lt. others_stay a _ (ring_apart (w.says.place + j))) (λ late j e at. others_stay a e.block (high_apart e.block ((k.each i w is).in_place j e at))) in
        record { spelled = old.spelled; ring = old.ring; ring_logged = old.ring_logged; in_place = old.in_place; fresh = old.fresh; fresh_logged = old.fresh_logged; intact = old.intact; intact_fresh = old.intact_fresh };
    numbers = let old = same_numbers base log new l k a.written (λ p. others_stay a _ (ring_apart p)) in record { commit = old.commit; descriptor = old.descriptor };
    shape = k.shape;
    ring = k.ring;
    known = k.known;
    home = record {
      map = λ g good bad b st split sure live. ap (λ o. otherwise (cover None good b) o) (same_latest (l.map_before (g.start + length good)) b live)
          ∙ ⊎_elim (λ e. k.home.map g good bad b (inl e) split sure live) (λ e. map_new g good bad b (sym e) split sure live) (standing g st);
      laid = λ g good bad b st split sure live none.
          ⊎_elim (λ idle. inl (same_pending (l.map_before (g.start + length good)) b live ∙ idle)) (λ f. inr f)
          (⊎_elim (λ e. k.home.laid g good bad b (inl e) split sure live none) (λ e. laid_new g good bad b (sym e) split sure live none) (standing g st));
    };
  }
    where
      old_fits : (g : Header) → FitsRecords l g → FitsRecords (with_header l h) g
      old_fits g f = record { epoch = f.epoch; geom = f.geom; let_in = f.let_in; place = f.place; start = f.start; sure_grows = f.sure_grows; sure = f.sure; last = f.last; known = f.known; consecutive = f.consecutive; within = f.within }

      map_new : (g : Header) (good bad : List WrittenRecord) (b : ℕ) → h ≡ g → from_start l g ≡ good ++ bad → l.known ≤ g.start + length good → IsTrue (is_live l.geom (l.map_before (g.start + length good)) b) → otherwise (cover None good b) (latest (cell_of base log b)) ≡ l.map_before (g.start + length good) b
      map_new g good bad b same = subst (λ (f : Header). from_start l f ≡ good ++ bad → l.known ≤ f.start + length good → IsTrue (is_live l.geom (l.map_before (f.start + length good)) b) → otherwise (cover None good b) (latest (cell_of base log b)) ≡ l.map_before (f.start + length good) b) same
          (λ split sure live. new_map (take (h.start - l.header.start) l.records) good bad refl split sure b live)

      laid_new : (g : Header) (good bad : List WrittenRecord) (b : ℕ) → h ≡ g → from_start l g ≡ good ++ bad → l.known ≤ g.start + length good → IsTrue (is_live l.geom (l.map_before (g.start + length good)) b) → cover None good b ≡ None → IsLaid (cell_of base log) g good b
      laid_new g good bad b same = subst (λ (f : Header). from_start l f ≡ good ++ bad → l.known ≤ f.start + length good → IsTrue (is_live l.geom (l.map_before (f.start + length good)) b) → cover None good b ≡ None → IsLaid (cell_of base log) f good b) same
          (λ split sure live none. new_laid (take (h.start - l.header.start) l.records) good bad refl split sure b live none)
