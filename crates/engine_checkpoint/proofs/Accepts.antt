-- A committed transaction joins the pipeline: its record is in the ledger, and is the last one of the committed.
use Rattle.std.proofs.Common.{◌≡◌, ◌⊎◌, ⊎_elim, ℕ, suc, ◌+◌, ◌%◌, ◌<◌, ◌≤◌, ◌==◌, ◌||◌, nat_le, Bool, true, false, IsTrue, List, [], ◌∷◌, ◌++◌, length, map, slice_get, Some, refl, sym, ◌∙◌, subst, ap, arith, length-append, append_assoc}
use Rattle.std.proofs.lemmas.Bool.Decides.{nat_tests}
use Rattle.std.proofs.lemmas.Bool.{eqb-true, false≢true, le-leb, lt-leb, cond-true, cond-false}
use Rattle.std.proofs.lemmas.Option.{slice_get_within}
use Rattle.base_types.specs.Seal.{Blocks}
use Rattle.disk_contract.specs.declared.event.Event.{Event}
use Rattle.disk_contract.specs.Cell.{cell_of, greatest_ticket, IsNoticed}
use Rattle.layout_journal.specs.Ring.{RingPlaces, with_places}
use Rattle.layout_journal.specs.Run.{places, is_live}
use Rattle.crash_argument.specs.Ledger.{Ledger, WrittenRecord, next_number}
use Rattle.crash_argument.specs.Steps.{NoneIsBeingWritten, with_record}
use Rattle.crash_argument.specs.HomeTest.{AreFreedBy, is_one_of}
use Rattle.crash_argument.specs.OnePending.{HasOnePending}
use Rattle.crash_argument.specs.PipelineData.{PipelineData, DataAgree, AreFreed, with_committed, pairs_of}
use Rattle.engine_notes.specs.Notes.{Expected, is_expected, is_noticed, are_expected}
use Rattle.engine_running.specs.declared.commit.Committed.{Committed}
use Rattle.engine_checkpoint.specs.declared.pipeline.Pipeline.{Pipeline}
use Rattle.engine_checkpoint.specs.Agree.{PipelineAgrees, AreApart, AreNewTickets, HomeIsSent, IsRecordAt, KeepsRecord, HasFreed, data_of, durable_count, home_pair, no_tickets, tickets_in}
use Rattle.engine_checkpoint.proofs.Lists.{map_push, last_or, get_old}
use Rattle.engine_checkpoint.proofs.KeptRows.{get_behind}
use Rattle.engine_checkpoint.proofs.Apart.{none_new, one_or}
use Rattle.engine_checkpoint.proofs.Expected.{ExpectMore, are_more, home_more}

-- what is one of a list has a place there
one_of_get : (b : ℕ) (cs : List ℕ) → is_one_of b cs ≡ true → (i : ℕ) × (slice_get cs i ≡ Some b)
one_of_get b [] e = absurd (false≢true e)
one_of_get b (c ∷ cs) e = by (one_of_get b cs) (c == b) refl
  where
    by : (is_one_of b cs ≡ true → (i : ℕ) × (slice_get cs i ≡ Some b)) → (v : Bool) → (c == b) ≡ v → (i : ℕ) × (slice_get (c ∷ cs) i ≡ Some b)
    by rest true own = (0, ap Some (eqb-true c b own))
    by rest false other = let r = rest (sym (cond-false (c == b) true (is_one_of b cs) other) ∙ e) in (suc r.0, r.1)

module _ (base : Blocks) (old new : List Event) (l : Ledger) (v : Pipeline) (ring : RingPlaces) (waiting : List (ℕ × ℕ)) (taken : List ℕ) (a : PipelineAgrees base old l v ring waiting taken)
    (w : WrittenRecord) (m : Blocks) (c : Committed) (out : Pipeline) (notes : Expected) (more : out.committed.items ≡ v.committed.items ++ c ∷ [])
    -- the record is the next one, and the transaction keeps it
    (number_is : w.says.number ≡ next_number l) (keeps : KeepsRecord w c.number c.place c.count c.payloads.items c.fresh.items)
    -- these blocks are those that it freed
    (freed_then : HasFreed l m c.freed.items)
    -- each record has the number that follows from its place
    (numbers : (k : ℕ) (u : WrittenRecord) → slice_get l.records k ≡ Some u → u.says.number ≡ l.header.start + k)
    -- notices stay, no mark is set, what was expected is so still, and so are the record's tickets
    (stays : (t : ℕ) → IsNoticed t old → IsNoticed t new) (quiet : (t : ℕ) → is_noticed t notes.notes ≡ is_noticed t v.notes.notes)
    (expect : ExpectMore v.notes.notes notes.notes) (expected : are_expected c.tickets.items notes.notes ≡ true)
    -- nothing else is expected, and they are new
    (only : (t : ℕ) → is_expected t notes.notes ≡ (is_one_of t c.tickets.items || is_expected t v.notes.notes))
    (fresh : AreNewTickets old new c.tickets.items)
    -- what the commit left
    (joined : (freed : List ℕ) → AreFreed l w m freed → DataAgree base new (with_record l w m) (with_committed (data_of v ring waiting) l w c.tickets.items freed))
    (idle : NoneIsBeingWritten (cell_of base new) (with_record l w m))
    (one : (freed : List ℕ) → HasOnePending base new (with_record l w m) (with_committed (data_of v ring waiting) l w c.tickets.items freed) [])
    (sent : HomeIsSent l.geom new (map home_pair v.home.items)) where
  abbrev next : Pipeline
  next = record v { committed = out.committed; notes = notes; last = out.last; unplaced = out.unplaced; newest = out.newest; ready = out.ready }

  abbrev ring_then : RingPlaces
  ring_then = with_places ring (places w.says)

  abbrev waiting_then : List (ℕ × ℕ)
  waiting_then = waiting ++ pairs_of w.says.number c.freed.items

  same_data : with_committed (data_of v ring waiting) l w c.tickets.items c.freed.items ≡ data_of next ring_then waiting_then
  same_data = ap (λ j. record (with_committed (data_of v ring waiting) l w c.tickets.items c.freed.items) { next_place = (ring.next + places w.says) % j }) (sym (ap (λ (g : Rattle.layout_geometry.specs.Geometry.Geometry). g.j) a.ring_geom))
      ∙ ap (λ (ts : List (List ℕ)). record (data_of next ring_then waiting_then) { tickets = ts }) (append_assoc (no_tickets (durable_count v)) (map tickets_in v.committed.items) (c.tickets.items ∷ []) ∙ ap (λ (ts : List (List ℕ)). no_tickets (durable_count v) ++ ts) (sym (map_push tickets_in v.committed.items c) ∙ ap (map tickets_in) (sym more)))

  before : (n : ℕ) → n ≤ next_number l → (with_record l w m).map_before n ≡ l.map_before n
  before n le = cond-true (nat_le n (next_number l)) (l.map_before n) m (le-leb n (next_number l) le)

  after : (n : ℕ) → next_number l < n → (with_record l w m).map_before n ≡ m
  after n lt = cond-false (nat_le n (next_number l)) (l.map_before n) m (lt-leb n (next_number l) lt)

  -- each record is where it was
  still_at : (i k number place count : ℕ) (payloads : List Rattle.engine_running.specs.declared.put.Put.Put) (fresh own : List ℕ) → i ≡ k → IsRecordAt l a.freed i number place count payloads fresh own → IsRecordAt (with_record l w m) (a.freed ++ c.freed.items ∷ []) k number place count payloads fresh own
  still_at i k number place count payloads fresh own e r = grind (arith, nat_tests, get_old)

  -- and the new one is the last
  own : (k : ℕ) (t : Committed) → k ≡ length v.committed.items → c ≡ t → IsRecordAt (with_record l w m) (a.freed ++ c.freed.items ∷ []) (durable_count v + k) t.number t.place t.count t.payloads.items t.fresh.items t.freed.items
  own k t e same = subst (λ (q : Committed). IsRecordAt (with_record l w m) (a.freed ++ c.freed.items ∷ []) (durable_count v + k) q.number q.place q.count q.payloads.items q.fresh.items q.freed.items) same (record {
    written = w;
    is = ap (slice_get (l.records ++ w ∷ [])) (place k e a.count) ∙ get_behind l.records (w ∷ []) (length l.records) 0 w (omega arith) refl;
    keeps = keeps;
    freed_is = ap (slice_get (a.freed ++ c.freed.items ∷ [])) (place k e a.count ∙ sym a.freed_by.count) ∙ get_behind a.freed (c.freed.items ∷ []) (length a.freed) 0 c.freed.items (omega arith) refl;
  })
    where
      place : (k : ℕ) → k ≡ length v.committed.items → length l.records ≡ durable_count v + length v.committed.items → durable_count v + k ≡ length l.records
      place k e n = omega (arith, e, n)

  freed_by : AreFreedBy (with_record l w m) (a.freed ++ c.freed.items ∷ [])
  freed_by = record {
    count = omega (arith, a.freed_by.count, length-append a.freed (c.freed.items ∷ []), length-append l.records (w ∷ []));
    killed = λ k b u f is at low live gone. ⊎_elim
        (λ here. let small : u.says.number + 1 ≤ next_number l = omega (arith, numbers k u here, slice_get_within l.records k u here) in
        a.freed_by.killed k b u f here (old_freed k u f here at) low (subst (λ (q : Blocks). IsTrue (is_live l.geom q b)) (before u.says.number (less u small)) live) (ap (λ (q : Blocks). is_live l.geom q b) (sym (before (u.says.number + 1) small)) ∙ gone))
        (λ there. subst (λ (f : List ℕ). is_one_of b f ≡ true) (new_freed k f there.0 at)
        (freed_then.killed b low (subst (λ (q : Blocks). IsTrue (is_live l.geom q b)) (ap (with_record l w m).map_before (ap (λ (x : WrittenRecord). x.says.number) (sym there.1) ∙ number_is) ∙ before (next_number l) (omega arith)) live)
        (ap (λ (q : Blocks). is_live l.geom q b) (sym (after (u.says.number + 1) (behind u there.1))) ∙ gone)))
        (last_or l.records w k u is);
    dead = λ k b u f is at inside. ⊎_elim
        (λ here. let small : u.says.number + 1 ≤ next_number l = omega (arith, numbers k u here, slice_get_within l.records k u here) in
        ap (λ (q : Blocks). is_live l.geom q b) (before (u.says.number + 1) small) ∙ a.freed_by.dead k b u f here (old_freed k u f here at) inside)
        (λ there. ap (λ (q : Blocks). is_live l.geom q b) (after (u.says.number + 1) (behind u there.1)) ∙ freed_then.dead b (subst (λ (f : List ℕ). is_one_of b f ≡ true) (sym (new_freed k f there.0 at)) inside))
        (last_or l.records w k u is);
  }
    where
      less : (u : WrittenRecord) → u.says.number + 1 ≤ next_number l → u.says.number ≤ next_number l
      less u le = omega (arith, le)

      behind : (u : WrittenRecord) → w ≡ u → next_number l < u.says.number + 1
      behind u e = omega (arith, number_is, ap (λ (x : WrittenRecord). x.says.number) e)

      no : (k : ℕ) → k ≡ length a.freed → k < length l.records → length a.freed ≡ length l.records → ⊥
      no k e lt n = omega (arith, e, lt, n)

      too : (k : ℕ) → k ≡ length l.records → k < length a.freed → length a.freed ≡ length l.records → ⊥
      too k e lt n = omega (arith, e, lt, n)

      old_freed : (k : ℕ) (u : WrittenRecord) (f : List ℕ) → slice_get l.records k ≡ Some u → slice_get (a.freed ++ c.freed.items ∷ []) k ≡ Some f → slice_get a.freed k ≡ Some f
      old_freed k u f is at = ⊎_elim (λ x. x) (λ x. absurd (no k x.0 (slice_get_within l.records k u is) a.freed_by.count)) (last_or a.freed c.freed.items k f at)

      new_freed : (k : ℕ) (f : List ℕ) → k ≡ length l.records → slice_get (a.freed ++ c.freed.items ∷ []) k ≡ Some f → c.freed.items ≡ f
      new_freed k f e at = ⊎_elim (λ x. absurd (too k e (slice_get_within a.freed k f x) a.freed_by.count)) (λ x. x.1) (last_or a.freed c.freed.items k f at)

  -- a committed record is one that was, or the new one
  of : (k : ℕ) (x : Committed) → slice_get out.committed.items k ≡ Some x → (slice_get v.committed.items k ≡ Some x) ⊎ ((k ≡ length v.committed.items) × (c ≡ x))
  of k x is = last_or v.committed.items c k x (ap (λ (xs : List Committed). slice_get xs k) (sym more) ∙ is)

  -- none stands behind the new one
  past : (i k : ℕ) {y : Committed} → i ≡ length v.committed.items → i < k → slice_get v.committed.items k ≡ Some y → ⊥
  past i k {y} e lt is = omega (arith, e, lt, slice_get_within v.committed.items k y is)

  twice : (i k : ℕ) → i ≡ length v.committed.items → k ≡ length v.committed.items → i < k → ⊥
  twice i k e f lt = omega (arith, e, f, lt)

  later : (t : ℕ) → t ≤ greatest_ticket old → t ≤ greatest_ticket new
  later t upto = omega (arith, upto, fresh.grows)

  pub agrees_accepted : PipelineAgrees base new (with_record l w m) next ring_then waiting_then []
  agrees_accepted = record {
    geom = a.geom;
    ring_geom = a.ring_geom;
    slot = a.slot;
    header = a.header;
    next = a.next;
    not_closed = a.not_closed;
    known = a.known;
    count = omega (arith, a.count, length-append l.records (w ∷ []), ap (λ (xs : List Committed). length xs) more, length-append v.committed.items (c ∷ []));
    sure = a.sure;
    batch = a.batch;
    freed = a.freed ++ c.freed.items ∷ [];
    freed_by = freed_by;
    placed_at = λ k t is. let r = a.placed_at k t is in (r.0, get_old l.records (w ∷ []) k r.0 r.1, r.2, r.3);
    sure_at = λ k t is. still_at _ _ t.number t.place t.count t.payloads.items t.fresh.items t.freed.items refl (a.sure_at k t is);
    durable_at = λ k t is. still_at _ _ t.number t.place t.count t.payloads.items t.fresh.items t.freed.items refl (a.durable_at k t is);
    committed_at = λ k t is. ⊎_elim (λ here. still_at _ _ t.number t.place t.count t.payloads.items t.fresh.items t.freed.items refl (a.committed_at k t here)) (λ there. own k t there.0 there.1)
        (last_or v.committed.items c k t (ap (λ (xs : List Committed). slice_get xs k) (sym more) ∙ is));
    agree = subst (DataAgree base new (with_record l w m)) same_data (joined c.freed.items (λ b low live gone. one_of_get b c.freed.items (freed_then.killed b low live gone)));
    notes = λ t e. stays t (a.notes t (sym (quiet t) ∙ e));
    given = λ t e. ⊎_elim (λ own. fresh.given t own) (λ was. fresh.stays t (a.given t was)) (one_or (is_one_of t c.tickets.items) (is_expected t v.notes.notes) (sym (only t) ∙ e));
    expected = record {
      records = λ k t is. ⊎_elim (λ here. are_more t.tickets.items v.notes.notes notes.notes expect (a.expected.records k t here)) (λ there. subst (λ (q : Committed). are_expected q.tickets.items notes.notes ≡ true) there.1 expected)
          (last_or v.committed.items c k t (ap (λ (xs : List Committed). slice_get xs k) (sym more) ∙ is));
      home = home_more v.home.items v.notes.notes notes.notes expect a.expected.home;
      header = λ q is. expect q.ticket (a.expected.header q is);
    };
    apart = record {
      records = λ i k x y lt is at. ⊎_elim (λ here. ⊎_elim (λ first. a.apart.records i k x y lt first here) (λ last. absurd (past i k last.0 lt here)) (of i x is))
          (λ there. ⊎_elim (λ first. subst (λ (q : Committed). AreApart x.tickets.items q.tickets.items) there.1 (λ t own. none_new t c.tickets.items old new fresh (a.apart.records_upto i t x first own))) (λ last. absurd (twice i k last.0 there.0 lt)) (of i x is)) (of k y at);
      beside = λ k t x is held. ⊎_elim (λ here. a.apart.beside k t x here held) (λ there. subst (λ (q : Committed). is_one_of t q.tickets.items ≡ false) there.1 (none_new t c.tickets.items old new fresh (a.apart.beside_upto t held))) (of k x is);
      header_apart = a.apart.header_apart;
      records_upto = λ k t x is own. ⊎_elim (λ here. later t (a.apart.records_upto k t x here own)) (λ there. fresh.upto t (subst (λ (q : Committed). is_one_of t q.tickets.items ≡ true) (sym there.1) own)) (of k x is);
      beside_upto = λ t held. later t (a.apart.beside_upto t held);
    };
    sent = sent;
    free = λ b none. absurd (false≢true none);
    idle = idle;
    one = subst (λ (p : PipelineData). HasOnePending base new (with_record l w m) p []) same_data (one c.freed.items);
  }
