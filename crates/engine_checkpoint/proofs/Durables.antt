-- The oldest committed transaction becomes durable: all its tickets are noticed.
use Rattle.std.proofs.Common.{◌≡◌, ◌⊎◌, inl, inr, ⊎_elim, ℕ, zero, suc, ◌+◌, ◌-◌, ◌≤◌, not, true, List, [], ◌∷◌, ◌++◌, length, map, slice_get, Some, Vec, refl, sym, ◌∙◌, subst, ap, arith, length-append}
use Rattle.std.proofs.lemmas.Bool.Decides.{nat_tests}
use Rattle.std.proofs.lemmas.List.{length-map}
use Rattle.std.proofs.lemmas.Bool.{and_parts}
use Rattle.std.proofs.lemmas.Option.{same_Some}
use Rattle.base_types.specs.Seal.{Blocks}
use Rattle.disk_contract.specs.declared.event.Event.{Event}
use Rattle.layout_journal.specs.Ring.{RingPlaces}
use Rattle.crash_argument.specs.Ledger.{Ledger, WrittenRecord, IsConsistentWith}
use Rattle.crash_argument.specs.Steps.{with_known}
use Rattle.crash_argument.specs.HomeTest.{is_one_of}
use Rattle.crash_argument.specs.OnePending.{HasOnePending, MayWriteAllFresh}
use Rattle.crash_argument.specs.PipelineData.{PipelineData, DataAgree, AllNoticed, AreNewlyNoticed, SameNewTickets, with_tickets}
use Rattle.engine_notes.specs.declared.notes.Note.{Note}
use Rattle.engine_notes.specs.Notes.{Expected, is_expected, is_noticed, are_noticed, is_among}
use Rattle.engine_running.specs.declared.put.Put.{Put}
use Rattle.engine_running.specs.Rows.{put_of}
use Rattle.engine_running.specs.declared.commit.Committed.{Committed}
use Rattle.engine_running.specs.declared.states.Durable.{Durable}
use Rattle.engine_running.specs.States.{IsDurableOf, Forgets}
use Rattle.engine_checkpoint.specs.declared.pipeline.Pipeline.{Pipeline}
use Rattle.engine_checkpoint.proofs.Apart.{still_one, still_all, apart_back}
use Rattle.engine_checkpoint.proofs.Lists.{last_or}
use Rattle.engine_checkpoint.specs.Agree.{PipelineAgrees, NotesAreTrue, IsRecordAt, data_of, durable_count, no_tickets, tickets_in}

-- tickets that the notes call noticed are noticed
all_noticed : (log : List Event) (notes : List Note) (ts : List ℕ) → NotesAreTrue log notes → are_noticed ts notes ≡ true → AllNoticed log ts
all_noticed log notes [] true_now e = tt
all_noticed log notes (t ∷ ts) true_now e = let p = and_parts (is_noticed t notes) (are_noticed ts notes) e in (true_now t p.0, all_noticed log notes ts true_now p.1)

-- places in a list behind so many forgotten tickets
behind : (n k : ℕ) (xs : List (List ℕ)) → slice_get (no_tickets n ++ xs) (n + k) ≡ slice_get xs k
behind zero k xs = grind (arith, nat_tests)
behind (suc n) k xs = ap (slice_get ([] ∷ (no_tickets n ++ xs))) (s n k) ∙ behind n k xs
  where
    s : (n k : ℕ) → suc n + k ≡ suc (n + k)
    s n k = omega arith

length_none : (n : ℕ) (xs : List (List ℕ)) → length (no_tickets n ++ xs) ≡ n + length xs
length_none zero xs = omega arith
length_none (suc n) xs = omega (arith, length_none n xs)

-- a record of the ledger stays one once more are known
still_at : (l : Ledger) (n : ℕ) (freed : List (List ℕ)) (i k number place count : ℕ) (payloads : List Rattle.engine_running.specs.declared.put.Put.Put) (fresh own : List ℕ) → i ≡ k → IsRecordAt l freed i number place count payloads fresh own → IsRecordAt (with_known l n) freed k number place count payloads fresh own
still_at l n freed i k number place count payloads fresh own e r = record { written = r.written; is = ap (slice_get l.records) (sym e) ∙ r.is; keeps = r.keeps; freed_is = ap (slice_get freed) (sym e) ∙ r.freed_is }

module _ (base : Blocks) (log : List Event) (l : Ledger) (v : Pipeline) (ring : RingPlaces) (waiting : List (ℕ × ℕ)) (taken : List ℕ) (a : PipelineAgrees base log l v ring waiting taken) (keeps : IsConsistentWith base log l)
    (c : Committed) (rest : List Committed) (first : v.committed.items ≡ c ∷ rest) (all_came : are_noticed c.tickets.items v.notes.notes ≡ true) where
  -- the number of this record is the first that isn't known, and there is no other below the next
  pub newly : ((k : ℕ) (w : WrittenRecord) → slice_get l.records k ≡ Some w → w.says.number ≡ l.header.start + k) → AreNewlyNoticed log l (data_of v ring waiting) (l.known + 1)
  newly numbers k w ts is at from upto = subst (AllNoticed log) (same_Some _ _ (sym own ∙ at)) (all_noticed log v.notes.notes c.tickets.items a.notes all_came)
    where
      place : k ≡ durable_count v + 0
      place = omega (arith, numbers k w is, from, upto, a.known)

      own : slice_get (no_tickets (durable_count v) ++ map tickets_in v.committed.items) k ≡ Some c.tickets.items
      own = ap (slice_get (no_tickets (durable_count v) ++ map tickets_in v.committed.items)) place ∙ behind (durable_count v) 0 (map tickets_in v.committed.items) ∙ ap (λ (cs : List Committed). slice_get (map tickets_in cs) 0) first

  -- the pipeline then
  module _ (d : Durable) (is_of : IsDurableOf c d) (out : Pipeline) (now : out.committed.items ≡ rest) (more : out.durable.items ≡ v.durable.items ++ d ∷ [])
      (ns : Expected) (gone : Forgets c.tickets.items v.notes ns)
      (numbers : (k : ℕ) (w : WrittenRecord) → slice_get l.records k ≡ Some w → w.says.number ≡ l.header.start + k)
      (known_data : DataAgree base log (with_known l (l.known + 1)) (data_of v ring waiting))
      (known_one : HasOnePending base log (with_known l (l.known + 1)) (data_of v ring waiting) [])
      (may_go : (p : PipelineData) (tickets : List (List ℕ)) → DataAgree base log (with_known l (l.known + 1)) p → SameNewTickets (with_known l (l.known + 1)) p.tickets tickets → DataAgree base log (with_known l (l.known + 1)) (with_tickets p tickets))
      (known_free : MayWriteAllFresh log (with_known l (l.known + 1)) (data_of v ring waiting) taken) where
    abbrev next : Pipeline
    next = record v { committed = out.committed; durable = out.durable; notes = ns }

    counted : durable_count next ≡ durable_count v + 1
    counted = omega (arith, ap (λ (xs : List Durable). length xs) more, length-append v.durable.items (d ∷ []))

    sizes : length v.committed.items ≡ 1 + length out.committed.items
    sizes = omega (arith, ap (λ (xs : List Committed). length xs) first, ap (λ (xs : List Committed). length xs) now)

    first_is : slice_get v.committed.items 0 ≡ Some c
    first_is = ap (λ (xs : List Committed). slice_get xs 0) first

    committed_is : (k : ℕ) (t : Committed) → slice_get out.committed.items k ≡ Some t → slice_get v.committed.items (suc k) ≡ Some t
    committed_is k t is = ap (λ (xs : List Committed). slice_get xs (suc k)) first ∙ ap (λ (xs : List Committed). slice_get xs k) (sym now) ∙ is

    tickets : SameNewTickets (with_known l (l.known + 1)) (data_of v ring waiting).tickets (data_of next ring waiting).tickets
    tickets = record {
      count = omega (arith, length_none (durable_count next) (map tickets_in out.committed.items), length_none (durable_count v) (map tickets_in v.committed.items), length-map out.committed.items tickets_in, length-map v.committed.items tickets_in, sizes, counted);
      each = λ k w is late. same k (omega (arith, numbers k w is, late, a.known));
    }
      where
        same : (k : ℕ) → durable_count v + 1 ≤ k → slice_get (data_of next ring waiting).tickets k ≡ slice_get (data_of v ring waiting).tickets k
        same k le =
            ap (slice_get (data_of next ring waiting).tickets) (to_next k le counted) ∙ behind (durable_count next) (k - (durable_count v + 1)) (map tickets_in out.committed.items)
            ∙ ap (λ (xs : List Committed). slice_get (map tickets_in xs) (k - (durable_count v + 1))) now ∙ sym (ap (λ (xs : List Committed). slice_get (map tickets_in xs) (suc (k - (durable_count v + 1)))) first)
            ∙ sym (behind (durable_count v) (suc (k - (durable_count v + 1))) (map tickets_in v.committed.items)) ∙ ap (slice_get (data_of v ring waiting).tickets) (from_old k le)
          where
            to_next : (k : ℕ) → durable_count v + 1 ≤ k → durable_count next ≡ durable_count v + 1 → k ≡ durable_count next + (k - (durable_count v + 1))
            to_next k le e = omega (arith, le, e)

            from_old : (k : ℕ) → durable_count v + 1 ≤ k → durable_count v + suc (k - (durable_count v + 1)) ≡ k
            from_old k le = omega (arith, le)

    -- the transaction is the last durable one
    own : (k : ℕ) (t : Durable) → k ≡ length v.durable.items → d ≡ t → IsRecordAt (with_known l (l.known + 1)) a.freed (length v.placed.items + length v.sure.items + k) t.number t.place t.count t.payloads.items t.fresh.items t.freed.items
    own k t e same = subst (λ (q : Durable). IsRecordAt (with_known l (l.known + 1)) a.freed (length v.placed.items + length v.sure.items + k) q.number q.place q.count q.payloads.items q.fresh.items q.freed.items) same (record {
      written = r.written;
      is = ap (slice_get l.records) (place k e) ∙ r.is;
      keeps = record { number_is = r.keeps.number_is ∙ sym is_of.number; place_is = r.keeps.place_is ∙ sym is_of.place; count_is = r.keeps.count_is ∙ sym is_of.count; paid = λ b. r.keeps.paid b ∙ ap (λ (ps : Vec Put Rattle.std.proofs.Common.Global). put_of b ps.items) (sym is_of.payloads); laid = λ b. r.keeps.laid b ∙ ap (λ (ns : Vec ℕ Rattle.std.proofs.Common.Global). is_one_of b ns.items) (sym is_of.fresh) };
      freed_is = ap (slice_get a.freed) (place k e) ∙ r.freed_is ∙ ap (λ (ns : Vec ℕ Rattle.std.proofs.Common.Global). Some ns.items) (sym is_of.freed);
    })
      where
        r : IsRecordAt l a.freed (durable_count v + 0) c.number c.place c.count c.payloads.items c.fresh.items c.freed.items
        r = a.committed_at 0 c (ap (λ (xs : List Committed). slice_get xs 0) first)

        place : (k : ℕ) → k ≡ length v.durable.items → length v.placed.items + length v.sure.items + k ≡ durable_count v + 0
        place k e = omega (arith, e)

    pub agrees_durable : PipelineAgrees base log (with_known l (l.known + 1)) next ring waiting taken
    agrees_durable = record {
      geom = a.geom;
      ring_geom = a.ring_geom;
      slot = a.slot;
      header = a.header;
      next = a.next;
      not_closed = a.not_closed;
      known = omega (arith, a.known, counted);
      count = omega (arith, a.count, counted, sizes);
      sure = a.sure;
      batch = a.batch;
      freed = a.freed;
      freed_by = record { count = a.freed_by.count; killed = a.freed_by.killed; dead = a.freed_by.dead };
      placed_at = a.placed_at;
      sure_at = λ k t is. still_at l (l.known + 1) a.freed _ _ t.number t.place t.count t.payloads.items t.fresh.items t.freed.items refl (a.sure_at k t is);
      durable_at = λ k t is. ⊎_elim (λ old. still_at l (l.known + 1) a.freed _ _ t.number t.place t.count t.payloads.items t.fresh.items t.freed.items refl (a.durable_at k t old)) (λ e. own k t e.0 e.1)
          (last_or v.durable.items d k t (ap (λ (xs : List Durable). slice_get xs k) (sym more) ∙ is));
      committed_at = λ k t is. still_at l (l.known + 1) a.freed _ _ t.number t.place t.count t.payloads.items t.fresh.items t.freed.items (omega (arith, counted)) (a.committed_at (suc k) t (committed_is k t is));
      agree = may_go (data_of v ring waiting) (data_of next ring waiting).tickets known_data tickets;
      notes = λ t e. a.notes t (and_parts (not (is_among t c.tickets.items)) (is_noticed t v.notes.notes) (sym (gone.noticed t) ∙ e)).1;
      given = λ t e. a.given t (and_parts (not (is_among t c.tickets.items)) (is_expected t v.notes.notes) (sym (gone.expected t) ∙ e)).1;
      expected = record {
        records = λ k t is. still_all t.tickets.items c.tickets.items v.notes.notes ns.notes gone.expected (apart_back c.tickets.items t.tickets.items (a.apart.records 0 (suc k) c t (omega arith) first_is (committed_is k t is))) (a.expected.records (suc k) t (committed_is k t is));
        home = λ k h is. still_one h.ticket c.tickets.items v.notes.notes ns.notes gone.expected (a.apart.beside 0 h.ticket c first_is (inl (k, h, is, refl))) (a.expected.home k h is);
        header = λ q is. still_one q.ticket c.tickets.items v.notes.notes ns.notes gone.expected (a.apart.beside 0 q.ticket c first_is (inr (q, is, refl))) (a.expected.header q is);
      };
      apart = grind (arith, nat_tests, committed_is);
      sent = a.sent;
      free = known_free;
      idle = record { each = a.idle.each };
      one = record { one = known_one.one; slot = known_one.slot; ring = known_one.ring; block = λ b low e. ⊎_elim inl (λ r. inr (⊎_elim inl (λ w. inr (record { at = w.at; ticket = w.ticket; bytes = w.bytes; listed = w.listed; last = w.last })) r)) (known_one.block b low e); below = known_one.below; none = known_one.none };
    }
