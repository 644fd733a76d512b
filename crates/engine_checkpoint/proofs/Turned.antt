-- The header that was written last becomes durable: records before its start are released, and those up to its `sure` are sure.
use Rattle.std.proofs.Common.{◌≡◌, inl, inr, ⊎_elim, ℕ, zero, suc, ◌+◌, ◌-◌, ◌≤◌, not, nat_le, Bool, true, false, if◌then◌else◌, List, [], ◌∷◌, ◌++◌, length, take, drop, map, slice_get, Some, Vec, Global, refl, sym, ◌∙◌, subst, ap, arith, length-append, length-drop}
use Rattle.std.proofs.lemmas.Bool.Decides.{nat_tests}
use Rattle.std.proofs.lemmas.Bool.{and_parts}
use Rattle.std.proofs.lemmas.Option.{none-some, same_Some}
use Rattle.base_types.specs.Seal.{Blocks}
use Rattle.disk_contract.specs.declared.event.Event.{Event}
use Rattle.disk_contract.specs.Cell.{cell_of}
use Rattle.layout_journal.specs.declared.header.Header.{Header}
use Rattle.layout_journal.specs.Ring.{RingPlaces, without_places}
use Rattle.layout_journal.specs.Run.{all_places, places}
use Rattle.crash_argument.specs.Ledger.{Ledger, WrittenRecord, IsConsistentWith, all_say}
use Rattle.crash_argument.specs.Steps.{NoneIsBeingWritten, with_durable_header}
use Rattle.crash_argument.specs.HomeTest.{is_one_of}
use Rattle.crash_argument.specs.OnePending.{HasOnePending, MayWriteAllFresh}
use Rattle.crash_argument.specs.PipelineData.{PipelineData, DataAgree, SameNewTickets, with_tickets, WaitMore, with_waiting, with_durable, still_waiting}
use Rattle.engine_notes.specs.declared.notes.Note.{Note}
use Rattle.engine_notes.specs.Notes.{Expected, is_expected, is_noticed, is_open, is_among}
use Rattle.engine_running.specs.declared.commit.Committed.{Committed}
use Rattle.engine_running.specs.declared.put.Put.{Put}
use Rattle.engine_running.specs.Rows.{put_of}
use Rattle.engine_running.specs.declared.states.Durable.{Durable}
use Rattle.engine_running.specs.declared.states.Sure.{Sure}
use Rattle.engine_running.specs.declared.states.Placed.{Placed}
use Rattle.engine_running.specs.States.{IsSureOf, Forgets}
use Rattle.engine_checkpoint.specs.declared.pipeline.Pending.{Pending}
use Rattle.engine_checkpoint.specs.declared.pipeline.Pipeline.{Pipeline}
use Rattle.engine_checkpoint.proofs.Apart.{still_one, still_all, apart_back, not_one}
use Rattle.engine_checkpoint.proofs.Lists.{get_drop, either}
use Rattle.engine_checkpoint.proofs.TurnedOrder.{turned_to}
use Rattle.engine_checkpoint.specs.Agree.{PipelineAgrees, AreApart, IsOpenBeside, IsRecordAt, data_of, durable_count, no_tickets, tickets_in}
use Rattle.engine_checkpoint.specs.Kept.{placed_count, total}

-- forgotten tickets are dropped
drop_none : (d n : ℕ) (xs : List (List ℕ)) → d ≤ n → drop d (no_tickets n ++ xs) ≡ no_tickets (n - d) ++ xs
drop_none zero n xs le = grind (arith, nat_tests)
drop_none (suc d) zero xs le = absurd (omega arith)
drop_none (suc d) (suc n) xs le = drop_none d n xs (omega arith) ∙ ap (λ m. no_tickets m ++ xs) (s n d)
  where
    s : (n d : ℕ) → n - d ≡ suc n - suc d
    s n d = omega arith

-- all that waits on is among those that wait
waits_on : (sure : ℕ) (ws : List (ℕ × ℕ)) → WaitMore (still_waiting sure ws) ws
waits_on sure [] = record { each = λ k b r is. absurd (none-some (b, r) is) }
waits_on sure (w ∷ ws) = record { each = λ k b r is. by (waits_on sure ws) (nat_le w.1 sure) k b r is }
  where
    later : WaitMore (still_waiting sure ws) ws → (k b r : ℕ) → slice_get (still_waiting sure ws) k ≡ Some (b, r) → (i : ℕ) × (slice_get (w ∷ ws) i ≡ Some (b, r))
    later rest k b r is = let at = rest.each k b r is in (suc at.0, at.1)

    by : WaitMore (still_waiting sure ws) ws → (gone : Bool) (k b r : ℕ) → slice_get (if gone then still_waiting sure ws else w ∷ still_waiting sure ws) k ≡ Some (b, r) → (i : ℕ) × (slice_get (w ∷ ws) i ≡ Some (b, r))
    by rest true k b r is = later rest k b r is
    by rest false zero b r is = (0, is)
    by rest false (suc k) b r is = later rest k b r is

-- one of a single ticket is that one
one_alone : (t u : ℕ) → is_one_of u (t ∷ []) ≡ true → t ≡ u
one_alone t u own = grind (arith, nat_tests)

-- a ticket that is expected and not open is noticed
pub closed_noticed : (t : ℕ) (ns : List Note) → is_open t ns ≡ false → is_expected t ns ≡ true → is_noticed t ns ≡ true
closed_noticed t ns closed expected = grind (arith, nat_tests)

-- the ring places of placed records are those of the ledger's
same_places : (ws : List WrittenRecord) (ps : List Placed) (n : ℕ) → n ≤ length ps → ((k : ℕ) (t : Placed) → slice_get ps k ≡ Some t → (w : WrittenRecord) × (slice_get ws k ≡ Some w) × (places w.says ≡ t.count)) → all_places (all_say (take n ws)) ≡ total (map placed_count (take n ps))
same_places ws ps zero le each = refl
same_places ws [] (suc n) le each = absurd (omega (arith, le))
same_places [] (p ∷ ps) (suc n) le each = let r = each 0 p refl in absurd (none-some r.0 r.1)
same_places (w ∷ ws) (p ∷ ps) (suc n) le each = let r = each 0 p refl in
    omega (arith, ap (λ (x : WrittenRecord). places x.says) (same_Some _ _ r.1), r.2, same_places ws ps n (omega (arith, le)) (λ k t is. each (suc k) t is))

module _ (base : Blocks) (log : List Event) (l : Ledger) (v : Pipeline) (ring : RingPlaces) (waiting : List (ℕ × ℕ)) (taken : List ℕ) (a : PipelineAgrees base log l v ring waiting taken) (keeps : IsConsistentWith base log l)
    (q : Pending) (is_next : v.next ≡ Some q) where
  abbrev h : Header
  h = q.header

  standing : l.next ≡ Some h
  standing = a.next ∙ ap (Rattle.std.specs.Prelude.option_map Rattle.engine_checkpoint.specs.Agree.header_in) is_next

  abbrev gone : ℕ
  gone = h.start - l.header.start

  abbrev grown : ℕ
  grown = h.sure - l.header.sure

  gone_placed : gone ≤ length v.placed.items
  gone_placed = omega (arith, a.agree.is_batch.from h (inr standing), a.agree.placed_is, (keeps.headers.fits h (inr standing)).start)

  grown_durable : grown ≤ length v.durable.items
  grown_durable = omega (arith, a.sure, a.known, (keeps.headers.fits h (inr standing)).known, (keeps.headers.fits h (inr standing)).sure_grows)

  -- a record that isn't released stands so many places before
  shift : (freed : List (List ℕ)) (i k number place count : ℕ) (payloads : List Put) (fresh own : List ℕ) → gone + k ≡ i → IsRecordAt l freed i number place count payloads fresh own → IsRecordAt (with_durable_header l h) (drop gone freed) k number place count payloads fresh own
  shift freed i k number place count payloads fresh own e r = record { written = r.written; is = get_drop gone l.records k ∙ ap (slice_get l.records) e ∙ r.is; keeps = r.keeps; freed_is = get_drop gone freed k ∙ ap (slice_get freed) e ∙ r.freed_is }

  module _ (out : Pipeline) (news : List Sure) (slot : ℕ) (notes : Expected) (slot_is : slot ≡ 1 - v.slot) (forgets : Forgets (q.ticket ∷ []) v.notes notes)
      (ps_is : out.placed.items ≡ drop gone v.placed.items) (ss_is : out.sure.items ≡ v.sure.items ++ news) (ds_is : out.durable.items ≡ drop grown v.durable.items)
      (new_count : length news ≡ grown) (new_is : (i : ℕ) (s : Sure) → slice_get news i ≡ Some s → (d : Durable) × (slice_get v.durable.items i ≡ Some d) × IsSureOf d s)
      (known_data : DataAgree base log (with_durable_header l h) (with_durable (data_of v ring waiting) l h))
      (known_one : HasOnePending base log (with_durable_header l h) (with_durable (data_of v ring waiting) l h) [])
      (known_idle : NoneIsBeingWritten (cell_of base log) (with_durable_header l h))
      (known_free : MayWriteAllFresh log (with_durable_header l h) (data_of v ring waiting) taken)
      (may_go : (p : PipelineData) (tickets : List (List ℕ)) → DataAgree base log (with_durable_header l h) p → SameNewTickets (with_durable_header l h) p.tickets tickets → DataAgree base log (with_durable_header l h) (with_tickets p tickets))
      (may_wait : (p : PipelineData) (many : List (ℕ × ℕ)) → DataAgree base log (with_durable_header l h) p → WaitMore p.waiting many → DataAgree base log (with_durable_header l h) (with_waiting p many)) where
    abbrev turned : Pipeline
    turned = turned_to v q slot out notes

    -- so many ring places come back
    abbrev released : ℕ
    released = all_places (all_say (take gone l.records))

    sizes_placed : length out.placed.items ≡ length v.placed.items - gone
    sizes_placed = omega (arith, ap (λ (xs : List Placed). length xs) ps_is, length-drop gone v.placed.items)

    sizes_sure : length out.sure.items ≡ length v.sure.items + grown
    sizes_sure = omega (arith, ap (λ (xs : List Sure). length xs) ss_is, length-append v.sure.items news, new_count)

    sizes_durable : length out.durable.items ≡ length v.durable.items - grown
    sizes_durable = omega (arith, ap (λ (xs : List Durable). length xs) ds_is, length-drop grown v.durable.items)

    counted : durable_count turned ≡ durable_count v - gone
    counted = omega (arith, sizes_placed, sizes_sure, sizes_durable, gone_placed, grown_durable)

    tickets_are : drop gone (data_of v ring waiting).tickets ≡ (data_of turned (without_places ring released) waiting).tickets
    tickets_are = drop_none gone (durable_count v) (map tickets_in v.committed.items) (omega (arith, gone_placed)) ∙ ap (λ n. no_tickets n ++ map tickets_in v.committed.items) (sym counted)

    data_is : DataAgree base log (with_durable_header l h) (data_of turned (without_places ring released) waiting)
    data_is = subst (λ n. DataAgree base log (with_durable_header l h) (record (data_of turned (without_places ring released) waiting) { placed = n })) (sym sizes_placed)
        (may_wait (with_tickets (with_durable (data_of v ring waiting) l h) (data_of turned (without_places ring released) waiting).tickets) waiting
        (may_go (with_durable (data_of v ring waiting) l h) (data_of turned (without_places ring released) waiting).tickets known_data (record { count = ap (λ (ts : List (List ℕ)). length ts) (sym tickets_are); each = λ k w is late. ap (λ (ts : List (List ℕ)). slice_get ts k) (sym tickets_are) })) (waits_on h.sure waiting))

    sure_is : (k : ℕ) (t : Sure) → slice_get out.sure.items k ≡ Some t → IsRecordAt (with_durable_header l h) (drop gone a.freed) (length out.placed.items + k) t.number t.place t.count t.payloads.items t.fresh.items t.freed.items
    sure_is k t is = ⊎_elim
        (λ old. shift a.freed (length v.placed.items + k) (length out.placed.items + k) t.number t.place t.count t.payloads.items t.fresh.items t.freed.items (omega (arith, sizes_placed, gone_placed)) (a.sure_at k t old))
        (λ own. let d = new_is own.0 t own.2 in shift a.freed (length v.placed.items + length v.sure.items + own.0) (length out.placed.items + k) t.number t.place t.count t.payloads.items t.fresh.items t.freed.items (omega (arith, sizes_placed, gone_placed, own.1)) (as_sure d.0 d.2 (a.durable_at own.0 d.0 d.1)))
        (either v.sure.items news k t (ap (λ (xs : List Sure). slice_get xs k) (sym ss_is) ∙ is))
      where
        as_sure : {i : ℕ} (d : Durable) → IsSureOf d t → IsRecordAt l a.freed i d.number d.place d.count d.payloads.items d.fresh.items d.freed.items → IsRecordAt l a.freed i t.number t.place t.count t.payloads.items t.fresh.items t.freed.items
        as_sure d is_of r = record {
          written = r.written;
          is = r.is;
          keeps = record { number_is = r.keeps.number_is ∙ sym is_of.number; place_is = r.keeps.place_is ∙ sym is_of.place; count_is = r.keeps.count_is ∙ sym is_of.count; paid = λ b. r.keeps.paid b ∙ ap (λ (xs : Vec Put Global). put_of b xs.items) (sym is_of.payloads); laid = λ b. r.keeps.laid b ∙ ap (λ (ns : Vec ℕ Global). is_one_of b ns.items) (sym is_of.fresh) };
          freed_is = r.freed_is ∙ ap (λ (ns : Vec ℕ Global). Some ns.items) (sym is_of.freed);
        }

    durable_is : (k : ℕ) (t : Durable) → slice_get out.durable.items k ≡ Some t → IsRecordAt (with_durable_header l h) (drop gone a.freed) (length out.placed.items + length out.sure.items + k) t.number t.place t.count t.payloads.items t.fresh.items t.freed.items
    durable_is k t is = shift a.freed (length v.placed.items + length v.sure.items + (grown + k)) (length out.placed.items + length out.sure.items + k) t.number t.place t.count t.payloads.items t.fresh.items t.freed.items
        (omega (arith, sizes_placed, sizes_sure, gone_placed)) (a.durable_at (grown + k) t (sym (get_drop grown v.durable.items k) ∙ ap (λ (xs : List Durable). slice_get xs k) (sym ds_is) ∙ is))

    -- the header's ticket is none of a committed record
    own_apart : (k : ℕ) (c : Committed) → slice_get v.committed.items k ≡ Some c → AreApart (q.ticket ∷ []) c.tickets.items
    own_apart k c is t own = subst (λ n. is_one_of n c.tickets.items ≡ false) (one_alone q.ticket t own) (a.apart.beside k q.ticket c is (inr (q, is_next, refl)))

    -- what is open beside the records was so before
    open_before : (t : ℕ) → IsOpenBeside turned t → IsOpenBeside v t
    open_before t held = ⊎_elim inl (λ r. absurd (none-some r.0 r.1)) held

    pub agrees_turned : PipelineAgrees base log (with_durable_header l h) turned (without_places ring released) waiting taken
    agrees_turned = record {
      geom = a.geom;
      ring_geom = a.ring_geom;
      slot = slot_is ∙ ap (λ n. 1 - n) a.slot;
      header = refl;
      next = refl;
      not_closed = λ k st. ⊎_elim (λ e. ap (λ (x : Header). x.closed) e ∙ a.not_closed h (inr standing)) (λ none. absurd (none-some k none)) st;
      known = omega (arith, a.known, counted, gone_placed, (keeps.headers.fits h (inr standing)).start);
      count = omega (arith, a.count, counted, gone_placed, length-drop gone l.records);
      sure = omega (arith, a.sure, sizes_placed, sizes_sure, gone_placed, (keeps.headers.fits h (inr standing)).start, (keeps.headers.fits h (inr standing)).sure_grows);
      batch = omega (arith, a.batch, sizes_sure);
      freed = drop gone a.freed;
      freed_by = record {
        count = omega (arith, a.freed_by.count, length-drop gone a.freed, length-drop gone l.records);
        killed = λ k b w f is at. a.freed_by.killed (gone + k) b w f (sym (get_drop gone l.records k) ∙ is) (sym (get_drop gone a.freed k) ∙ at);
        dead = λ k b w f is at. a.freed_by.dead (gone + k) b w f (sym (get_drop gone l.records k) ∙ is) (sym (get_drop gone a.freed k) ∙ at);
      };
      placed_at = λ k t is. let r = a.placed_at (gone + k) t (sym (get_drop gone v.placed.items k) ∙ ap (λ (xs : List Placed). slice_get xs k) (sym ps_is) ∙ is) in (r.0, get_drop gone l.records k ∙ r.1, r.2, r.3);
      sure_at = sure_is;
      durable_at = durable_is;
      committed_at = λ k t is. shift a.freed (durable_count v + k) (durable_count turned + k) t.number t.place t.count t.payloads.items t.fresh.items t.freed.items (omega (arith, counted, gone_placed)) (a.committed_at k t is);
      agree = data_is;
      notes = λ t e. a.notes t (and_parts (not (is_among t (q.ticket ∷ []))) (is_noticed t v.notes.notes) (sym (forgets.noticed t) ∙ e)).1;
      given = λ t e. a.given t (and_parts (not (is_among t (q.ticket ∷ []))) (is_expected t v.notes.notes) (sym (forgets.expected t) ∙ e)).1;
      expected = record {
        records = λ k c is. still_all c.tickets.items (q.ticket ∷ []) v.notes.notes notes.notes forgets.expected (apart_back (q.ticket ∷ []) c.tickets.items (own_apart k c is)) (a.expected.records k c is);
        home = λ k w is. still_one w.ticket (q.ticket ∷ []) v.notes.notes notes.notes forgets.expected (not_one w.ticket (q.ticket ∷ []) (λ same. a.apart.header_apart q is_next k w is (sym (one_alone q.ticket w.ticket same)))) (a.expected.home k w is);
        header = λ k none. absurd (none-some k none);
      };
      apart = record {
        records = a.apart.records;
        beside = λ k t c is held. a.apart.beside k t c is (open_before t held);
        header_apart = λ k none. absurd (none-some k none);
        records_upto = a.apart.records_upto;
        beside_upto = λ t held. a.apart.beside_upto t (open_before t held);
      };
      sent = a.sent;
      free = known_free;
      idle = known_idle;
      one = record { one = known_one.one; slot = known_one.slot; ring = known_one.ring; block = λ b low e. ⊎_elim inl (λ r. inr (⊎_elim inl (λ w. inr (record { at = w.at; ticket = w.ticket; bytes = w.bytes; listed = w.listed; last = w.last })) r)) (known_one.block b low e); below = known_one.below; none = known_one.none };
    }

    -- the same with the ring places of the placed records, which are counted as they are released
    pub agrees_released : PipelineAgrees base log (with_durable_header l h) turned (without_places ring (total (map placed_count (take gone v.placed.items)))) waiting taken
    agrees_released = subst (λ n. PipelineAgrees base log (with_durable_header l h) turned (without_places ring n) waiting taken) (same_places l.records v.placed.items gone gone_placed (λ k t is. let r = a.placed_at k t is in (r.0, r.1, r.3))) agrees_turned
