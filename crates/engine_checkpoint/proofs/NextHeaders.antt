-- The next header is written beside the durable one.
use Rattle.std.proofs.Common.{◌≡◌, ◌≢◌, inl, inr, ⊎_elim, ℕ, ◌+◌, ◌-◌, ◌<◌, ◌≤◌, ◌%◌, ◌==◌, ◌||◌, true, List, [], ◌∷◌, ◌++◌, length, map, Some, refl, sym, ◌∙◌, subst, ap, arith}
use Rattle.std.proofs.lemmas.Bool.Decides.{nat_tests}
use Rattle.std.proofs.lemmas.Bool.{eqb-true}
use Rattle.std.proofs.lemmas.Option.{same_Some}
use Rattle.base_types.specs.Seal.{Blocks}
use Rattle.disk_contract.specs.declared.event.Event.{Event}
use Rattle.disk_contract.specs.declared.event.Event.TheVariants.{Wrote}
use Rattle.disk_contract.specs.Cell.{cell_of, greatest_ticket, IsAccepted}
use Rattle.layout_geometry.specs.Geometry.{bitmap_start, ring_block}
use Rattle.layout_journal.specs.declared.header.Header.{Header}
use Rattle.layout_journal.specs.Ring.{RingPlaces}
use Rattle.crash_argument.specs.Ledger.{Ledger, IsConsistentWith}
use Rattle.crash_argument.specs.Steps.{NoneIsBeingWritten, with_header}
use Rattle.crash_argument.specs.OnePending.{HasOnePending, MayWriteAllFresh}
use Rattle.crash_argument.specs.PipelineData.{DataAgree, next_header, with_pending}
use Rattle.engine_notes.specs.Notes.{Expected, is_expected, is_noticed}
use Rattle.engine_checkpoint.specs.declared.pipeline.Pending.{Pending}
use Rattle.engine_checkpoint.specs.declared.pipeline.Pipeline.{Pipeline}
use Rattle.engine_checkpoint.specs.Agree.{PipelineAgrees, IsRecordAt, data_of, home_pair}
use Rattle.engine_checkpoint.proofs.Apart.{accepted_last, accepted_more, greatest_more, greatest_last, not_old, one_or}
use Rattle.engine_checkpoint.proofs.Expected.{are_more, home_more, with_one, with_old}
use Rattle.engine_checkpoint.proofs.HomeSent.{sent_on}
use Rattle.engine_checkpoint.proofs.Notices.{noticed_before}

-- records stay where they are under another header
moved : (l : Ledger) (h : Header) (freed : List (List ℕ)) (k number place count : ℕ) (payloads : List Rattle.engine_running.specs.declared.put.Put.Put) (fresh own : List ℕ) → IsRecordAt l freed k number place count payloads fresh own → IsRecordAt (with_header l h) freed k number place count payloads fresh own
moved l h freed k number place count payloads fresh own r = record { written = r.written; is = r.is; keeps = r.keeps; freed_is = r.freed_is }

module _ (base : Blocks) (log : List Event) (l : Ledger) (v : Pipeline) (ring : RingPlaces) (waiting : List (ℕ × ℕ)) (taken : List ℕ) (a : PipelineAgrees base log l v ring waiting taken) (keeps : IsConsistentWith base log l)
    (t : ℕ) (x : List ℕ) (notes : Expected) (expect : (u : ℕ) → is_expected u notes.notes ≡ (t == u || is_expected u v.notes.notes)) (quiet : (u : ℕ) → is_noticed u notes.notes ≡ is_noticed u v.notes.notes)
    (above : greatest_ticket log < t)
    (agree : DataAgree base (log ++ Wrote t (1 - l.slot) x ∷ []) (with_header l (next_header l (length v.placed.items))) (with_pending (data_of v ring waiting) t))
    (one : HasOnePending base (log ++ Wrote t (1 - l.slot) x ∷ []) (with_header l (next_header l (length v.placed.items))) (with_pending (data_of v ring waiting) t) [])
    (free : MayWriteAllFresh (log ++ Wrote t (1 - l.slot) x ∷ []) (with_header l (next_header l (length v.placed.items))) (data_of v ring waiting) taken)
    (idle_wrote : (b : ℕ) → ((place : ℕ) → ring_block l.geom place ≢ b) → NoneIsBeingWritten (cell_of base log) l → NoneIsBeingWritten (cell_of base (log ++ Wrote t b x ∷ [])) l) where
  abbrev pub header : Header
  header = next_header l (length v.placed.items)

  abbrev pub next : Pipeline
  next = record v { next = Some (record { header = header; ticket = t }); written = header; notes = notes }

  pub agrees_header : PipelineAgrees base (log ++ Wrote t (1 - l.slot) x ∷ []) (with_header l header) next ring waiting taken
  agrees_header = record {
    geom = a.geom;
    ring_geom = a.ring_geom;
    slot = a.slot;
    header = a.header;
    next = refl;
    not_closed = λ h st. ⊎_elim (λ e. a.not_closed h (inl e)) (λ e. ap (λ (q : Header). q.closed) (sym (same_Some _ _ e))) st;
    known = a.known;
    count = a.count;
    sure = a.sure;
    batch = a.batch;
    freed = a.freed;
    freed_by = record { count = a.freed_by.count; killed = a.freed_by.killed; dead = a.freed_by.dead };
    placed_at = a.placed_at;
    sure_at = λ k s is. moved l header a.freed _ s.number s.place s.count s.payloads.items s.fresh.items s.freed.items (a.sure_at k s is);
    durable_at = λ k s is. moved l header a.freed _ s.number s.place s.count s.payloads.items s.fresh.items s.freed.items (a.durable_at k s is);
    committed_at = λ k s is. moved l header a.freed _ s.number s.place s.count s.payloads.items s.fresh.items s.freed.items (a.committed_at k s is);
    agree = agree;
    notes = λ u e. noticed_before u log (Wrote t (1 - l.slot) x) (a.notes u (sym (quiet u) ∙ e));
    given = λ u e. ⊎_elim (λ own. subst (λ n. IsAccepted n (log ++ Wrote t (1 - l.slot) x ∷ [])) (eqb-true t u own) (accepted_last log t (1 - l.slot) x)) (λ was. accepted_more u log (Wrote t (1 - l.slot) x ∷ []) (a.given u was)) (one_or (t == u) (is_expected u v.notes.notes) (sym (expect u) ∙ e));
    expected = grind (arith, nat_tests, are_more, home_more, with_one);
    apart = record {
      records = a.apart.records;
      beside = λ k u c is held. ⊎_elim (λ r. a.apart.beside k u c is (inl r)) (λ r. not_old log v a.apart k u c is (subst (λ n. greatest_ticket log < n) (own r.0 r.1 ∙ r.2) above)) held;
      header_apart = λ q is k h at same. above_all h.ticket (subst (λ n. greatest_ticket log < n) (own q is ∙ sym same) above) (a.apart.beside_upto h.ticket (inl (k, h, at, refl)));
      records_upto = λ k u c is mine. omega (arith, grows, a.apart.records_upto k u c is mine);
      beside_upto = λ u held. ⊎_elim (λ r. later u (a.apart.beside_upto u (inl r))) (λ r. subst (λ n. n ≤ greatest_ticket (log ++ Wrote t (1 - l.slot) x ∷ [])) (own r.0 r.1 ∙ r.2) (greatest_last log t (1 - l.slot) x)) held;
    };
    sent = sent_on l.geom log (Wrote t (1 - l.slot) x ∷ []) (map home_pair v.home.items) a.sent (λ k b u is low. inr (slot_below l.slot b low, tt));
    free = free;
    idle = record { each = (idle_wrote (1 - l.slot) (λ place same. slot_apart l.slot (place % l.geom.j) same) a.idle).each };
    one = one;
  }
    where
      grows : greatest_ticket log ≤ greatest_ticket (log ++ Wrote t (1 - l.slot) x ∷ [])
      grows = greatest_more log (Wrote t (1 - l.slot) x ∷ [])

      later : (u : ℕ) → u ≤ greatest_ticket log → u ≤ greatest_ticket (log ++ Wrote t (1 - l.slot) x ∷ [])
      later u upto = omega (arith, upto, grows)

      own : (q : Pending) → next.next ≡ Some q → t ≡ q.ticket
      own q is = ap (λ (p : Pending). p.ticket) (same_Some _ _ is)

      more : (u : ℕ) → is_expected u v.notes.notes ≡ true → is_expected u notes.notes ≡ true
      more u e = expect u ∙ with_old (t == u) (is_expected u v.notes.notes) e

      above_all : (u : ℕ) → greatest_ticket log < u → u ≤ greatest_ticket log → ⊥
      above_all u lt le = omega (arith, lt, le)

      slot_apart : (s k : ℕ) → 2 + k ≡ 1 - s → ⊥
      slot_apart s k e = omega (arith, e)

      slot_below : (s b : ℕ) → bitmap_start l.geom ≤ b → 1 - s ≢ b
      slot_below s b low e = omega (arith, low, e)
