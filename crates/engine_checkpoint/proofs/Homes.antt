-- The batch's checkpoint writes are noticed: its transactions are placed.
use Rattle.std.proofs.Common.{◌≡◌, inl, inr, ⊎_elim, ℕ, zero, suc, ◌+◌, ◌-◌, ◌==◌, ◌&&◌, not, if◌then◌else◌, Bool, true, false, List, [], ◌∷◌, ◌++◌, length, take, map, slice_get, Some, refl, sym, ◌∙◌, subst, ap, arith, length-append, length-drop}
use Rattle.std.proofs.lemmas.Option.{same_Some, none-some}
use Rattle.std.proofs.lemmas.Bool.{and_parts, eqb-true, false≢true}
use Rattle.std.proofs.lemmas.List.{length-map, length-take-le}
use Rattle.base_types.specs.Seal.{Blocks}
use Rattle.disk_contract.specs.declared.event.Event.{Event}
use Rattle.disk_contract.specs.Cell.{IsNoticed}
use Rattle.layout_journal.specs.Ring.{RingPlaces}
use Rattle.crash_argument.specs.Ledger.{Ledger, WrittenRecord}
use Rattle.crash_argument.specs.HomeTest.{is_one_of}
use Rattle.crash_argument.specs.OnePending.{HasOnePending}
use Rattle.crash_argument.specs.PipelineData.{DataAgree, IsHomeNoticed, with_placed, with_sent}
use Rattle.engine_notes.specs.declared.notes.Note.{Note}
use Rattle.engine_notes.specs.Notes.{is_expected, is_noticed, is_open, none_open, is_among}
use Rattle.engine_running.specs.declared.states.Sure.{Sure}
use Rattle.engine_running.specs.declared.states.Placed.{Placed}
use Rattle.engine_checkpoint.specs.declared.pipeline.HomeWrite.{HomeWrite}
use Rattle.engine_checkpoint.specs.declared.pipeline.Pending.{Pending}
use Rattle.engine_checkpoint.specs.declared.pipeline.Pipeline.{Pipeline}
use Rattle.engine_checkpoint.specs.Agree.{PipelineAgrees, NotesAreTrue, AreExpectedHome, IsOpenBeside, IsRecordAt, data_of, durable_count, no_tickets, tickets_in, home_pair, home_ticket}
use Rattle.engine_checkpoint.specs.Batch.{placed_of}
use Rattle.engine_checkpoint.specs.Turns.{EndsBatch}
use Rattle.engine_checkpoint.proofs.Apart.{not_one, still_one, still_all}
use Rattle.engine_checkpoint.proofs.Lists.{get_drop, either}

-- an element of a front that was mapped
get_mapped : {A B : Type 0} (f : A → B) (n : ℕ) (xs : List A) (i : ℕ) (y : B) → slice_get (map f (take n xs)) i ≡ Some y → (x : A) × (slice_get xs i ≡ Some x) × (f x ≡ y)
get_mapped f zero xs i y is = absurd (none-some y is)
get_mapped f (suc n) [] i y is = absurd (none-some y is)
get_mapped f (suc n) (x ∷ xs) zero y is = (x, refl, same_Some _ _ is)
get_mapped f (suc n) (x ∷ xs) (suc i) y is = get_mapped f n xs i y is

-- Tickets of checkpoint writes.

-- one that is expected and isn't open is noticed
noticed_of : (e n : Bool) → e ≡ true → not (e && not n) ≡ true → n ≡ true
noticed_of true true f g = refl
noticed_of true false f g = absurd (false≢true g)
noticed_of false n f g = absurd (false≢true f)

pub home_noticed : (log : List Event) (home : List HomeWrite) (notes : List Note) → NotesAreTrue log notes → AreExpectedHome home notes → none_open (map home_ticket home) notes ≡ true → IsHomeNoticed log (map home_pair home)
home_noticed log [] notes true_now expected none k b t is = absurd (none-some (b, t) is)
home_noticed log (h ∷ home) notes true_now expected none zero b t is =
    let p = and_parts (not (is_open h.ticket notes)) (none_open (map home_ticket home) notes) none in
    subst (λ u. IsNoticed u log) (ap (λ (x : ℕ × ℕ). x.1) (same_Some _ _ is)) (true_now h.ticket (noticed_of (is_expected h.ticket notes) (is_noticed h.ticket notes) (expected 0 h refl) p.0))
home_noticed log (h ∷ home) notes true_now expected none (suc k) b t is =
    let p = and_parts (not (is_open h.ticket notes)) (none_open (map home_ticket home) notes) none in
    home_noticed log home notes true_now (λ i x at. expected (suc i) x at) p.1 k b t is

-- one of these tickets is that of a checkpoint write
pub home_of_one : (u : ℕ) (home : List HomeWrite) → is_one_of u (map home_ticket home) ≡ true → (k : ℕ) × (h : HomeWrite) × (slice_get home k ≡ Some h) × (h.ticket ≡ u)
home_of_one u [] e = absurd (false≢true e)
home_of_one u (h ∷ home) e = by (home_of_one u home) (h.ticket == u) refl e
  where
    by : (is_one_of u (map home_ticket home) ≡ true → (k : ℕ) × (h : HomeWrite) × (slice_get home k ≡ Some h) × (h.ticket ≡ u)) → (v : Bool) → (h.ticket == u) ≡ v → (if v then true else is_one_of u (map home_ticket home)) ≡ true
        → (k : ℕ) × (x : HomeWrite) × (slice_get (h ∷ home) k ≡ Some x) × (x.ticket ≡ u)
    by rest true own e = (0, h, refl, eqb-true h.ticket u own)
    by rest false other e = let r = rest e in (suc r.0, r.1, r.2, r.3)

module _ (base : Blocks) (log : List Event) (l : Ledger) (v : Pipeline) (ring : RingPlaces) (waiting : List (ℕ × ℕ)) (taken : List ℕ) (a : PipelineAgrees base log l v ring waiting taken)
    (w : Pipeline) (e : EndsBatch v w)
    (known_data : DataAgree base log l (with_sent (with_placed (data_of v ring waiting)) 0))
    (known_one : HasOnePending base log l (with_placed (data_of v ring waiting)) []) where
  abbrev at_home : Pipeline
  at_home = record v { notes = w.notes; placed = w.placed; sure = w.sure; batch = 0; home = w.home; unplaced = w.unplaced; newest = w.newest }

  abbrev news : List Placed
  news = map placed_of (take v.batch v.sure.items)

  sizes_placed : length w.placed.items ≡ length v.placed.items + v.batch
  sizes_placed = omega (arith, ap (λ (xs : List Placed). length xs) e.placed, length-append v.placed.items news, length-map (take v.batch v.sure.items) placed_of, length-take-le v.batch v.sure.items a.batch)

  sizes_sure : length w.sure.items ≡ length v.sure.items - v.batch
  sizes_sure = omega (arith, ap (λ (xs : List Sure). length xs) e.sure, length-drop v.batch v.sure.items)

  counted : durable_count at_home ≡ durable_count v
  counted = omega (arith, sizes_placed, sizes_sure, a.batch)

  -- the data are those of a batch that is placed
  data_is : DataAgree base log l (data_of at_home ring waiting)
  data_is =
      subst (λ n. DataAgree base log l (record (data_of at_home ring waiting) { tickets = no_tickets n ++ map tickets_in v.committed.items })) (sym counted)
      (subst (λ n. DataAgree base log l (record (data_of at_home ring waiting) { tickets = no_tickets (durable_count v) ++ map tickets_in v.committed.items; placed = n })) (sym sizes_placed)
      (subst (λ (hw : List HomeWrite). DataAgree base log l (record (data_of at_home ring waiting) { tickets = no_tickets (durable_count v) ++ map tickets_in v.committed.items; placed = length v.placed.items + v.batch; home = map home_pair hw })) (sym e.home) known_data))

  placed_is : (k : ℕ) (t : Placed) → slice_get w.placed.items k ≡ Some t → (r : WrittenRecord) × (slice_get l.records k ≡ Some r) × (r.says.number ≡ t.number) × (Rattle.layout_journal.specs.Run.places r.says ≡ t.count)
  placed_is k t is = ⊎_elim (λ old. a.placed_at k t old) (λ own. let s = get_mapped placed_of v.batch v.sure.items own.0 t own.2 in let r = a.sure_at own.0 s.0 s.1 in (r.written, ap (slice_get l.records) own.1 ∙ r.is, r.keeps.number_is ∙ ap (λ (p : Placed). p.number) s.2, r.keeps.count_is ∙ ap (λ (p : Placed). p.count) s.2))
      (either v.placed.items news k t (ap (λ (xs : List Placed). slice_get xs k) (sym e.placed) ∙ is))

  moved : (i k number place count : ℕ) (payloads : List Rattle.engine_running.specs.declared.put.Put.Put) (fresh own : List ℕ) → i ≡ k → IsRecordAt l a.freed i number place count payloads fresh own → IsRecordAt l a.freed k number place count payloads fresh own
  moved i k number place count payloads fresh own e r = subst (λ n. IsRecordAt l a.freed n number place count payloads fresh own) e r

  -- what is open beside the records was so before
  open_before : (t : ℕ) → IsOpenBeside at_home t → IsOpenBeside v t
  open_before t held = ⊎_elim (λ r. absurd (none-some r.1 (sym (ap (λ (hw : List HomeWrite). slice_get hw r.0) e.home) ∙ r.2))) inr held

  -- no ticket of a committed record leaves the notes, nor that of the header
  stays_record : (k : ℕ) (c : Rattle.engine_running.specs.declared.commit.Committed.Committed) → slice_get v.committed.items k ≡ Some c → (u : ℕ) → is_one_of u c.tickets.items ≡ true → is_one_of u (map home_ticket v.home.items) ≡ false
  stays_record k c is u own = not_one u (map home_ticket v.home.items) (λ gone. let r = home_of_one u v.home.items gone in false≢true (sym (a.apart.beside k u c is (inl r)) ∙ own))

  stays_header : (q : Pending) → v.next ≡ Some q → is_one_of q.ticket (map home_ticket v.home.items) ≡ false
  stays_header q is = not_one q.ticket (map home_ticket v.home.items) (λ gone. let r = home_of_one q.ticket v.home.items gone in a.apart.header_apart q is r.0 r.1 r.2 r.3)

  agrees_then : PipelineAgrees base log l at_home ring waiting taken
  agrees_then = record {
    geom = a.geom;
    ring_geom = a.ring_geom;
    slot = a.slot;
    header = a.header;
    next = a.next;
    not_closed = a.not_closed;
    known = omega (arith, a.known, counted);
    count = omega (arith, a.count, counted);
    sure = omega (arith, a.sure, sizes_placed, sizes_sure, a.batch);
    batch = omega arith;
    freed = a.freed;
    freed_by = a.freed_by;
    placed_at = placed_is;
    sure_at = λ k t is. moved (length v.placed.items + (v.batch + k)) (length w.placed.items + k) t.number t.place t.count t.payloads.items t.fresh.items t.freed.items (omega (arith, sizes_placed)) (a.sure_at (v.batch + k) t (sym (get_drop v.batch v.sure.items k) ∙ ap (λ (xs : List Sure). slice_get xs k) (sym e.sure) ∙ is));
    durable_at = λ k t is. moved (length v.placed.items + length v.sure.items + k) (length w.placed.items + length w.sure.items + k) t.number t.place t.count t.payloads.items t.fresh.items t.freed.items (omega (arith, sizes_placed, sizes_sure, a.batch)) (a.durable_at k t is);
    committed_at = λ k t is. moved (durable_count v + k) (durable_count at_home + k) t.number t.place t.count t.payloads.items t.fresh.items t.freed.items (omega (arith, counted)) (a.committed_at k t is);
    agree = data_is;
    notes = λ t seen. a.notes t (and_parts (not (is_among t (map home_ticket v.home.items))) (is_noticed t v.notes.notes) (sym (e.forgets.noticed t) ∙ seen)).1;
    given = λ t seen. a.given t (and_parts (not (is_among t (map home_ticket v.home.items))) (is_expected t v.notes.notes) (sym (e.forgets.expected t) ∙ seen)).1;
    expected = record {
      records = λ k c is. still_all c.tickets.items (map home_ticket v.home.items) v.notes.notes w.notes.notes e.forgets.expected (stays_record k c is) (a.expected.records k c is);
      home = λ k h is. absurd (none-some h (sym (ap (λ (hw : List HomeWrite). slice_get hw k) e.home) ∙ is));
      header = λ q is. still_one q.ticket (map home_ticket v.home.items) v.notes.notes w.notes.notes e.forgets.expected (stays_header q is) (a.expected.header q is);
    };
    apart = record {
      records = a.apart.records;
      beside = λ k t c is held. a.apart.beside k t c is (open_before t held);
      header_apart = λ q none k h is. absurd (none-some h (sym (ap (λ (hw : List HomeWrite). slice_get hw k) e.home) ∙ is));
      records_upto = a.apart.records_upto;
      beside_upto = λ t held. a.apart.beside_upto t (open_before t held);
    };
    sent = λ k b t is. absurd (none-some (b, t) (sym (ap (λ (hw : List HomeWrite). slice_get (map home_pair hw) k) e.home) ∙ is));
    free = λ b own. ((a.free b own).0, λ k t is. absurd (none-some (b, t) (sym (ap (λ (hw : List HomeWrite). slice_get (map home_pair hw) k) e.home) ∙ is)));
    idle = a.idle;
    one = record {
      one = known_one.one;
      slot = known_one.slot;
      ring = known_one.ring;
      block = λ b low calm. ⊎_elim inl (λ r. inr (⊎_elim inl (λ x. absurd (none-some (b, x.ticket) x.listed)) r)) (known_one.block b low calm);
      below = λ k b t is. absurd (none-some (b, t) (sym (ap (λ (hw : List HomeWrite). slice_get (map home_pair hw) k) e.home) ∙ is));
      none = λ z. ap (λ (hw : List HomeWrite). map home_pair hw) e.home;
    };
  }

  pub agrees_at_home : PipelineAgrees base log l w ring waiting taken
  agrees_at_home = subst (λ (x : Pipeline). PipelineAgrees base log l x ring waiting taken) (sym e.rest) agrees_then
