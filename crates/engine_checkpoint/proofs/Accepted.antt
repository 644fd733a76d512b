-- A committed transaction joins the pipeline: the records stay in order, and there is room still for what was made ready and isn't used up.
use Rattle.std.proofs.Common.{◌≡◌, ℕ, ◌+◌, ◌-◌, ◌<◌, ◌≤◌, List, [], ◌∷◌, ◌++◌, length, take, drop, map, Option, Some, None, refl, sym, ◌∙◌, subst, ap, arith, length-append, append_assoc}
use Rattle.std.proofs.lemmas.Bool.Decides.{nat_tests}
use Rattle.std.specs.List.{All, range_with_len}
use Rattle.std.specs.VecDeque.{deque_len, deque_capacity}
use Rattle.std.proofs.lemmas.List.{length-map, map-id, drop-append-le, take-append-le}
use Rattle.std.proofs.lemmas.List.Elements.{All-nil, All-cons, All-append}
use Rattle.std.proofs.lemmas.List.FromFn.{map-range_with_len_more}
use Rattle.engine_notes.specs.declared.notes.Note.{Note}
use Rattle.engine_notes.specs.Notes.{Expected}
use Rattle.engine_running.specs.Record.{AreBelow}
use Rattle.engine_running.specs.declared.put.Put.{Put}
use Rattle.engine_running.specs.declared.commit.Committed.{Committed}
use Rattle.engine_checkpoint.specs.declared.pipeline.Pending.{Pending}
use Rattle.engine_checkpoint.specs.declared.pipeline.Pipeline.{Pipeline}
use Rattle.engine_checkpoint.specs.Advance.{writes_owed}
use Rattle.engine_checkpoint.specs.Kept.{Kept, kept, numbers, count_of, of_sure, of_durable, of_committed, total, places_taken, payloads_in, behind_batch}
use Rattle.engine_checkpoint.specs.declared.newest.Spot.{Spot}
use Rattle.engine_checkpoint.specs.Newest.{spot_room, spot_after}
use Rattle.engine_checkpoint.specs.Order.{IsInOrder, HasRoom, HasPlaces, PayloadsBelow, header_written, pending_notes}
use Rattle.engine_checkpoint.specs.Steps.{ready_after}
use Rattle.engine_checkpoint.proofs.DueHeaders.{count_numbers}
use Rattle.engine_checkpoint.proofs.Expected.{ExpectMore}
use Rattle.engine_checkpoint.proofs.Lists.{map_push}

-- one more number at the end
total_push : (ns : List ℕ) (n : ℕ) → total (ns ++ n ∷ []) ≡ total ns + n
total_push [] n = omega arith
total_push (m ∷ ns) n = omega (arith, total_push ns n)

payloads_push : (ks : List Kept) (k : Kept) → payloads_in (ks ++ k ∷ []) ≡ payloads_in ks + length k.payloads
payloads_push [] k = omega arith
payloads_push (j ∷ ks) k = omega (arith, payloads_push ks k)

range_push : (a n : ℕ) → range_with_len a n ++ (a + n) ∷ [] ≡ range_with_len a (n + 1)
range_push a n = ap (λ ns. ns ++ (a + n) ∷ []) (sym (map-id (range_with_len a n))) ∙ sym (map-range_with_len_more (λ x. x) a n (a + n) refl) ∙ map-id (range_with_len a (n + 1))

-- and keeps it where more is expected
pub note_stays : (next : Option Pending) (old new : List Note) → ExpectMore old new → pending_notes next old ≤ pending_notes next new
note_stays None old new more = omega arith
note_stays (Some q) old new more = grind (arith, nat_tests)

-- a record of the same lists
pub same_after : (before : Option Spot) (number b : ℕ) (ps qs : List Put) (fs gs hs is : List ℕ) → ps ≡ qs → fs ≡ gs → hs ≡ is → spot_after before number ps fs hs b ≡ spot_after before number qs gs is b
same_after before number b ps qs fs gs hs is e f g = cc

-- the header written last reaches no further than the last record
written_within : (v : Pipeline) → IsInOrder v → (o : Option Pending) → v.next ≡ o → ((header_written v.header o).sure ≤ v.last) × ((header_written v.header o).start ≤ v.last + 1)
written_within v order None e = (omega (arith, order.sure, order.last, count_numbers v), omega (arith, order.last))
written_within v order (Some q) e = let m = order.next q e in (omega (arith, m.sure_upto, order.last, count_numbers v), omega (arith, m.start_upto, order.last, count_numbers v))

module _ (v out : Pipeline) (c : Committed) (notes : Expected) (more : out.committed.items ≡ v.committed.items ++ c ∷ []) where
  -- the pipeline with the record, and with notes and counts of another
  abbrev then_is : Pipeline
  then_is = record v { committed = out.committed; notes = notes; last = out.last; unplaced = out.unplaced; newest = out.newest; ready = out.ready }

  pub kept_joined : kept then_is ≡ kept v ++ of_committed c ∷ []
  kept_joined = grind (arith, nat_tests, map_push, append_assoc)

  numbers_is : numbers then_is ≡ numbers v ++ c.number ∷ []
  numbers_is = grind (arith, nat_tests, kept_joined, map_push, append_assoc)

  count_is : length (numbers then_is) ≡ length (numbers v) + 1
  count_is = omega (arith, ap (λ (ns : List ℕ). length ns) numbers_is, length-append (numbers v) (c.number ∷ []))

  kept_count : length (kept then_is) ≡ length (kept v) + 1
  kept_count = omega (arith, ap (λ (ks : List Kept). length ks) kept_joined, length-append (kept v) (of_committed c ∷ []))

  pub taken_joined : places_taken then_is ≡ places_taken v + c.count
  taken_joined = omega (arith, ap (λ (ks : List Kept). total (map count_of ks)) kept_joined, ap total (map_push count_of (kept v) (of_committed c)), total_push (map count_of (kept v)) c.count)

  payloads_is : payloads_in (kept then_is) ≡ payloads_in (kept v) + length c.payloads.items
  payloads_is = ap payloads_in kept_joined ∙ payloads_push (kept v) (of_committed c)

  module _ (order : IsInOrder v) where
    -- the batch is made of sure records
    batch_within : v.batch ≤ length (kept v)
    batch_within = omega (arith, order.batch, length-append (map of_sure v.sure.items) (map of_durable v.durable.items ++ map of_committed v.committed.items), length-map v.sure.items of_sure)

    behind_is : payloads_in (behind_batch then_is) ≡ payloads_in (behind_batch v) + length c.payloads.items
    behind_is = ap (λ (ks : List Kept). payloads_in (drop v.batch ks)) kept_joined ∙ ap payloads_in (drop-append-le v.batch (kept v) (of_committed c ∷ []) batch_within) ∙ payloads_push (drop v.batch (kept v)) (of_committed c)

    batch_is : payloads_in (take v.batch (kept then_is)) ≡ payloads_in (take v.batch (kept v))
    batch_is = ap (λ (ks : List Kept). payloads_in (take v.batch ks)) kept_joined ∙ ap payloads_in (take-append-le v.batch (kept v) (of_committed c ∷ []) batch_within)

    pub owed_joined : out.last ≡ v.last + 1 → writes_owed then_is ≡ writes_owed v + length c.payloads.items + 2
    owed_joined last = let w = written_within v order v.next refl in omega (arith, behind_is, last, w.0, w.1, ap (λ h. h.sure) order.written, ap (λ h. h.start) order.written)

    module _ (is_next : c.number ≡ v.last + 1) (last : out.last ≡ c.number) (unplaced : out.unplaced ≡ v.unplaced + length c.payloads.items) (has : HasPlaces (of_committed c)) (fits : places_taken v + c.count ≤ v.geom.j) (below : AreBelow v.geom.n c.payloads.items) where
      pub order_joined : IsInOrder then_is
      order_joined = record {
        numbers_are =
            numbers_is ∙ ap (λ ns. ns ++ c.number ∷ []) order.numbers_are ∙ ap (λ n. range_with_len v.header.start (length (numbers v)) ++ n ∷ []) own_number
            ∙ range_push v.header.start (length (numbers v)) ∙ ap (range_with_len v.header.start) (sym count_is);
        last = omega (arith, order.last, count_is, is_next, last);
        sure = order.sure;
        next = λ q is. let m = order.next q is in record { start = m.start; start_upto = m.start_upto; sure = m.sure; sure_upto = m.sure_upto; turn = m.turn; epoch = m.epoch };
        written = order.written;
        batch = order.batch;
        none = order.none;
        home = omega (arith, order.home, batch_is);
        unplaced = omega (arith, unplaced, order.unplaced, payloads_is);
        few = omega (arith, unplaced, order.few, taken_joined, has);
        have_places = subst (All HasPlaces) (sym kept_joined) (All-append HasPlaces (kept v) (of_committed c ∷ []) order.have_places (All-cons HasPlaces (of_committed c) [] has (All-nil HasPlaces)));
        within = omega (arith, taken_joined, fits);
        below = subst (All (PayloadsBelow v.geom.n)) (sym kept_joined) (All-append (PayloadsBelow v.geom.n) (kept v) (of_committed c ∷ []) order.below (All-cons (PayloadsBelow v.geom.n) (of_committed c) [] below (All-nil (PayloadsBelow v.geom.n))));
      }
        where
          own_number : c.number ≡ v.header.start + length (numbers v)
          own_number = omega (arith, is_next, order.last)

    module _ (unplaced : out.unplaced ≡ v.unplaced + length c.payloads.items) (ready : out.ready ≡ ready_after c v.ready)
        (one : 0 < v.ready.records) (enough : length c.tickets.items ≤ v.ready.writes) (fits : length c.payloads.items ≤ v.ready.payloads)
        (len : deque_len out.committed ≡ deque_len v.committed + 1) (capacity : deque_capacity v.committed ≤ deque_capacity out.committed) (spots : spot_room v.newest ≤ spot_room out.newest + length c.payloads.items)
        (notes_room : v.notes.room ≤ notes.room + length c.tickets.items) (expect : ExpectMore v.notes.notes notes.notes) where
      pub room_joined : HasRoom v → HasRoom then_is
      room_joined room = grind (arith, nat_tests, count_is, kept_count, behind_is, note_stays)
