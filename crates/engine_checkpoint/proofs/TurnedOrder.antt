-- The header that was written last becomes durable: the pipeline's records stay in order, and there is room still.
use Rattle.std.proofs.Common.{◌≡◌, ℕ, ◌+◌, ◌-◌, ◌<◌, ◌≤◌, List, [], ◌∷◌, ◌++◌, length, take, drop, map, slice_get, if◌then◌else◌, Some, None, sym, ◌∙◌, ap, arith, length-append, length-drop}
use Rattle.std.proofs.lemmas.Bool.Decides.{nat_tests}
use Rattle.std.specs.List.{All}
use Rattle.std.specs.VecDeque.{deque_capacity}
use Rattle.std.proofs.lemmas.List.{length-map, map-append, take-append-drop, drop-append-le, drop-map}
use Rattle.std.proofs.lemmas.List.Elements.{All-head, All-tail}
use Rattle.engine_notes.specs.Notes.{Expected, is_expected}
use Rattle.engine_running.specs.declared.states.Durable.{Durable}
use Rattle.engine_running.specs.declared.states.Sure.{Sure}
use Rattle.engine_running.specs.declared.states.Placed.{Placed}
use Rattle.engine_checkpoint.specs.declared.pipeline.Pending.{Pending}
use Rattle.engine_checkpoint.specs.declared.pipeline.Pipeline.{Pipeline}
use Rattle.engine_checkpoint.specs.Kept.{Kept, kept, numbers, number_of, count_of, placed_number, placed_count, of_sure, of_durable, of_committed, total, places_taken, payloads_in}
use Rattle.engine_checkpoint.specs.Order.{IsInOrder, HasRoom, MovesHeader, HasPlaces, header_notes}
use Rattle.engine_checkpoint.specs.Turns.{AreSured}
use Rattle.engine_checkpoint.specs.Advance.{writes_owed}
use Rattle.engine_checkpoint.proofs.Lists.{get_old}
use Rattle.engine_checkpoint.proofs.KeptRows.{range_at, drop_range, get_map, get_behind, moved_front, sured_kept, total_parts}

-- the pipeline once this header is durable, with rows of records and notes of another
abbrev pub turned_to : Pipeline → Pending → ℕ → Pipeline → Expected → Pipeline
turned_to v q slot out notes = record v { header = q.header; slot = slot; next = None; notes = notes; placed = out.placed; sure = out.sure; durable = out.durable }

-- where each record has a place for each of its payloads, all of them have
places_of : (ks : List Kept) → All HasPlaces ks → payloads_in ks ≤ total (map count_of ks)
places_of [] each = omega arith
places_of (k ∷ ks) each = omega (arith, All-head HasPlaces k ks each, places_of ks (All-tail HasPlaces k ks each))

module _ (v : Pipeline) (order : IsInOrder v) (q : Pending) (is_next : v.next ≡ Some q) where
  abbrev gone : ℕ
  gone = q.header.start - v.header.start

  abbrev grown : ℕ
  grown = q.header.sure - v.header.sure

  moves : MovesHeader v q.header
  moves = order.next q is_next

  gone_placed : gone ≤ length v.placed.items
  gone_placed = omega (arith, moves.start_upto)

  grown_durable : grown ≤ length v.durable.items
  grown_durable = omega (arith, moves.sure_upto, order.sure)

  -- the numbers of records follow from their places
  number_at : (k x : ℕ) → slice_get (numbers v) k ≡ Some x → x ≡ v.header.start + k
  number_at k x is = range_at v.header.start (length (numbers v)) k x (ap (λ (ns : List ℕ). slice_get ns k) (sym order.numbers_are) ∙ is)

  pub placed_before : (k : ℕ) (t : Placed) → slice_get v.placed.items k ≡ Some t → k < gone → t.number < q.header.start
  placed_before k t is lt = omega (arith, lt, number_at k t.number (get_old (map placed_number v.placed.items) (map number_of (kept v)) k t.number (get_map placed_number v.placed.items k t is)))

  pub durable_upto : (k : ℕ) (t : Durable) → slice_get v.durable.items k ≡ Some t → k < grown → t.number ≤ q.header.sure
  durable_upto k t is lt = omega (arith, lt, order.sure, number_at (length v.placed.items + (length v.sure.items + k)) t.number here)
    where
      row : slice_get (kept v) (length v.sure.items + k) ≡ Some (of_durable t)
      row = get_behind (map of_sure v.sure.items) (map of_durable v.durable.items ++ map of_committed v.committed.items) (length v.sure.items + k) k (of_durable t) (omega (arith, length-map v.sure.items of_sure)) (get_old (map of_durable v.durable.items) (map of_committed v.committed.items) k (of_durable t) (get_map of_durable v.durable.items k t is))

      here : slice_get (numbers v) (length v.placed.items + (length v.sure.items + k)) ≡ Some t.number
      here = get_behind (map placed_number v.placed.items) (map number_of (kept v)) (length v.placed.items + (length v.sure.items + k)) (length v.sure.items + k) t.number (omega (arith, length-map v.placed.items placed_number)) (get_map number_of (kept v) (length v.sure.items + k) (of_durable t) row)

  pub released_taken : total (map placed_count (take gone v.placed.items)) ≤ places_taken v
  released_taken = omega (arith, total_parts placed_count gone v.placed.items)

  module _ (slot : ℕ) (out : Pipeline) (notes : Expected) (news : List Sure)
      (ps_is : out.placed.items ≡ drop gone v.placed.items) (ss_is : out.sure.items ≡ v.sure.items ++ news) (ds_is : out.durable.items ≡ drop grown v.durable.items)
      (new_count : length news ≡ grown) (each : AreSured v.durable.items news) where
    abbrev then_is : Pipeline
    then_is = turned_to v q slot out notes

    kept_is : kept then_is ≡ kept v
    kept_is = moved_front (map of_sure out.sure.items) (map of_durable out.durable.items) (map of_sure v.sure.items) (map of_durable (take grown v.durable.items)) (map of_durable (drop grown v.durable.items)) (map of_committed v.committed.items) (map of_durable v.durable.items)
        (ap (map of_sure) ss_is ∙ map-append of_sure v.sure.items news ∙ ap (λ (ks : List Kept). map of_sure v.sure.items ++ ks) (sured_kept v.durable.items news each ∙ ap (λ n. map of_durable (take n v.durable.items)) new_count))
        (ap (map of_durable) ds_is)
        (sym (map-append of_durable (take grown v.durable.items) (drop grown v.durable.items)) ∙ ap (map of_durable) (take-append-drop grown v.durable.items))

    sizes_placed : length out.placed.items ≡ length v.placed.items - gone
    sizes_placed = omega (arith, ap (λ (xs : List Placed). length xs) ps_is, length-drop gone v.placed.items)

    sizes_sure : length out.sure.items ≡ length v.sure.items + grown
    sizes_sure = omega (arith, ap (λ (xs : List Sure). length xs) ss_is, length-append v.sure.items news, new_count)

    sizes_durable : length out.durable.items ≡ length v.durable.items - grown
    sizes_durable = omega (arith, ap (λ (xs : List Durable). length xs) ds_is, length-drop grown v.durable.items)

    numbers_is : numbers then_is ≡ drop gone (numbers v)
    numbers_is = grind (arith, nat_tests, kept_is, drop-map, drop-append-le, gone_placed, length-map)

    count_is : length (numbers then_is) ≡ length (numbers v) - gone
    count_is = omega (arith, ap (λ (ns : List ℕ). length ns) numbers_is, length-drop gone (numbers v))

    many : gone ≤ length (numbers v)
    many = omega (arith, gone_placed, length-append (map placed_number v.placed.items) (map number_of (kept v)), length-map v.placed.items placed_number)

    pub taken_turned : places_taken then_is ≡ places_taken v - total (map placed_count (take gone v.placed.items))
    taken_turned = omega (arith, total_parts placed_count gone v.placed.items, ap (λ (ps : List Placed). total (map placed_count ps)) ps_is, ap (λ (ks : List Kept). total (map count_of ks)) kept_is)

    pub owed_turned : writes_owed then_is ≡ writes_owed v
    owed_turned = ap (λ (ks : List Kept). payloads_in (drop v.batch ks) + (v.last - v.written.sure) + (v.last + 1 - v.written.start)) kept_is

    pub order_turned : IsInOrder then_is
    order_turned = grind (arith, nat_tests, numbers_is, drop_range, moves, count_is, many, sizes_placed, sizes_sure, gone_placed, kept_is, places_of, taken_turned)

    -- the capacities are as they were, and the notes gave the header's room back
    module _ (room : HasRoom v) (ps_room : deque_capacity out.placed ≡ deque_capacity v.placed) (ss_room : deque_capacity out.sure ≡ deque_capacity v.sure) (ds_room : deque_capacity out.durable ≡ deque_capacity v.durable)
        (more : v.notes.room + (if is_expected q.ticket v.notes.notes then 1 else 0) ≤ notes.room) where
      -- the pending header's note, if it has one
      own_note : header_notes v ≡ (if is_expected q.ticket v.notes.notes then 1 else 0)
      own_note = ap (λ o. header_notes (record v { next = o })) is_next

      pub room_turned : HasRoom then_is
      room_turned = grind (arith, nat_tests, count_is, kept_is, sizes_durable, own_note)
