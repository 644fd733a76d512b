-- The batch is placed: the records stand in order, and there is room for what is to come.
use Rattle.std.proofs.Common.{◌≡◌, ℕ, zero, suc, ◌+◌, ◌-◌, ◌≤◌, true, List, [], ◌∷◌, ◌++◌, length, take, drop, map, All, Some, vec_capacity, refl, sym, ◌∙◌, subst, ap, arith, length-append, length-drop}
use Rattle.std.proofs.lemmas.Bool.Decides.{nat_tests}
use Rattle.std.proofs.lemmas.List.{take-append-drop, length-take-le, length-map}
use Rattle.std.proofs.lemmas.List.Elements.{All-drop}
use Rattle.std.specs.List.{range_with_len}
use Rattle.std.specs.VecDeque.{deque_capacity}
use Rattle.engine_notes.specs.declared.notes.Note.{Note}
use Rattle.engine_notes.specs.Notes.{is_expected, is_among, are_rising}
use Rattle.engine_running.specs.declared.states.Sure.{Sure}
use Rattle.engine_running.specs.declared.states.Placed.{Placed}
use Rattle.engine_checkpoint.specs.declared.pipeline.Pending.{Pending}
use Rattle.engine_checkpoint.specs.declared.pipeline.HomeWrite.{HomeWrite}
use Rattle.engine_checkpoint.specs.declared.pipeline.Pipeline.{Pipeline}
use Rattle.engine_checkpoint.specs.Advance.{writes_owed}
use Rattle.engine_checkpoint.specs.Agree.{durable_count}
use Rattle.engine_checkpoint.specs.Batch.{placed_of}
use Rattle.engine_checkpoint.specs.Kept.{Kept, of_sure, of_durable, of_committed, number_of, count_of, placed_number, placed_count, kept, numbers, places_taken, total, payloads_in}
use Rattle.engine_checkpoint.specs.Newest.{spot_room}
use Rattle.engine_checkpoint.specs.Order.{IsInOrder, HasRoom, MovesHeader, PayloadsBelow, HasPlaces}
use Rattle.engine_checkpoint.specs.Turns.{EndsBatch}
use Rattle.engine_checkpoint.proofs.Lists.{below_none}
use Rattle.engine_checkpoint.proofs.NotesRoom.{room_back}

-- Records that are placed keep their numbers and counts, and stay where they are.

numbers_moved : (ps : List Placed) (front back : List Sure) (rest : List Kept) → map placed_number (ps ++ map placed_of front) ++ map number_of (map of_sure back ++ rest) ≡ map placed_number ps ++ map number_of (map of_sure (front ++ back) ++ rest)
numbers_moved [] [] back rest = refl
numbers_moved [] (s ∷ front) back rest = ap (λ ns. s.number ∷ ns) (numbers_moved [] front back rest)
numbers_moved (p ∷ ps) front back rest = ap (λ ns. p.number ∷ ns) (numbers_moved ps front back rest)

counts_moved : (ps : List Placed) (front back : List Sure) (rest : List Kept) → total (map placed_count (ps ++ map placed_of front)) + total (map count_of (map of_sure back ++ rest)) ≡ total (map placed_count ps) + total (map count_of (map of_sure (front ++ back) ++ rest))
counts_moved [] [] back rest = refl
counts_moved [] (s ∷ front) back rest = omega (arith, counts_moved [] front back rest)
counts_moved (p ∷ ps) front back rest = omega (arith, counts_moved ps front back rest)

pub drop_front : {A B : Type 0} (f : A → B) (n : ℕ) (xs : List A) (ys : List B) → n ≤ length xs → drop n (map f xs ++ ys) ≡ map f (drop n xs) ++ ys
drop_front f zero xs ys le = refl
drop_front f (suc n) [] ys le = absurd (below_none n (omega (arith, le)))
drop_front f (suc n) (x ∷ xs) ys le = drop_front f n xs ys (omega (arith, le))

pub take_front : {A B : Type 0} (f : A → B) (n : ℕ) (xs : List A) (ys : List B) → n ≤ length xs → take n (map f xs ++ ys) ≡ map f (take n xs)
take_front f zero xs ys le = refl
take_front f (suc n) [] ys le = absurd (below_none n (omega (arith, le)))
take_front f (suc n) (x ∷ xs) ys le = ap (λ zs. f x ∷ zs) (take_front f n xs ys (omega (arith, le)))

pub payloads_split : (n : ℕ) (ks : List Kept) → payloads_in (take n ks) + payloads_in (drop n ks) ≡ payloads_in ks
payloads_split zero ks = omega arith
payloads_split (suc n) [] = refl
payloads_split (suc n) (k ∷ ks) = omega (arith, payloads_split n ks)

-- the payloads of the batch are among all of them
pub few_in_batch : (v : Pipeline) → v.batch ≤ length v.sure.items → payloads_in (map of_sure (take v.batch v.sure.items)) ≤ payloads_in (kept v)
few_in_batch v within = omega (arith, payloads_split v.batch (kept v), ap payloads_in (take_front of_sure v.batch v.sure.items (map of_durable v.durable.items ++ map of_committed v.committed.items) within))

module _ (v w : Pipeline) (o : IsInOrder v) (e : EndsBatch v w) where
  abbrev at_end : Pipeline
  at_end = record v { notes = w.notes; placed = w.placed; sure = w.sure; batch = 0; home = w.home; unplaced = w.unplaced; newest = w.newest }

  abbrev later : List Kept
  later = map of_durable v.durable.items ++ map of_committed v.committed.items

  abbrev front : List Sure
  front = take v.batch v.sure.items

  abbrev back : List Sure
  back = drop v.batch v.sure.items

  both : front ++ back ≡ v.sure.items
  both = take-append-drop v.batch v.sure.items

  same_numbers : numbers at_end ≡ numbers v
  same_numbers = grind (arith, nat_tests, numbers_moved, both)

  same_places : places_taken at_end ≡ places_taken v
  same_places = grind (arith, nat_tests, counts_moved, both)

  -- what is kept are the records behind the batch
  kept_is : kept at_end ≡ drop v.batch (kept v)
  kept_is = ap (λ (ss : List Sure). map of_sure ss ++ later) e.sure ∙ sym (drop_front of_sure v.batch v.sure.items later o.batch)

  sizes_placed : length w.placed.items ≡ length v.placed.items + v.batch
  sizes_placed = omega (arith, ap (λ (xs : List Placed). length xs) e.placed, length-append v.placed.items (map placed_of front), length-map front placed_of, length-take-le v.batch v.sure.items o.batch)

  sizes_sure : length w.sure.items ≡ length v.sure.items - v.batch
  sizes_sure = omega (arith, ap (λ (xs : List Sure). length xs) e.sure, length-drop v.batch v.sure.items)

  counted : durable_count at_end ≡ durable_count v
  counted = omega (arith, sizes_placed, sizes_sure, o.batch)

  pub places_ended : places_taken w ≡ places_taken v
  places_ended = ap places_taken e.rest ∙ same_places

  unplaced_is : w.unplaced ≡ payloads_in (kept at_end)
  unplaced_is = omega (arith, e.unplaced, o.unplaced, payloads_split v.batch (kept v), ap payloads_in (take_front of_sure v.batch v.sure.items later o.batch), ap payloads_in kept_is)

  moves : (q : Pending) → v.next ≡ Some q → MovesHeader at_end q.header
  moves q is = let m = o.next q is in record { start = m.start; start_upto = omega (arith, m.start_upto, sizes_placed); sure = m.sure; sure_upto = omega (arith, m.sure_upto, counted); turn = m.turn; epoch = m.epoch }

  order_at_end : IsInOrder at_end
  order_at_end = record {
    numbers_are = same_numbers ∙ o.numbers_are ∙ ap (λ (ns : List ℕ). range_with_len v.header.start (length ns)) (sym same_numbers);
    last = omega (arith, ap (λ (ns : List ℕ). length ns) same_numbers, o.last);
    sure = omega (arith, o.sure, sizes_placed, sizes_sure, o.batch);
    next = moves;
    written = o.written;
    batch = omega arith;
    none = λ z. e.home;
    home = omega (arith, ap (λ (hs : List HomeWrite). length hs) e.home);
    unplaced = unplaced_is;
    few = omega (arith, o.few, same_places, e.unplaced);
    have_places = subst (All HasPlaces) (sym kept_is) (All-drop HasPlaces v.batch (kept v) o.have_places);
    within = omega (arith, o.within, same_places);
    below = subst (All (PayloadsBelow v.geom.n)) (sym kept_is) (All-drop (PayloadsBelow v.geom.n) v.batch (kept v) o.below);
  }

  pub order_ended : IsInOrder w
  order_ended = subst IsInOrder (sym e.rest) order_at_end

  pub owed_ended : writes_owed w ≡ writes_owed v
  owed_ended = ap writes_owed e.rest ∙ ap (λ n. n + (v.last - v.written.sure) + (v.last + 1 - v.written.start)) (ap payloads_in kept_is)

  module _ (h : HasRoom v) (placed_room : deque_capacity v.placed ≤ deque_capacity w.placed) (sure_room : deque_capacity v.sure ≤ deque_capacity w.sure) (home_room : vec_capacity v.home ≤ vec_capacity w.home) (newest_room : spot_room v.newest ≤ spot_room w.newest)
      (rising : are_rising w.notes.notes ≡ true)
      (few : (ns : List Note) (ts : List ℕ) → are_rising ns ≡ true → ((u : ℕ) → is_expected u ns ≡ true → is_among u ts ≡ true) → length ns ≤ length ts) where
    room_at_end : HasRoom at_end
    room_at_end = record {
      placed = omega (arith, h.placed, placed_room, ap (λ (ns : List ℕ). length ns) same_numbers);
      sure = omega (arith, h.sure, sure_room, ap (λ (ks : List Kept). length ks) kept_is, length-drop v.batch (kept v));
      durable = h.durable;
      committed = h.committed;
      home = omega (arith, h.home, home_room, e.unplaced);
      blocks = omega (arith, h.blocks, e.unplaced);
      last = omega (arith, h.last, ap payloads_in kept_is);
      newest = omega (arith, h.newest, newest_room);
      notes = omega (arith, h.notes, ap (λ (ns : List ℕ). length ns) same_numbers, ap payloads_in kept_is, room_back v (map Rattle.engine_checkpoint.specs.Agree.home_ticket v.home.items) w.notes e.forgets rising few);
    }

    pub room_ended : HasRoom w
    room_ended = subst HasRoom (sym e.rest) room_at_end
