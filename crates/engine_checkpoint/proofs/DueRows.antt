-- After the steps nothing is due: what was open before them still is, and what none waits for has gone on.
use Rattle.std.proofs.Common.{◌≡◌, ◌⊎◌, inl, inr, ℕ, ◌+◌, ◌-◌, ◌<◌, ◌≤◌, ◌==◌, ◌&&◌, not, nat_lt, Bool, true, false, Some, None, Ok, List, [], ◌∷◌, length, map, slice_get, refl, sym, ◌∙◌, ap, arith, length-append, length-drop}
use Rattle.std.proofs.lemmas.Bool.Decides.{nat_tests}
use Rattle.std.proofs.lemmas.Bool.{false≢true}
use Rattle.std.proofs.lemmas.List.{length-map, length-take-le}
use Rattle.disk_contract.specs.declared.event.Event.{Event}
use Rattle.layout_journal.specs.Ring.{RingPlaces}
use Rattle.crash_argument.specs.HomeTest.{is_one_of}
use Rattle.engine_notes.specs.declared.notes.Note.{Note}
use Rattle.engine_notes.specs.Notes.{Expected, is_expected, is_noticed, is_open, none_open}
use Rattle.engine_reuse.specs.Dead.{DeadBlocks}
use Rattle.engine_running.specs.declared.commit.Committed.{Committed}
use Rattle.engine_running.specs.States.{Forgets}
use Rattle.engine_checkpoint.specs.declared.pipeline.Pending.{Pending}
use Rattle.engine_checkpoint.specs.declared.pipeline.HomeWrite.{HomeWrite}
use Rattle.engine_checkpoint.specs.declared.pipeline.Pipeline.{Pipeline}
use Rattle.engine_checkpoint.specs.Advance.{GoesForward, NothingIsDue}
use Rattle.engine_checkpoint.specs.Agree.{NotesAreTrue, OpenAreApart, home_ticket}
use Rattle.engine_checkpoint.specs.Order.{IsInOrder}
use Rattle.engine_checkpoint.specs.Steps.{is_first_settled}
use Rattle.engine_checkpoint.specs.Turns.{TurnsOrStays, EndsOrStays, BatchAdds, HeaderAdds, AddsHeader, is_header_noticed, is_batch_noticed, is_batch_due, is_header_due}
use Rattle.engine_checkpoint.proofs.Apart.{one_among, not_one, apart_back}
use Rattle.engine_checkpoint.proofs.Expected.{with_old}
use Rattle.engine_checkpoint.proofs.Homes.{home_of_one}
use Rattle.engine_checkpoint.proofs.Lists.{get_drop, nothing_in}

-- Tickets that are open stay so.

-- where others leave the notes
pub open_beside : (u : ℕ) (gone : List ℕ) (old new : Expected) → Forgets gone old new → is_one_of u gone ≡ false → is_open u old.notes ≡ true → is_open u new.notes ≡ true
open_beside u gone old new f stays held = grind (arith, f.expected u, f.noticed u, one_among u gone)

-- and where others are expected
pub open_with_more : (u : ℕ) (old new : List Note) → (is_expected u old ≡ true → is_expected u new ≡ true) → is_noticed u new ≡ is_noticed u old → is_open u old ≡ true → is_open u new ≡ true
open_with_more u old new more same held = grind arith

own_one : (t : ℕ) (ts : List ℕ) → is_one_of t (t ∷ ts) ≡ true
own_one t ts = grind (arith, nat_tests)

later_one : (t u : ℕ) (ts : List ℕ) → is_one_of u ts ≡ true → is_one_of u (t ∷ ts) ≡ true
later_one t u ts own = grind (arith, nat_tests)

still_open : (p q a b : Bool) → (p ≡ true → q ≡ true) → (a ≡ false → b ≡ false) → (not p && a) ≡ false → (not q && b) ≡ false
still_open p q a b own rest e = grind arith

-- so where one of these was open, one is
pub some_open : (ts : List ℕ) (old new : List Note) → ((u : ℕ) → is_one_of u ts ≡ true → is_open u old ≡ true → is_open u new ≡ true) → none_open ts old ≡ false → none_open ts new ≡ false
some_open [] old new stay e = e
some_open (t ∷ ts) old new stay e = still_open (is_open t old) (is_open t new) (none_open ts old) (none_open ts new) (stay t (own_one t ts)) (some_open ts old new (λ u own. stay u (later_one t u ts own))) e

-- and the oldest committed record isn't settled
pub first_open : (cs : List Committed) (old new : List Note) → ((c : Committed) → slice_get cs 0 ≡ Some c → (u : ℕ) → is_one_of u c.tickets.items ≡ true → is_open u old ≡ true → is_open u new ≡ true) → is_first_settled cs old ≡ false → is_first_settled cs new ≡ false
first_open [] old new stay e = refl
first_open (c ∷ cs) old new stay e = some_open c.tickets.items old new (stay c refl) e

none_longer : {A : Type 0} (xs : List A) → nat_lt 0 (length xs) ≡ false → xs ≡ []
none_longer xs e = nothing_in xs (grind (arith, nat_tests))

-- Of the pending header and the checkpoint writes no ticket is a committed record's.

module _ (log : List Event) (v : Pipeline) (apart : OpenAreApart log v) (k : ℕ) (d : Committed) (is : slice_get v.committed.items k ≡ Some d) (u : ℕ) (own : is_one_of u d.tickets.items ≡ true) where
  pub not_pending : (q : Pending) → v.next ≡ Some q → is_one_of u (q.ticket ∷ []) ≡ false
  not_pending q is_next = apart_back (q.ticket ∷ []) d.tickets.items (λ t one. apart.beside k t d is (inr (q, is_next, grind (arith, nat_tests)))) u own

  pub not_home : is_one_of u (map home_ticket v.home.items) ≡ false
  not_home = apart_back (map home_ticket v.home.items) d.tickets.items (λ t one. let h = home_of_one t v.home.items one in apart.beside k t d is (inl h)) u own

-- The steps that make no write.

module _ (v a b c w : Pipeline) (ring next_ring : RingPlaces) (dead next_dead : DeadBlocks) (o : IsInOrder v) (f : GoesForward v a b c w ring next_ring dead next_dead) where
  turned_on : (d : Bool) → TurnsOrStays d a b ring next_ring → (b.home.items ≡ v.home.items) × (b.batch ≡ v.batch) × (b.committed.items ≡ a.committed.items) × (b.header.start + length b.placed.items ≡ v.header.start + length v.placed.items) × (length v.sure.items ≤ length b.sure.items)
  turned_on true t = let m = o.next t.pending (sym (ap (λ (p : Pipeline). p.next) f.settles.rest) ∙ t.was) in grind (arith, length-append, length-drop)
  turned_on false t = grind arith

  b_is : (b.home.items ≡ v.home.items) × (b.batch ≡ v.batch) × (b.committed.items ≡ a.committed.items) × (b.header.start + length b.placed.items ≡ v.header.start + length v.placed.items) × (length v.sure.items ≤ length b.sure.items)
  b_is = turned_on (is_header_noticed a.next a.notes.notes) f.turns

  ended_on : (d : Bool) → EndsOrStays d b c → (c.committed.items ≡ b.committed.items) × (c.next ≡ b.next)
  ended_on true e = grind arith
  ended_on false e = grind arith

  committed_w : w.committed.items ≡ a.committed.items
  committed_w = let before = b_is in let e = ended_on (is_batch_noticed b) f.ends in grind arith

  -- what is open beside them stays so
  turn_open : (d : Bool) → TurnsOrStays d a b ring next_ring → (u : ℕ) → ((q : Pending) → v.next ≡ Some q → is_one_of u (q.ticket ∷ []) ≡ false) → is_open u a.notes.notes ≡ true → is_open u b.notes.notes ≡ true
  turn_open true t u other held = open_beside u (t.pending.ticket ∷ []) a.notes b.notes t.forgets (other t.pending (sym (ap (λ (p : Pipeline). p.next) f.settles.rest) ∙ t.was)) held
  turn_open false t u other held = ap (λ (p : Pipeline). is_open u p.notes.notes) t.0 ∙ held

  end_open : (d : Bool) → EndsOrStays d b c → (u : ℕ) → is_one_of u (map home_ticket v.home.items) ≡ false → is_open u b.notes.notes ≡ true → is_open u c.notes.notes ≡ true
  end_open true e u other held = open_beside u (map home_ticket b.home.items) b.notes c.notes e.forgets (ap (λ (hs : List HomeWrite). is_one_of u (map home_ticket hs)) b_is.0 ∙ other) held
  end_open false e u other held = ap (λ (p : Pipeline). is_open u p.notes.notes) e ∙ held

  served_open : (u : ℕ) → is_open u c.notes.notes ≡ true → is_open u w.notes.notes ≡ true
  served_open u held = ap (λ (p : Pipeline). is_open u p.notes.notes) f.rest ∙ held

  first_stays : (log : List Event) → OpenAreApart log v → (d : Committed) → slice_get a.committed.items 0 ≡ Some d → (u : ℕ) → is_one_of u d.tickets.items ≡ true → is_open u a.notes.notes ≡ true → is_open u w.notes.notes ≡ true
  first_stays log apart d is u own held = grind (arith, nat_tests, get_drop, served_open, end_open, not_home, turn_open, not_pending)

  -- a header that is pending still was so all along, and has an open ticket
  pending_b : (d : Bool) → is_header_noticed a.next a.notes.notes ≡ d → TurnsOrStays d a b ring next_ring → (q : Pending) → b.next ≡ Some q → (v.next ≡ Some q) × (is_open q.ticket b.notes.notes ≡ true)
  pending_b true test t q is = grind arith
  pending_b false test t q is = let at : a.next ≡ Some q = sym (ap (λ (p : Pipeline). p.next) t.0) ∙ is in grind arith

  pending_w : (log : List Event) → OpenAreApart log v → (q : Pending) → w.next ≡ Some q → is_open q.ticket w.notes.notes ≡ true
  pending_w log apart q is = grind (arith, nat_tests, pending_b, ended_on, served_open, end_open, not_one, home_of_one)

  -- a batch that is there still has an open checkpoint write
  batch_c : (d : Bool) → is_batch_noticed b ≡ d → EndsOrStays d b c → 0 < c.batch → none_open (map home_ticket c.home.items) c.notes.notes ≡ false
  batch_c true test e some = grind arith
  batch_c false test e some = grind (arith, nat_tests)

  batch_w : 0 < w.batch → none_open (map home_ticket w.home.items) w.notes.notes ≡ false
  batch_w some = ap (λ (p : Pipeline). none_open (map home_ticket p.home.items) p.notes.notes) f.rest ∙ batch_c (is_batch_noticed b) refl f.ends (omega (arith, some, ap (λ (p : Pipeline). p.batch) f.rest))

  -- where none is there, the one that there was is placed
  end_start : (d : Bool) → EndsOrStays d b c → c.batch ≡ 0 → c.header.start + length c.placed.items ≡ b.header.start + length b.placed.items + b.batch
  end_start true e none = let before = b_is in let few = o.batch in grind (arith, length-append, length-map, length-take-le)
  end_start false e none = grind arith

  start_w : w.batch ≡ 0 → v.header.start + length v.placed.items + v.batch ≤ w.header.start + length w.placed.items
  start_w none = let before = b_is in let e = end_start (is_batch_noticed b) f.ends in grind arith

-- The steps that write.

-- the records are the same, in the same states
record SameRows (v w : Pipeline) : Type 0 where
  header : w.header ≡ v.header
  placed : w.placed.items ≡ v.placed.items
  sure : w.sure.items ≡ v.sure.items
  durable : w.durable.items ≡ v.durable.items
  committed : w.committed.items ≡ v.committed.items

module _ (A E : Type 0) (r : A) (w x : Pipeline) where
  rows_batch : (d : Bool) → BatchAdds {A = A} {E = E} d (Ok r) w x → SameRows w x
  rows_batch true e = grind arith
  rows_batch false e = grind arith

  next_batch : (d : Bool) → BatchAdds {A = A} {E = E} d (Ok r) w x → x.next ≡ w.next
  next_batch true e = ap (λ (p : Pipeline). p.next) e.0.rest
  next_batch false e = ap (λ (p : Pipeline). p.next) e

  open_batch : (d : Bool) → BatchAdds {A = A} {E = E} d (Ok r) w x → (u : ℕ) → is_open u w.notes.notes ≡ true → is_open u x.notes.notes ≡ true
  open_batch true e u held = open_with_more u w.notes.notes x.notes.notes (λ was. e.0.expected u ∙ with_old (is_one_of u (map home_ticket x.home.items)) (is_expected u w.notes.notes) was) (e.0.noticed u) held
  open_batch false e u held = ap (λ (p : Pipeline). is_open u p.notes.notes) e ∙ held

  -- a batch that is there was there, or begins
  some_batch : (d : Bool) → is_batch_due w ≡ d → BatchAdds {A = A} {E = E} d (Ok r) w x → (0 < w.batch → none_open (map home_ticket w.home.items) w.notes.notes ≡ false) → 0 < x.batch → (none_open (map home_ticket x.home.items) x.notes.notes ≡ false) ⊎ (w.batch ≡ 0)
  some_batch true due e was some = inr (grind (arith, nat_tests))
  some_batch false due e was some = inl (grind arith)

  -- where none is, no record is sure
  no_batch : (d : Bool) → is_batch_due w ≡ d → BatchAdds {A = A} {E = E} d (Ok r) w x → x.batch ≡ 0 → w.sure.items ≡ []
  no_batch true due e none = nothing_in w.sure.items (grind arith)
  no_batch false due e none = nothing_in w.sure.items (grind (arith, nat_tests))

module _ (A E : Type 0) (r : A) (x y : Pipeline) (ring : RingPlaces) where
  rows_header : (d : Bool) → HeaderAdds {A = A} {E = E} d (Ok r) x y ring → SameRows x y
  rows_header true e = grind arith
  rows_header false e = grind arith

  batch_header : (d : Bool) → HeaderAdds {A = A} {E = E} d (Ok r) x y ring → (y.batch ≡ x.batch) × (y.home.items ≡ x.home.items)
  batch_header true e = grind arith
  batch_header false e = grind arith

  open_header : (d : Bool) → HeaderAdds {A = A} {E = E} d (Ok r) x y ring → (u : ℕ) → is_open u x.notes.notes ≡ true → is_open u y.notes.notes ≡ true
  open_header true e u held = open_with_more u x.notes.notes y.notes.notes (λ was. e.expected u ∙ with_old (e.pending.ticket == u) (is_expected u x.notes.notes) was) (e.noticed u) held
  open_header false e u held = ap (λ (p : Pipeline). is_open u p.notes.notes) e ∙ held

  -- the ticket of a header that was written isn't noticed
  new_header : (old new : List Event) (d : Bool) → AddsHeader {A = A} {E = E} d (Ok r) x y ring old new → NotesAreTrue old x.notes.notes → d ≡ true → (q : Pending) → y.next ≡ Some q → is_noticed q.ticket x.notes.notes ≡ false
  new_header old new true adds told due q is = grind (arith, nat_tests)
  new_header old new false adds told due q is = absurd (false≢true due)

  -- the pending header has an open ticket
  pending_open : (d : Bool) → HeaderAdds {A = A} {E = E} d (Ok r) x y ring → (d ≡ true → (q : Pending) → y.next ≡ Some q → is_noticed q.ticket x.notes.notes ≡ false) → ((q : Pending) → x.next ≡ Some q → is_open q.ticket x.notes.notes ≡ true) → (q : Pending) → y.next ≡ Some q → is_open q.ticket y.notes.notes ≡ true
  pending_open true e fresh was q is = let new = fresh refl q is in grind (arith, nat_tests, e.expected q.ticket, e.noticed q.ticket)
  pending_open false e fresh was q is = grind arith

  -- where none is pending, none was due
  no_header : (d : Bool) → is_header_due x ≡ d → HeaderAdds {A = A} {E = E} d (Ok r) x y ring → y.next ≡ None → (x.durable.items ≡ []) × (x.placed.items ≡ [])
  no_header true due e none = grind arith
  no_header false due e none = (nothing_in x.durable.items (grind (arith, nat_tests)), nothing_in x.placed.items (grind (arith, nat_tests)))

-- All steps.

pub nothing_due : (A E F G : Type 0) (r : A) (k : F) (v a b c w x y : Pipeline) (ring next_ring : RingPlaces) (dead next_dead : DeadBlocks) (log log1 log2 : List Event) → IsInOrder v → OpenAreApart log v
    → GoesForward v a b c w ring next_ring dead next_dead → BatchAdds {A = A} {E = E} (is_batch_due w) (Ok r) w x → HeaderAdds {A = F} {E = G} (is_header_due x) (Ok k) x y next_ring
    → AddsHeader {A = F} {E = G} (is_header_due x) (Ok k) x y next_ring log1 log2 → NotesAreTrue log1 x.notes.notes → NothingIsDue v y
nothing_due A E F G r k v a b c w x y ring next_ring dead next_dead log log1 log2 o apart f begins writes adds told = record {
  durable = ap (λ (cs : List Committed). is_first_settled cs y.notes.notes) (two.committed ∙ one.committed ∙ committed_w v a b c w ring next_ring dead next_dead o f)
      ∙ first_open a.committed.items a.notes.notes y.notes.notes (λ d is u own held. stays u (first_stays v a b c w ring next_ring dead next_dead o f log apart d is u own held)) f.settled;
  pending = pending_open F G k x y next_ring (is_header_due x) writes (new_header F G k x y next_ring log1 log2 (is_header_due x) adds told)
      (λ q is. open_batch A E r w x (is_batch_due w) begins q.ticket (pending_w v a b c w ring next_ring dead next_dead o f log apart q (sym (next_batch A E r w x (is_batch_due w) begins) ∙ is)));
  placed = λ some. by (some_batch A E r w x (is_batch_due w) refl begins (batch_w v a b c w ring next_ring dead next_dead o f) (omega (arith, some, batch.0)));
  batch = λ none. two.sure ∙ one.sure ∙ no_batch A E r w x (is_batch_due w) refl begins (sym batch.0 ∙ none);
  header = λ none. let h = no_header F G k x y next_ring (is_header_due x) refl writes none in (two.durable ∙ h.0, two.placed ∙ h.1);
}
  where
    one : SameRows w x
    one = rows_batch A E r w x (is_batch_due w) begins

    two : SameRows x y
    two = rows_header F G k x y next_ring (is_header_due x) writes

    batch : (y.batch ≡ x.batch) × (y.home.items ≡ x.home.items)
    batch = batch_header F G k x y next_ring (is_header_due x) writes

    stays : (u : ℕ) → is_open u w.notes.notes ≡ true → is_open u y.notes.notes ≡ true
    stays u held = open_header F G k x y next_ring (is_header_due x) writes u (open_batch A E r w x (is_batch_due w) begins u held)

    start : y.header.start + length y.placed.items ≡ w.header.start + length w.placed.items
    start = let s = one in let t = two in grind arith

    by : (none_open (map home_ticket x.home.items) x.notes.notes ≡ false) ⊎ (w.batch ≡ 0) → (none_open (map home_ticket y.home.items) y.notes.notes ≡ false) ⊎ (v.header.start + length v.placed.items + v.batch ≤ y.header.start + length y.placed.items)
    by (inl held) = inl (ap (λ (hs : List HomeWrite). none_open (map home_ticket hs) y.notes.notes) batch.1 ∙ some_open (map home_ticket x.home.items) x.notes.notes y.notes.notes (λ u own o. open_header F G k x y next_ring (is_header_due x) writes u o) held)
    by (inr none) = inr (omega (arith, start, start_w v a b c w ring next_ring dead next_dead o f none))
