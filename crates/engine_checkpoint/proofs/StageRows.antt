-- How far all records are after a round in which all tickets are noticed: one stage further.
use Rattle.std.proofs.Common.{rules, ◌≡◌, ◌⊎◌, inl, inr, ⊎_elim, ℕ, zero, suc, ◌+◌, ◌-◌, ◌<◌, ◌==◌, ◌&&◌, not, Bool, true, false, List, [], ◌∷◌, length, Option, Some, None, Ok, refl, sym, ◌∙◌, ap, subst, arith, length-append}
use Rattle.std.proofs.lemmas.Bool.Decides.{nat_tests}
use Rattle.engine_checkpoint.proofs.Lists.{nothing_in}
use Rattle.std.proofs.lemmas.Grind.{common_steps}
use Rattle.std.proofs.lemmas.Bool.{eqb-true, false≢true}
use Rattle.std.proofs.lemmas.List.{drop_all}
use Rattle.disk_contract.specs.declared.disk.DiskFault.{DiskFault}
use Rattle.layout_journal.specs.Ring.{RingPlaces}
use Rattle.engine_notes.specs.declared.notes.Note.{Note}
use Rattle.engine_notes.specs.Notes.{is_open, none_open}
use Rattle.engine_reuse.specs.Dead.{DeadBlocks}
use Rattle.engine_running.specs.declared.commit.Committed.{Committed}
use Rattle.engine_checkpoint.specs.declared.pipeline.Pending.{Pending}
use Rattle.engine_checkpoint.specs.declared.pipeline.Pipeline.{Pipeline}
use Rattle.engine_checkpoint.specs.Kept.{kept, numbers}
use Rattle.engine_checkpoint.specs.Order.{IsInOrder}
use Rattle.engine_checkpoint.specs.Stages.{AllAreDurable, AllAreSure, AllArePlaced, AllAreReleased, IsAtStage}
use Rattle.engine_checkpoint.specs.Steps.{is_first_settled}
use Rattle.engine_checkpoint.specs.Turns.{TurnsHeader, TurnsOrStays, EndsBatch, EndsOrStays, BeginsBatch, BatchAdds, WritesHeader, HeaderAdds, is_header_noticed, is_batch_noticed, is_batch_due, is_header_due, due_header}
use Rattle.engine_checkpoint.specs.Waits.{AreAllNoticed}
use Rattle.engine_checkpoint.specs.Advance.{GoesForward}
use Rattle.engine_checkpoint.proofs.Forgotten.{forgets_these, forgotten_noticed}

-- Where all tickets are noticed none is open.

not_open : (notes : List Note) → AreAllNoticed notes → (u : ℕ) → is_open u notes ≡ false
not_open notes all u = let h = all u in grind arith

none_open_at_all : (notes : List Note) → AreAllNoticed notes → (ts : List ℕ) → none_open ts notes ≡ true
none_open_at_all notes all [] = refl
none_open_at_all notes all (t ∷ ts) = ap (λ b. not b && none_open ts notes) (not_open notes all t) ∙ none_open_at_all notes all ts

-- so the oldest committed record would be settled
no_committed : (cs : List Committed) (notes : List Note) → AreAllNoticed notes → is_first_settled cs notes ≡ false → cs ≡ []
no_committed [] notes all e = refl
no_committed (c ∷ cs) notes all e = absurd (false≢true (sym e ∙ none_open_at_all notes all c.tickets.items))

-- the pending header, if there is one, has turned
turned_or_none : (o : Option Pending) (a b : Pipeline) (ring next_ring : RingPlaces) → AreAllNoticed a.notes.notes → TurnsOrStays (is_header_noticed o a.notes.notes) a b ring next_ring → ((o ≡ None) × (b ≡ a)) ⊎ TurnsHeader a b ring next_ring
turned_or_none None a b ring next_ring all t = inl (refl, t.0)
turned_or_none (Some q) a b ring next_ring all t = inr (subst (λ x. TurnsOrStays (not x) a b ring next_ring) (not_open a.notes.notes all q.ticket) t)

-- and the batch, if there is one, has ended
ended_or_none : (b c : Pipeline) → AreAllNoticed b.notes.notes → EndsOrStays (is_batch_noticed b) b c → ((b.batch ≡ 0) × (c ≡ b)) ⊎ EndsBatch b c
ended_or_none b c all e = grind (arith, nat_tests, none_open_at_all)

pub kept_length : (v : Pipeline) → length (kept v) ≡ length v.sure.items + (length v.durable.items + length v.committed.items)
kept_length v = grind (arith, common_steps)

-- What the steps that make no write leave, where all tickets are noticed.
module _ (v a b c w : Pipeline) (ring next_ring : RingPlaces) (dead next_dead : DeadBlocks) (o : IsInOrder v) (g : GoesForward v a b c w ring next_ring dead next_dead) (all : AreAllNoticed v.notes.notes) where
  a_all : AreAllNoticed a.notes.notes
  a_all = forgotten_noticed v.notes.notes a.notes.notes g.settles.forgets all

  a_committed : a.committed.items ≡ []
  a_committed = no_committed a.committed.items a.notes.notes a_all g.settled

  a_durable : v.committed.items ≡ [] → length a.durable.items ≡ length v.durable.items
  a_durable none = let none_left = a_committed in grind (arith, kept_length a, kept_length v)

  turned : ((a.next ≡ None) × (b ≡ a)) ⊎ TurnsHeader a b ring next_ring
  turned = turned_or_none a.next a b ring next_ring a_all g.turns

  b_all : AreAllNoticed b.notes.notes
  b_all = ⊎_elim (λ s. subst (λ (p : Pipeline). AreAllNoticed p.notes.notes) (sym s.1) a_all) (λ t. forgotten_noticed a.notes.notes b.notes.notes (forgets_these (t.pending.ticket ∷ []) a.notes b.notes t.forgets) a_all) turned

  b_is : (b.next ≡ None) × (b.committed.items ≡ []) × (b.batch ≡ v.batch)
  b_is = let t = turned in let none_left = a_committed in grind arith

  -- the pending header was one that makes all sure and releases all that are placed
  b_placed : AllAreDurable v → b.placed.items ≡ []
  b_placed d = let t = turned in grind (arith, drop_all)

  b_durable : AllAreDurable v → b.durable.items ≡ []
  b_durable d = let t = turned in let same = a_durable d.committed in let none = nothing_in a.durable.items in grind (arith, drop_all)

  b_sure : AllAreSure v → length b.sure.items ≡ length v.sure.items
  b_sure s = let t = turned in grind (arith, length-append)

  ended : ((b.batch ≡ 0) × (c ≡ b)) ⊎ EndsBatch b c
  ended = ended_or_none b c b_all g.ends

  c_is : (c.next ≡ None) × (c.batch ≡ 0) × (c.committed.items ≡ []) × (c.durable.items ≡ b.durable.items)
  c_is = let e = ended in let before = b_is in grind arith

  w_is : (w.next ≡ None) × (w.batch ≡ 0) × (w.committed.items ≡ [])
  w_is = let before = c_is in grind arith

  w_durable : AllAreDurable v → w.durable.items ≡ []
  w_durable d = let before = c_is in let none = b_durable d in grind arith

  w_sure : AllAreSure v → w.sure.items ≡ []
  w_sure s = let e = ended in let before = b_is in let same = b_sure s in let none = nothing_in b.sure.items in grind (arith, drop_all)

  w_placed : AllArePlaced v → w.placed.items ≡ []
  w_placed p = let e = ended in let before = b_is in let none = b_placed p.before.before in grind (arith, common_steps)

-- a batch has begun, or no record is sure
begun_or_none : {A : Type 0} (u : A) (w x : Pipeline) → w.batch ≡ 0 → BatchAdds {E = DiskFault} (is_batch_due w) (Ok u) w x → ((length w.sure.items ≡ 0) × (x ≡ w)) ⊎ BeginsBatch w x
begun_or_none u w x none t = grind (arith, nat_tests)

-- a header is written, or no record is durable or placed
written_or_none : {A : Type 0} (u : A) (x y : Pipeline) (ring : RingPlaces) → x.next ≡ None → HeaderAdds {E = DiskFault} (is_header_due x) (Ok u) x y ring → ((length x.durable.items ≡ 0) × (length x.placed.items ≡ 0) × (y ≡ x)) ⊎ ((0 < length x.durable.items + length x.placed.items) × WritesHeader x y ring)
written_or_none u x y ring none t = grind (arith, nat_tests)

-- What the steps that write leave, where no committed record, no pending header and no batch was.
module _ {A B : Type 0} (u : A) (z : B) (w x y : Pipeline) (ring : RingPlaces) (none : (w.next ≡ None) × (w.batch ≡ 0) × (w.committed.items ≡ [])) (begins : BatchAdds {E = DiskFault} (is_batch_due w) (Ok u) w x) (adds : HeaderAdds {E = DiskFault} (is_header_due x) (Ok z) x y ring) where
  begun : ((length w.sure.items ≡ 0) × (x ≡ w)) ⊎ BeginsBatch w x
  begun = begun_or_none u w x none.1 begins

  x_is : (x.next ≡ None) × (x.committed.items ≡ []) × (x.durable.items ≡ w.durable.items) × (x.sure.items ≡ w.sure.items) × (x.placed.items ≡ w.placed.items) × (length w.sure.items ≡ x.batch)
  x_is = let b = begun in grind arith

  written : ((length x.durable.items ≡ 0) × (length x.placed.items ≡ 0) × (y ≡ x)) ⊎ ((0 < length x.durable.items + length x.placed.items) × WritesHeader x y ring)
  written = written_or_none z x y ring x_is.0 adds

  y_is : (y.committed.items ≡ []) × (y.durable.items ≡ w.durable.items) × (y.sure.items ≡ w.sure.items) × (y.placed.items ≡ w.placed.items) × (length y.sure.items ≡ y.batch)
  y_is = let h = written in let before = x_is in grind arith

  -- the pending header is the one that was due
  due : (q : Pending) → y.next ≡ Some q → (0 < length x.durable.items + length x.placed.items) × (q.header ≡ due_header x ring) × (y ≡ record x { next = y.next; written = due_header x ring; notes = y.notes })
  due q is = let h = written in let before = x_is in grind arith

  -- and where none is pending none was due
  none_due : y.next ≡ None → (length x.durable.items ≡ 0) × (length x.placed.items ≡ 0)
  none_due is = let h = written in grind arith

  all_durable : AllAreDurable y
  all_durable = record {
    committed = y_is.0;
    start = λ q is. let h = due q is in grind arith;
    sure = λ q is. let h = due q is in grind arith;
    durable = λ is. nothing_in y.durable.items (let n = none_due is in let before = x_is in let after = y_is in grind arith);
    placed = λ is. nothing_in y.placed.items (let n = none_due is in let before = x_is in let after = y_is in grind arith);
  }

  all_sure : w.durable.items ≡ [] → AllAreSure y
  all_sure d = record { before = all_durable; durable = y_is.1 ∙ d; batch = y_is.4 }

  all_placed : w.durable.items ≡ [] → w.sure.items ≡ [] → AllArePlaced y
  all_placed d s = record { before = all_sure d; sure = y_is.2 ∙ s }

  all_released : w.durable.items ≡ [] → w.sure.items ≡ [] → w.placed.items ≡ [] → AllAreReleased y
  all_released d s p = record { before = all_placed d s; placed = y_is.3 ∙ p }

-- all steps together: one stage further
pub stage_on : {A B : Type 0} (u : A) (z : B) (v a b c w x y : Pipeline) (ring next_ring : RingPlaces) (dead next_dead : DeadBlocks)
    → IsInOrder v
    → GoesForward v a b c w ring next_ring dead next_dead
    → BatchAdds {E = DiskFault} (is_batch_due w) (Ok u) w x
    → HeaderAdds {E = DiskFault} (is_header_due x) (Ok z) x y next_ring
    → AreAllNoticed v.notes.notes → (k : ℕ) → IsAtStage k v → IsAtStage (k + 1) y
stage_on u z v a b c w x y ring next_ring dead next_dead o g begins adds all k s = subst (λ n. IsAtStage n y) one_more (by k s)
  where
    is : (w.next ≡ None) × (w.batch ≡ 0) × (w.committed.items ≡ [])
    is = w_is v a b c w ring next_ring dead next_dead o g all

    durable : AllAreDurable v → w.durable.items ≡ []
    durable = w_durable v a b c w ring next_ring dead next_dead o g all

    sure : AllAreSure v → w.sure.items ≡ []
    sure = w_sure v a b c w ring next_ring dead next_dead o g all

    placed : AllArePlaced v → w.placed.items ≡ []
    placed = w_placed v a b c w ring next_ring dead next_dead o g all

    released : AllArePlaced v → AllAreReleased y
    released s = all_released u z w x y next_ring is begins adds (durable s.before.before) (sure s.before) (placed s)

    one_more : suc k ≡ k + 1
    one_more = omega arith

    by : (k : ℕ) → IsAtStage k v → IsAtStage (suc k) y
    by zero s = all_durable u z w x y next_ring is begins adds
    by (suc zero) s = all_sure u z w x y next_ring is begins adds (durable s)
    by (suc (suc zero)) s = all_placed u z w x y next_ring is begins adds (durable s.before) (sure s)
    by (suc (suc (suc zero))) s = released s
    by (suc (suc (suc (suc n)))) s = released s.before

-- no record at all is as far as can be
pub empty_is_at_each_stage : (v : Pipeline) → IsInOrder v → v.placed.items ≡ [] → v.sure.items ≡ [] → v.durable.items ≡ [] → v.committed.items ≡ [] → (k : ℕ) → IsAtStage k v
empty_is_at_each_stage v o placed sure durable committed k = by k
  where
    released : AllAreReleased v
    released = grind arith

    by : (k : ℕ) → IsAtStage k v
    by zero = search rules
    by (suc zero) = released.before.before.before
    by (suc (suc zero)) = released.before.before
    by (suc (suc (suc zero))) = released.before
    by (suc (suc (suc (suc n)))) = released

-- so where the answer is that there is none, any stage follows
pub empty_is_on : (v : Pipeline) → IsInOrder v → (answer : Bool) → answer ≡ true → answer ≡ (length (numbers v) == 0) → (k : ℕ) → IsAtStage k v → IsAtStage (k + 1) v
empty_is_on v o answer so is k s =
    let none : length (numbers v) ≡ 0 = eqb-true (length (numbers v)) 0 (sym is ∙ so) in
    let all : length (numbers v) ≡ length v.placed.items + (length v.sure.items + (length v.durable.items + length v.committed.items)) = grind (arith, common_steps) in
    empty_is_at_each_stage v o (nothing_in v.placed.items (omega arith)) (nothing_in v.sure.items (omega arith)) (nothing_in v.durable.items (omega arith)) (nothing_in v.committed.items (omega arith)) (k + 1)

-- after four rounds no record is left
pub drained_lists : (v : Pipeline) → IsAtStage 4 v → (v.placed.items ≡ []) × (v.sure.items ≡ []) × (v.durable.items ≡ []) × (v.committed.items ≡ [])
drained_lists v s = (s.placed, s.before.sure, s.before.before.durable, s.before.before.before.committed)
