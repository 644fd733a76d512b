-- The batch begins: the records stand in order, there is room for what is to come, and its writes were owed.
use Rattle.std.proofs.Common.{◌≡◌, ℕ, ◌+◌, ◌<◌, ◌≤◌, ◌==◌, nat_lt, Bool, true, false, if◌then◌else◌, Result, Ok, Err, OnOk, List, [], ◌∷◌, ◌++◌, length, take, drop, map, vec_capacity, refl, sym, ◌∙◌, subst, ap, arith}
use Rattle.std.proofs.lemmas.Bool.Decides.{nat_tests}
use Rattle.std.proofs.Math.Seq.{take-length}
use Rattle.std.proofs.lemmas.Bool.{lt-ltb, eq-eqb, eqb-true, false≢true}
use Rattle.disk_contract.specs.declared.event.Event.{Event}
use Rattle.disk_contract.specs.declared.event.Event.TheVariants.{Wrote}
use Rattle.disk_contract.specs.Cell.{IsNoticed}
use Rattle.disk_contract.specs.Disk.{writes_in}
use Rattle.crash_argument.specs.Writes.{AddsWrites, AddsFront, AddsAll}
use Rattle.crash_argument.specs.HomeTest.{is_one_of}
use Rattle.engine_notes.specs.Notes.{is_expected}
use Rattle.engine_checkpoint.specs.declared.pipeline.Pipeline.{Pipeline}
use Rattle.engine_checkpoint.specs.Advance.{writes_owed}
use Rattle.engine_checkpoint.specs.Agree.{NotesAreTrue, home_ticket}
use Rattle.engine_checkpoint.specs.Kept.{of_sure, of_durable, of_committed, kept, payloads_in}
use Rattle.engine_checkpoint.specs.Newest.{spot_room}
use Rattle.engine_checkpoint.specs.Order.{IsInOrder, HasRoom, header_notes}
use Rattle.engine_checkpoint.specs.Batch.{home_block, AreHomeBlocks, AreInRow}
use Rattle.engine_checkpoint.specs.Turns.{BeginsBatch, BatchAdds, AreOpenHome, is_batch_due}
use Rattle.engine_checkpoint.proofs.Numbers.{sure_number}
use Rattle.engine_checkpoint.proofs.BatchEnds.{take_front, payloads_split}
use Rattle.engine_checkpoint.proofs.Apart.{one_of_home}
use Rattle.engine_checkpoint.proofs.Expected.{both, with_old}
use Rattle.engine_checkpoint.proofs.NotesRoom.{header_note_stays}

-- the payloads of the sure records are those of the first that are kept
pub payloads_of_sure : (v : Pipeline) → payloads_in (take (length v.sure.items) (kept v)) ≡ payloads_in (map of_sure v.sure.items)
payloads_of_sure v = ap payloads_in (take_front of_sure (length v.sure.items) v.sure.items (map of_durable v.durable.items ++ map of_committed v.committed.items) (omega arith) ∙ ap (map of_sure) (take-length v.sure.items))

pub sure_and_others : (v : Pipeline) → payloads_in (map of_sure v.sure.items) + payloads_in (drop (length v.sure.items) (kept v)) ≡ payloads_in (kept v)
sure_and_others v = omega (arith, payloads_of_sure v, payloads_split (length v.sure.items) (kept v))

module _ (v w : Pipeline) (o : IsInOrder v) (e : BeginsBatch v w) (none : v.batch ≡ 0) (some : 0 < length v.sure.items) (few : length w.home.items ≤ payloads_in (map of_sure v.sure.items)) where
  abbrev at_begin : Pipeline
  at_begin = record v { notes = w.notes; batch = length v.sure.items; home = w.home; batch_newest = w.batch_newest; blocks = w.blocks }

  no_batch : length v.sure.items ≡ 0 → ⊥
  no_batch z = omega (arith, z, some)

  order_at_begin : IsInOrder at_begin
  order_at_begin = grind (arith, nat_tests, no_batch, payloads_of_sure)

  pub order_begun : IsInOrder w
  order_begun = subst IsInOrder (sym e.rest) order_at_begin

  -- before, all records were behind the batch
  all_behind : payloads_in (drop v.batch (kept v)) ≡ payloads_in (kept v)
  all_behind = ap (λ n. payloads_in (drop n (kept v))) none

  pub owed_begun : writes_owed w + payloads_in (map of_sure v.sure.items) ≡ writes_owed v
  owed_begun = omega (arith, ap writes_owed e.rest, sure_and_others v, all_behind)

  expects : (u : ℕ) → is_expected u v.notes.notes ≡ true → is_expected u w.notes.notes ≡ true
  expects u is = e.expected u ∙ with_old (is_one_of u (map home_ticket w.home.items)) (is_expected u v.notes.notes) is

  module _ (h : HasRoom v) (count : ℕ) (enough : count ≤ payloads_in (map of_sure v.sure.items)) (home_room : vec_capacity v.home ≤ vec_capacity w.home) (blocks_room : vec_capacity v.blocks ≤ vec_capacity w.blocks)
      (spare : spot_room v.batch_newest ≤ spot_room w.batch_newest + payloads_in (map of_sure v.sure.items)) (notes_room : v.notes.room ≤ w.notes.room + count) where
    room_at_begin : HasRoom at_begin
    room_at_begin = grind (arith, nat_tests, sure_and_others, all_behind, header_note_stays, expects)

    pub room_begun : HasRoom w
    room_begun = subst HasRoom (sym e.rest) room_at_begin

-- The answer of the step, by the result of the writes.

pub batch_adds : {A E : Type 0} (r : Result A E) (v w : Pipeline) → BeginsBatch v w → OnOk r (map home_block w.home.items ≡ w.blocks.items) → AreHomeBlocks (map of_sure v.sure.items) w.blocks.items → BatchAdds true r v w
batch_adds (Ok a) v w e listed blocks = (e, subst (AreHomeBlocks (map of_sure v.sure.items)) (sym listed) blocks)
batch_adds (Err a) v w e listed blocks = e

-- so many writes are made, whether or not one of them is lost
pub made : {A E : Type 0} (ws : List (ℕ × List ℕ)) (r : Result A E) (now : List ℕ) (old new : List Event)
    → ((ws : List (ℕ × List ℕ)) (ts : List ℕ) (old new : List Event) → AddsWrites ws ts old new → writes_in new ≡ writes_in old + length ws)
    → ((ws : List (ℕ × List ℕ)) (old new : List Event) → AddsFront ws old new → writes_in new ≤ writes_in old + length ws)
    → AddsAll ws r [] now old new → writes_in new ≤ writes_in old + length ws
made ws (Ok a) now old new accepted failed adds = omega (arith, accepted ws adds.0 old new adds.2)
made ws (Err a) now old new accepted failed adds = failed ws old new adds

-- a ticket that was given since wasn't noticed before
new_not_noticed : ((ws : List (ℕ × List ℕ)) (ts : List ℕ) (old new : List Event) (t : ℕ) → AddsWrites ws ts old new → IsNoticed t old → IsNoticed t new)
    → (ws : List (ℕ × List ℕ)) (ts : List ℕ) (old new : List Event) (t : ℕ) → AddsWrites ws ts old new → is_one_of t ts ≡ true → IsNoticed t old → ⊥
new_not_noticed stays [] [] old new t adds own noticed = false≢true own
new_not_noticed stays [] (u ∷ ts) old new t adds own noticed = adds
new_not_noticed stays (w ∷ ws) [] old new t adds own noticed = adds
new_not_noticed stays (w ∷ ws) (u ∷ ts) old new t adds own noticed = by (u == t) refl own (λ e. new_not_noticed stays ws ts (old ++ Wrote u w.0 w.1 ∷ []) new t adds.2 e (stays (w ∷ []) (u ∷ []) old (old ++ Wrote u w.0 w.1 ∷ []) t (adds.0, adds.1, refl) noticed))
  where
    by : (v : Bool) → (u == t) ≡ v → (if v then true else is_one_of t ts) ≡ true → (is_one_of t ts ≡ true → ⊥) → ⊥
    by true same e rest = adds.1 (subst (λ n. IsNoticed n old) (sym (eqb-true u t same)) noticed)
    by false other e rest = rest e

-- the batch's checkpoint writes are open, where the notes told the truth
pub all_open : {A E : Type 0} (stays : (ws : List (ℕ × List ℕ)) (ts : List ℕ) (old new : List Event) (t : ℕ) → AddsWrites ws ts old new → IsNoticed t old → IsNoticed t new) (ws : List (ℕ × List ℕ)) (r : Result A E) (old new : List Event) (v w : Pipeline)
    → BeginsBatch v w → NotesAreTrue old v.notes.notes → AddsAll ws r [] (map home_ticket w.home.items) old new → OnOk r (AreOpenHome w.home.items w.notes.notes)
all_open stays ws (Err e) old new v w begins told adds = tt
all_open stays ws (Ok a) old new v w begins told adds = grind (arith, nat_tests, both, one_of_home, new_not_noticed)

-- a batch is due where none is under way and a record is sure
pub is_due : (v : Pipeline) → v.batch ≡ 0 → 0 < length v.sure.items → is_batch_due v ≡ true
is_due v none some = both (v.batch == 0) (nat_lt 0 (length v.sure.items)) (eq-eqb v.batch 0 none) (lt-ltb 0 (length v.sure.items) some)

pub sure_in_row : (v : Pipeline) → IsInOrder v → AreInRow v.sure.items
sure_in_row v o k first s first_is is = omega (arith, sure_number v o 0 first first_is, sure_number v o k s is)

pub few_header_notes : (v : Pipeline) → header_notes v ≤ 1
few_header_notes v = grind (arith, nat_tests)
