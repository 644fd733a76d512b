-- What may be taken may be so still once a batch has begun: to none of it a checkpoint write goes.
use Rattle.std.proofs.Common.{◌≡◌, ℕ, zero, suc, ◌+◌, ◌≤◌, ◌==◌, ◌||◌, Bool, true, false, List, [], ◌∷◌, ◌++◌, length, map, take, drop, slice_get, Option, Some, None, Ok, nat_lt, is_some, refl, sym, ◌∙◌, ap, subst, arith}
use Rattle.std.proofs.lemmas.Bool.Decides.{nat_tests}
use Rattle.std.proofs.lemmas.List.Folds.{list_any-append}
use Rattle.std.proofs.lemmas.Bool.{false≢true, eq-eqb, eqb-true, and_parts, cond-true, or_right, or_left}
use Rattle.std.proofs.lemmas.Option.{none-some, same_Some}
use Rattle.base_types.specs.Seal.{Blocks}
use Rattle.disk_contract.specs.declared.event.Event.{Event}
use Rattle.disk_contract.specs.declared.disk.DiskFault.{DiskFault}
use Rattle.layout_geometry.specs.Geometry.{data_start}
use Rattle.layout_journal.specs.Ring.{RingPlaces}
use Rattle.crash_argument.specs.Ledger.{Ledger, IsConsistentWith}
use Rattle.crash_argument.specs.HomeTest.{AreFreedBy, goes_home, is_one_of}
use Rattle.crash_argument.specs.PipelineData.{PipelineData, DataAgree, NeedsCheckpoint, with_batch}
use Rattle.engine_reuse.specs.Numbers.{is_among}
use Rattle.engine_reuse.specs.Dead.{DeadBlocks, AreSound, block_of}
use Rattle.engine_checkpoint.specs.declared.pipeline.HomeWrite.{HomeWrite}
use Rattle.engine_checkpoint.specs.declared.pipeline.Pipeline.{Pipeline}
use Rattle.engine_checkpoint.specs.Agree.{PipelineAgrees}
use Rattle.engine_checkpoint.specs.Advance.{MayServe}
use Rattle.engine_checkpoint.specs.Batch.{AreHomeBlocks, home_block}
use Rattle.engine_checkpoint.specs.Kept.{of_sure, newest_in}
use Rattle.engine_checkpoint.specs.Turns.{BeginsBatch, BatchAdds, is_batch_due}
use Rattle.engine_checkpoint.proofs.HomeLives.{live_then}

pub pair_among : (b r k : ℕ) (ps : List (ℕ × ℕ)) → slice_get ps k ≡ Some (b, r) → is_among b (map block_of ps) ≡ true
pair_among b r k [] is = absurd (none-some (b, r) is)
pair_among b r zero (p ∷ ps) is = ap (λ v. v || is_among b (map block_of ps)) (eq-eqb (block_of p) b (ap block_of (same_Some p (b, r) is)))
pair_among b r (suc k) (p ∷ ps) is = or_right (block_of p == b) (is_among b (map block_of ps)) (pair_among b r k ps is)

home_one : (hs : List HomeWrite) (k : ℕ) (h : HomeWrite) → slice_get hs k ≡ Some h → is_one_of h.block (map home_block hs) ≡ true
home_one [] k h is = absurd (none-some h is)
home_one (g ∷ hs) zero h is = cond-true (g.block == h.block) true (is_one_of h.block (map home_block hs)) (eq-eqb g.block h.block (ap home_block (same_Some g h is)))
home_one (g ∷ hs) (suc k) h is = grind (arith, nat_tests, home_one hs k h is)

the_some : {A : Type 0} (o : Option A) → is_some o ≡ true → (x : A) × (o ≡ Some x)
the_some None e = absurd (false≢true e)
the_some (Some x) e = (x, refl)

module _ (base : Blocks) (log : List Event) (l : Ledger) (v w : Pipeline) (ring : RingPlaces) (dead : DeadBlocks) (taken : List ℕ) (a : PipelineAgrees base log l v ring dead.waiting taken) (keeps : IsConsistentWith base log l)
    (sound : AreSound dead) (dead_geom : dead.geom ≡ v.geom) (serves : MayServe l v dead)
    (begins : (base : Blocks) (log : List Event) (l : Ledger) (p : PipelineData) (count : ℕ) → IsConsistentWith base log l → DataAgree base log l p → p.batch ≡ 0 → l.header.start + p.placed + count ≡ l.header.sure + 1 → DataAgree base log l (with_batch p count))
    (tells : (base : Blocks) (log : List Event) (l : Ledger) (p : PipelineData) → (k : DataAgree base log l p) → k.batch ≡ take p.batch (drop p.placed l.records))
    (needs : (base : Blocks) (log : List Event) (l : Ledger) (p : PipelineData) (freed : List (List ℕ)) (b : ℕ) (x : List ℕ) → IsConsistentWith base log l → (k : DataAgree base log l p) → AreFreedBy l freed → l.header.start + p.placed + p.batch ≡ l.header.sure + 1
    → goes_home None k.batch (take p.batch (drop p.placed freed)) b ≡ Some x → NeedsCheckpoint l k.batch b x)
    (waits : (d : DeadBlocks) (b : ℕ) → AreSound d → is_among b (map block_of d.waiting) ≡ true → is_among b d.reusable ≡ false) where
  -- a block that goes home isn't one that may be taken
  goes_home_apart : v.batch ≡ 0 → (b : ℕ) (x : List ℕ) → newest_in None (map of_sure v.sure.items) b ≡ Some x → is_among b dead.reusable ≡ true → ⊥
  goes_home_apart none b x newest may =
      let then = live_then base log l v ring dead.waiting taken a keeps begins tells needs none b x newest in
      let dead_now = serves.dead_now b (list_any-append (λ x. x == b) dead.reusable (map block_of dead.waiting) ∙ or_left _ _ may) in
      let lies = sound.lie b (list_any-append (λ x. x == b) dead.reusable (dead.held ++ map block_of dead.waiting) ∙ or_left _ _ may) in
      let from : data_start l.geom ≤ b = subst (λ g. data_start g ≤ b) (dead_geom ∙ a.geom) lies.from in
      let wait = a.agree.waiting.each b (l.header.sure + 1) from (omega arith) (omega (arith, a.count, a.sure)) then dead_now in
      false≢true (sym (waits dead b sound (pair_among b wait.1 wait.0 dead.waiting wait.2)) ∙ may)

  pub serves_begun : v.batch ≡ 0 → BeginsBatch v w → AreHomeBlocks (map of_sure v.sure.items) (map home_block w.home.items) → MayServe l w dead
  serves_begun none begun blocks = record {
    dead_now = serves.dead_now;
    not_going = λ k h is opens. by h.block (the_some (newest_in None (map of_sure v.sure.items) h.block) (sym (blocks.each h.block) ∙ home_one w.home.items k h is)) (is_among h.block dead.reusable) refl;
  }
    where
      by : (b : ℕ) → (x : List ℕ) × (newest_in None (map of_sure v.sure.items) b ≡ Some x) → (r : Bool) → is_among b dead.reusable ≡ r → r ≡ false
      by b newest true may = absurd (goes_home_apart none b newest.0 newest.1 may)
      by b newest false not = refl

  -- the batch has begun, or none was due
  pub serves_batch : (due : Bool) → is_batch_due v ≡ due → BatchAdds {A = Unit {0}} {E = DiskFault} due (Ok tt) v w → MayServe l w dead
  serves_batch true is adds = serves_begun (eqb-true v.batch 0 (and_parts (v.batch == 0) (nat_lt 0 (length v.sure.items)) is).0) adds.0 adds.1
  serves_batch false is same = subst (λ (p : Pipeline). MayServe l p dead) (sym same) serves
