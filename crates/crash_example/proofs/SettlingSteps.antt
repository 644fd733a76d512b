-- What is left once a header, or a checkpoint write, was written and waited for, or one of the two calls failed.
use Rattle.std.proofs.Common.{◌≡◌, ◌≢◌, ℕ, zero, suc, ◌+◌, ◌-◌, ◌<◌, List, [], ◌∷◌, ◌++◌, length, take, drop, Some, None, Result, Ok, Err, IsErr, refl, sym, ◌∙◌, ap, subst, arith}
use Rattle.std.proofs.lemmas.Bool.{false≢true}
use Rattle.std.proofs.Math.Seq.{take-append_seam, drop-append_seam}
use Rattle.std.proofs.lemmas.Option.{same_Some}
use Rattle.base_types.specs.Seal.{Blocks}
use Rattle.disk_contract.specs.declared.event.Event.{Event}
use Rattle.disk_contract.specs.declared.event.Event.TheVariants.{Wrote}
use Rattle.disk_contract.specs.Cell.{cell_of, IsNoticed, greatest_ticket}
use Rattle.disk_contract.specs.Disk.{State}
use Rattle.layout_journal.specs.declared.header.Header.{Header}
use Rattle.layout_journal.specs.Layout.{header_of}
use Rattle.crash_argument.specs.Ledger.{Ledger, WrittenRecord, IsConsistentWith}
use Rattle.crash_argument.specs.Steps.{MayWriteInPlace, with_header}
use Rattle.crash_argument.specs.Points.{MountedSession, IsSafe}
use Rattle.crash_argument.specs.PipelineData.{PipelineData, DataAgree, NeedsCheckpoint, IsHomeNoticed, next_header, with_pending, with_durable, with_batch, with_home, with_sent, with_placed}
use Rattle.crash_example.specs.CrashLaws.{CrashLaws}
use Rattle.crash_example.specs.OneRecord.{IsSafeSomehow, HeaderLeaves, CheckpointLeaves, with_next_header}

-- the disk is safe by this ledger, so by some
pub somehow : (s : MountedSession) (base : Blocks) (log : List Event) (l : Ledger) (t floor : ℕ) → IsSafe s base log l t floor → IsSafeSomehow s base log t floor
somehow s base log l t floor safe = ∣ (l, safe) ∣₁

-- an accepted write of the next header, under the names that its call gives to disk and slot
pub header_agrees : CrashLaws → (base base2 : Blocks) (log new : List Event) (l : Ledger) (p : PipelineData) (x : List ℕ) (ticket slot : ℕ) → IsConsistentWith base log l → DataAgree base log l p → l.next ≡ None → header_of l.geom.n x ≡ Some (next_header l p.placed)
    → base2 ≡ base → slot ≡ 1 - l.slot → (greatest_ticket log < ticket) × (¬ IsNoticed ticket log) × (new ≡ log ++ Wrote ticket slot x ∷ []) → DataAgree base2 new (with_header l (next_header l p.placed)) (with_pending p ticket)
header_agrees laws base base2 log new l p x ticket slot keeps k alone reads same at adds =
    let is : new ≡ log ++ Wrote ticket (1 - l.slot) x ∷ [] = adds.2 ∙ ap (λ b. log ++ Wrote ticket b x ∷ []) at in
    subst (λ (b : Blocks). DataAgree b new (with_header l (next_header l p.placed)) (with_pending p ticket)) (sym same)
    (subst (λ (lg : List Event). DataAgree base lg (with_header l (next_header l p.placed)) (with_pending p ticket)) (sym is)
    (laws.header_knows base log l p x ticket keeps k alone reads adds.0 adds.1))

-- the ticket of the header is noticed: it is the durable one
pub header_settles : CrashLaws → (s : MountedSession) (base : Blocks) (log : List Event) (l : Ledger) (p : PipelineData) (h : Header) (t floor ticket : ℕ) → IsSafe s base log (with_header l h) t floor → DataAgree base log (with_header l h) (with_pending p ticket) → IsNoticed ticket log
    → IsSafe s base log (with_next_header l h) t floor × ((n : ℕ) × DataAgree base log (with_next_header l h) (with_durable (with_pending p n) (with_header l h) h))
header_settles laws s base log l p h t floor ticket safe k noticed =
    let d = laws.durable base log (with_header l h) (with_pending p ticket) h ticket safe.keeps k refl refl noticed in
    (laws.durable_safe s base log (with_header l h) t floor h d safe, (ticket, laws.durable_knows base log (with_header l h) (with_pending p ticket) h safe.keeps k d))

-- a call for a header failed, and some ledger says how the disk is
pub header_failed : {T E : Type 0} (s : MountedSession) (l : Ledger) (p : PipelineData) (h : Header) (t floor : ℕ) (r : Result T E) (d : State) → IsErr r → IsSafeSomehow s d.base d.log t floor → HeaderLeaves s l p h t floor r d
header_failed s l p h t floor (Ok done) d err safe = absurd (false≢true err)
header_failed s l p h t floor (Err e) d err safe = safe

-- no batch is under way, and the next one is the records up to the durable `sure`, which need one block at home
module _ (laws : CrashLaws) (base : Blocks) (log : List Event) (l : Ledger) (p : PipelineData) (count block : ℕ) (x : List ℕ) (keeps : IsConsistentWith base log l) (k : DataAgree base log l p) (none : p.batch ≡ 0) (ends : l.header.start + p.placed + count ≡ l.header.sure + 1)
    (goes : NeedsCheckpoint l (take count (drop p.placed l.records)) block x) where
  -- the data with that batch agree with the ledger
  as_batch : DataAgree base log l (with_batch p count)
  as_batch = laws.taken base log l p count keeps k none ends

  -- and it is this block that the batch needs at home
  goes_home : NeedsCheckpoint l as_batch.batch block x
  goes_home = subst (λ (ws : List WrittenRecord). NeedsCheckpoint l ws block x) (sym (laws.batch base log l (with_batch p count) as_batch)) goes

  -- so the block may be written home
  pub checkpoint_may : MayWriteInPlace (cell_of base log) l block
  checkpoint_may = laws.may base log l (with_batch p count) block x keeps as_batch ends goes_home.covered goes_home.live

  module _ (alone : (c : ℕ) (y : List ℕ) → c ≢ block → ¬ NeedsCheckpoint l (take count (drop p.placed l.records)) c y) where
    -- an accepted write of this block: all of the batch is issued
    pub checkpoint_agrees : (base2 : Blocks) (new : List Event) (ticket : ℕ) → IsConsistentWith base2 new l → base2 ≡ base → (greatest_ticket log < ticket) × (¬ IsNoticed ticket log) × (new ≡ log ++ Wrote ticket block x ∷ []) → DataAgree base2 new l (with_sent (with_home (with_batch p count) block ticket) l.geom.n)
    checkpoint_agrees base2 new ticket still same adds = laws.sent base2 new l (with_home (with_batch p count) block ticket) l.geom.n still written
        (λ c y from upto needs. alone c y (λ is. omega (arith, is, from)) (subst (λ (ws : List WrittenRecord). NeedsCheckpoint l ws c y) (laws.batch base2 new l (with_home (with_batch p count) block ticket) written) needs))
      where
        written : DataAgree base2 new l (with_home (with_batch p count) block ticket)
        written = subst (λ (b : Blocks). DataAgree b new l (with_home (with_batch p count) block ticket)) (sym same)
            (subst (λ (lg : List Event). DataAgree base lg l (with_home (with_batch p count) block ticket)) (sym adds.2)
            (laws.written base log l (with_batch p count) ticket block x keeps as_batch adds.0 adds.1 ends goes_home
            (λ c y from upto needs. alone c y (λ is. omega (arith, is, upto)) (subst (λ (ws : List WrittenRecord). NeedsCheckpoint l ws c y) (laws.batch base log l (with_batch p count) as_batch) needs))))

-- the ticket of the one write is noticed: the batch is at home
pub checkpoint_settles : CrashLaws → (base : Blocks) (log : List Event) (l : Ledger) (p : PipelineData) (count block ticket : ℕ) → IsConsistentWith base log l → DataAgree base log l (with_sent (with_home (with_batch p count) block ticket) l.geom.n) → IsNoticed ticket log
    → (n : ℕ) × DataAgree base log l (with_placed (with_sent (with_home (with_batch p count) block n) l.geom.n))
checkpoint_settles laws base log l p count block ticket keeps k noticed = (ticket, laws.home base log l (with_sent (with_home (with_batch p count) block ticket) l.geom.n) keeps k (omega arith) each)
  where
    each : IsHomeNoticed log ((block, ticket) ∷ [])
    each zero b n is = subst (λ t. IsNoticed t log) (ap (λ (q : ℕ × ℕ). q.1) (same_Some _ _ is)) noticed
    each (suc i) b n is = cc

-- a call for a checkpoint write failed, and some ledger says how the disk is
pub checkpoint_failed : {T E : Type 0} (s : MountedSession) (l : Ledger) (p : PipelineData) (count block t floor : ℕ) (r : Result T E) (d : State) → IsErr r → IsSafeSomehow s d.base d.log t floor → CheckpointLeaves s l p count block t floor r d
checkpoint_failed s l p count block t floor (Ok done) d err safe = absurd (false≢true err)
checkpoint_failed s l p count block t floor (Err e) d err safe = safe
