-- The life of one record, step by step: what each of its calls leaves is what the next one asks for.
use Rattle.std.proofs.Common.{◌≡◌, ◌≢◌, ℕ, ◌+◌, ◌-◌, List, [], ◌∷◌, ◌++◌, length, take, drop, Some, Result, Ok, Err, IsErr, sym, ◌∙◌, ap, subst, arith}
use Rattle.std.proofs.lemmas.Bool.{false≢true}
use Rattle.base_types.specs.Seal.{Blocks}
use Rattle.disk_contract.specs.declared.event.Event.{Event}
use Rattle.disk_contract.specs.Disk.{State}
use Rattle.layout_journal.specs.declared.header.Header.{Header}
use Rattle.layout_journal.specs.Layout.{header_of}
use Rattle.crash_argument.specs.Steps.{with_header}
use Rattle.crash_argument.specs.Ledger.{Ledger, WrittenRecord}
use Rattle.crash_argument.specs.PipelineData.{PipelineData, DataAgree, NeedsCheckpoint, next_header, with_committed, with_pending, with_durable}
use Rattle.crash_argument.specs.Points.{MountedSession, IsSafe}
use Rattle.crash_example.specs.OneRecord.{IsSafeSomehow, ReleasedLeaves, with_known_record, with_next_header, with_sure_record, with_released_record}

-- a call that failed leaves a disk that is safe by some ledger
pub released_failed : {T E : Type 0} (s : MountedSession) (l : Ledger) (w : WrittenRecord) (m : Blocks) (t floor : ℕ) (r : Result T E) (d : State) → IsErr r → IsSafeSomehow s d.base d.log t floor → ReleasedLeaves s l w m t floor r d
released_failed s l w m t floor (Ok x) d bad safe = absurd (false≢true bad)
released_failed s l w m t floor (Err e) d bad safe = safe

-- the record is the ledger's only one once it is sure
pub only_record : (l : Ledger) (w : WrittenRecord) (m : Blocks) (placed : ℕ) → l.records ≡ [] → placed ≡ 0 → take 1 (drop placed (with_sure_record l w m).records) ≡ w ∷ []
only_record l w m placed none zero =
    ap (λ n. take 1 (drop n (with_sure_record l w m).records)) zero
    ∙ ap (λ n. take 1 (drop n (l.records ++ w ∷ []))) {x = l.header.start + 0 - l.header.start} {y = 0} (omega arith)
    ∙ ap (λ (ws : List WrittenRecord). take 1 (ws ++ w ∷ [])) none

-- so the one block that has to be written home for it is the one of the batch
pub one_batch : (l : Ledger) (w : WrittenRecord) (m : Blocks) (placed : ℕ) → l.records ≡ [] → placed ≡ 0 → (block : ℕ) (x : List ℕ) → NeedsCheckpoint (with_sure_record l w m) (w ∷ []) block x
    → ((c : ℕ) (y : List ℕ) → c ≢ block → ¬ NeedsCheckpoint (with_sure_record l w m) (w ∷ []) c y)
    → NeedsCheckpoint (with_sure_record l w m) (take 1 (drop placed (with_sure_record l w m).records)) block x
    × ((c : ℕ) (y : List ℕ) → c ≢ block → ¬ NeedsCheckpoint (with_sure_record l w m) (take 1 (drop placed (with_sure_record l w m).records)) c y)
one_batch l w m placed none zero block x home alone = (
  subst (λ (ws : List WrittenRecord). NeedsCheckpoint (with_sure_record l w m) ws block x) (sym (only_record l w m placed none zero)) home,
  λ c y apart needs. alone c y apart (subst (λ (ws : List WrittenRecord). NeedsCheckpoint (with_sure_record l w m) ws c y) (only_record l w m placed none zero) needs),
)

-- and it is the last that is sure
pub last_sure : (l : Ledger) (w : WrittenRecord) (m : Blocks) (placed : ℕ) → l.records ≡ [] → placed ≡ 0 → (with_sure_record l w m).header.start + placed + 1 ≡ (with_sure_record l w m).header.sure + 1
last_sure l w m placed none zero = omega (arith, zero, ap (λ (ws : List WrittenRecord). length ws) none)

-- the first header reads as the one that makes it sure
pub sure_reads : (l : Ledger) (p : PipelineData) (w : WrittenRecord) (m : Blocks) (x : List ℕ) → p.placed ≡ 0 → header_of l.geom.n x ≡ Some (next_header (with_known_record l w m) 0) → header_of l.geom.n x ≡ Some (next_header (with_known_record l w m) p.placed)
sure_reads l p w m x zero reads = reads ∙ ap (λ n. Some (next_header (with_known_record l w m) n)) (sym zero)

-- data with no record on its way, which agree with a ledger
pub record IsCalm (base : Blocks) (log : List Event) (l : Ledger) (placed : ℕ) : Type 0 where
  pub of : PipelineData
  pub placed_is : of.placed ≡ placed
  pub batch_is : of.batch ≡ 0
  pub agree : DataAgree base log l of

-- the header is the durable one, and the data agree
abbrev pub HeaderIsDurable : MountedSession → Blocks → List Event → Ledger → PipelineData → Header → ℕ → ℕ → Type 0
HeaderIsDurable s base log l p h t floor = IsSafe s base log (with_next_header l h) t floor × ((ticket : ℕ) × DataAgree base log (with_next_header l h) (with_durable (with_pending p ticket) (with_header l h) h))

-- once that header is durable
pub made_sure : (s : MountedSession) (l : Ledger) (p : PipelineData) (w : WrittenRecord) (m : Blocks) (tickets freed : List ℕ) (t floor : ℕ) (base : Blocks) (log : List Event) → p.placed ≡ 0 → p.batch ≡ 0
    → HeaderIsDurable s base log (with_known_record l w m) (with_committed p l w tickets freed) (next_header (with_known_record l w m) p.placed) t floor
    → IsSafe s base log (with_sure_record l w m) t floor × IsCalm base log (with_sure_record l w m) 0
made_sure s l p w m tickets freed t floor base log zero idle h = (
  subst (λ n. IsSafe s base log (with_next_header (with_known_record l w m) (next_header (with_known_record l w m) n)) t floor) zero h.0,
  subst (λ n. IsCalm base log (with_next_header (with_known_record l w m) (next_header (with_known_record l w m) n)) 0) zero
      (record { of = _; placed_is = omega (arith, zero); batch_is = idle; agree = h.1.1 }),
)

-- the second header reads as the one that releases it
pub release_reads : (l : Ledger) (w : WrittenRecord) (m : Blocks) (x : List ℕ) (placed : ℕ) → placed ≡ 0 → header_of l.geom.n x ≡ Some (next_header (with_sure_record l w m) 1) → header_of l.geom.n x ≡ Some (next_header (with_sure_record l w m) (placed + 1))
release_reads l w m x placed zero reads = reads ∙ ap (λ n. Some (next_header (with_sure_record l w m) (n + 1))) (sym zero)

-- and once that one is durable the record is released
pub made_free : (s : MountedSession) (l : Ledger) (w : WrittenRecord) (m : Blocks) (t floor placed : ℕ) (base : Blocks) (log : List Event) → placed ≡ 0
    → IsSafe s base log (with_next_header (with_sure_record l w m) (next_header (with_sure_record l w m) (placed + 1))) t floor → IsSafe s base log (with_released_record l w m) t floor
made_free s l w m t floor placed base log zero safe = subst (λ n. IsSafe s base log (with_next_header (with_sure_record l w m) (next_header (with_sure_record l w m) (n + 1))) t floor) zero safe
