-- The laws of the argument on crashes that the life of one record rests on, gathered. Each is a clause of a function of crash_argument.
use Rattle.std.specs.Prelude.{◌≡◌, ℕ, ◌+◌, ◌-◌, ◌<◌, ◌≤◌, IsTrue, List, [], ◌∷◌, ◌++◌, take, drop, Some, None}
use Rattle.base_types.specs.Seal.{Blocks}
use Rattle.disk_contract.specs.declared.event.Event.{Event}
use Rattle.disk_contract.specs.declared.event.Event.TheVariants.{Wrote}
use Rattle.disk_contract.specs.Cell.{cell_of, greatest_ticket, IsNoticed}
use Rattle.layout_journal.specs.declared.header.Header.{Header}
use Rattle.layout_journal.specs.Layout.{header_of}
use Rattle.layout_journal.specs.Run.{is_live}
use Rattle.crash_argument.specs.Ledger.{Ledger, IsConsistentWith, cover}
use Rattle.crash_argument.specs.Points.{MountedSession, IsSafe}
use Rattle.crash_argument.specs.Steps.{MayWriteInPlace, MayWriteHeader, IsDurable, with_header, with_durable_header}
use Rattle.crash_argument.specs.PipelineData.{PipelineData, DataAgree, NeedsCheckpoint, IsHomeNoticed, next_header, with_pending, with_durable, with_batch, with_home, with_sent, with_placed}

-- what the steps of one record need of the argument
pub record CrashLaws : Type 0 where
  -- the next header: it may be written, and the data agree then
  pub header_may : (base : Blocks) (log : List Event) (l : Ledger) (p : PipelineData) (x : List ℕ) → IsConsistentWith base log l → DataAgree base log l p → l.next ≡ None → header_of l.geom.n x ≡ Some (next_header l p.placed) → MayWriteHeader (cell_of base log) l x (next_header l p.placed)
  pub header_knows : (base : Blocks) (log : List Event) (l : Ledger) (p : PipelineData) (x : List ℕ) (t : ℕ) → IsConsistentWith base log l → DataAgree base log l p → l.next ≡ None → header_of l.geom.n x ≡ Some (next_header l p.placed) → greatest_ticket log < t → ¬ IsNoticed t log
      → DataAgree base (log ++ Wrote t (1 - l.slot) x ∷ []) (with_header l (next_header l p.placed)) (with_pending p t)
  -- once it is noticed it is the durable one
  pub durable : (base : Blocks) (log : List Event) (l : Ledger) (p : PipelineData) (h : Header) (t : ℕ) → IsConsistentWith base log l → DataAgree base log l p → l.next ≡ Some h → p.pending ≡ Some t → IsNoticed t log → IsDurable (cell_of base log) l h
  pub durable_knows : (base : Blocks) (log : List Event) (l : Ledger) (p : PipelineData) (h : Header) → IsConsistentWith base log l → DataAgree base log l p → IsDurable (cell_of base log) l h → DataAgree base log (with_durable_header l h) (with_durable p l h)
  pub durable_safe : (s : MountedSession) (base : Blocks) (log : List Event) (l : Ledger) (t floor : ℕ) (h : Header) → IsDurable (cell_of base log) l h → IsSafe s base log l t floor → IsSafe s base log (with_durable_header l h) t floor
  -- a batch begins, its blocks are written, and then all are sent
  pub taken : (base : Blocks) (log : List Event) (l : Ledger) (p : PipelineData) (count : ℕ) → IsConsistentWith base log l → DataAgree base log l p → p.batch ≡ 0 → l.header.start + p.placed + count ≡ l.header.sure + 1 → DataAgree base log l (with_batch p count)
  pub may : (base : Blocks) (log : List Event) (l : Ledger) (p : PipelineData) (b : ℕ) (x : List ℕ) (keeps : IsConsistentWith base log l) (k : DataAgree base log l p) → l.header.start + p.placed + p.batch ≡ l.header.sure + 1
      → cover None k.batch b ≡ Some x → IsTrue (is_live l.geom (l.map_before (l.header.sure + 1)) b) → MayWriteInPlace (cell_of base log) l b
  pub written : (base : Blocks) (log : List Event) (l : Ledger) (p : PipelineData) (t b : ℕ) (x : List ℕ) → IsConsistentWith base log l → (k : DataAgree base log l p) → greatest_ticket log < t → ¬ IsNoticed t log → l.header.start + p.placed + p.batch ≡ l.header.sure + 1
      → NeedsCheckpoint l k.batch b x → ((c : ℕ) (y : List ℕ) → p.sent ≤ c → c < b → ¬ NeedsCheckpoint l k.batch c y) → DataAgree base (log ++ Wrote t b x ∷ []) l (with_home p b t)
  pub sent : (base : Blocks) (log : List Event) (l : Ledger) (p : PipelineData) (n : ℕ) → IsConsistentWith base log l → (k : DataAgree base log l p) → ((c : ℕ) (y : List ℕ) → p.sent ≤ c → c < n → ¬ NeedsCheckpoint l k.batch c y) → DataAgree base log l (with_sent p n)
  -- and it is at home once all of it is noticed
  pub home : (base : Blocks) (log : List Event) (l : Ledger) (p : PipelineData) → IsConsistentWith base log l → DataAgree base log l p → l.geom.n ≤ p.sent → IsHomeNoticed log p.home → DataAgree base log l (with_placed p)
  -- the batch is what is behind the placed records
  pub batch : (base : Blocks) (log : List Event) (l : Ledger) (p : PipelineData) → (k : DataAgree base log l p) → k.batch ≡ take p.batch (drop p.placed l.records)
