-- One record over a disk: what its writer has after each block, and what is known once its tickets are waited for.
use Rattle.std.proofs.Common.{◌≡◌, ◌⊎◌, ⊎_elim, ℕ, zero, suc, ◌+◌, ◌<◌, ◌≤◌, List, [], ◌∷◌, ◌++◌, length, take, slice_get, slice_index_or, Some, Result, Ok, Err, IsErr, sym, ◌∙◌, ap, subst, arith, length-append, take_all}
use Rattle.std.proofs.lemmas.Bool.{false≢true}
use Rattle.base_types.specs.Seal.{Blocks}
use Rattle.disk_contract.specs.declared.event.Event.{Event}
use Rattle.disk_contract.specs.declared.disk.DiskFault.{DiskFault}
use Rattle.disk_contract.specs.Cell.{cell_of, IsNoticed}
use Rattle.disk_contract.specs.Disk.{State, AddsNotices}
pub use Rattle.disk_contract.specs.Logs.{IsNoticed-more as noticed_stays}
use Rattle.layout_journal.specs.Run.{places}
use Rattle.crash_example.specs.declared.one_record.OneRecord.{OneRecord}
use Rattle.crash_argument.specs.Ledger.{Ledger, WrittenRecord}
use Rattle.crash_example.specs.OneRecord.{IsWrittenAs, IsSafeSomehow, RecordLeaves, KnownLeaves}
use Rattle.crash_argument.specs.PipelineData.{PipelineData, DataAgree, AllNoticed, AreAllNoticed, with_committed}
use Rattle.crash_argument.specs.Points.{MountedSession, IsSafe}
use Rattle.crash_argument.specs.Recording.{IsPartlyWritten}
use Rattle.crash_argument.specs.Steps.{NoneIsBeingWritten, IsBeingWritten, with_record}
use Rattle.crash_example.proofs.SettlingSteps.{somehow}

-- and so do several
pub all_stay : (ts : List ℕ) (log more : List Event) → AllNoticed log ts → AllNoticed (log ++ more) ts
all_stay [] log more h = tt
all_stay (t ∷ ts) log more h = (noticed_stays t log more h.0, all_stay ts log more h.1)

-- one ticket more of a list
one_more : (log : List Event) (ts : List ℕ) (i : ℕ) → i < length ts → AllNoticed log (take i ts) → IsNoticed (slice_index_or ts i 0) log → AllNoticed log (take (suc i) ts)
one_more log [] i lt h n = absurd (omega arith)
one_more log (t ∷ ts) zero lt h n = (n, tt)
one_more log (t ∷ ts) (suc i) lt h n = (h.0, one_more log ts i (omega arith) h.1 n)

-- after one wait more
pub next_noticed : (log new : List Event) (ts : List ℕ) (i : ℕ) → i < length ts → AddsNotices log new → AllNoticed log (take i ts) → IsNoticed (slice_index_or ts i 0) new → AllNoticed new (take (i + 1) ts)
next_noticed log new ts i lt adds h n =
    subst (λ k. AllNoticed new (take k ts)) {x = suc i} {y = i + 1} (omega arith) (one_more new ts i lt (subst (λ (lg : List Event). AllNoticed lg (take i ts)) (sym adds.log) (all_stay (take i ts) log _ h)) n)

-- and after the last
pub all_noticed : (log : List Event) (ts : List ℕ) (i : ℕ) → length ts ≤ i → AllNoticed log (take i ts) → AllNoticed log ts
all_noticed log ts i le h = subst (λ (us : List ℕ). AllNoticed log us) (take_all i ts le) h

-- where none is being written, what stands of the next number is the record's own
idle_writing : (base : Blocks) (log : List Event) (l : Ledger) (w : WrittenRecord) → NoneIsBeingWritten (cell_of base log) l → IsBeingWritten (cell_of base log) l w
idle_writing base log l w idle = record { each = λ place x d st is e from. absurd (omega (arith, idle.each place x d st is e)) }

-- where a record begins, nothing of it is issued
pub nothing_issued : (base : Blocks) (log : List Event) (l : Ledger) (p : PipelineData) (w : WrittenRecord) → NoneIsBeingWritten (cell_of base log) l → DataAgree base log l p → IsPartlyWritten base log l p w [] 0 1
nothing_issued base log l p w idle knows = record {
  fresh = λ i e lt at. absurd (below i lt);
  ring = λ i some lt. absurd (between i some lt);
  writing = idle_writing base log l w idle;
  knows = knows;
}
  where
    below : (i : ℕ) → i < 0 → ⊥
    below i lt = omega arith

    between : (i : ℕ) → 0 < i → i < 1 → ⊥
    between i some lt = omega arith

-- one fresh block and the places 1 and 2 are all but the commit block
pub all_but_commit : (base : Blocks) (log : List Event) (l : Ledger) (p : PipelineData) (w : WrittenRecord) (o : OneRecord) (tickets : List ℕ) → IsWrittenAs l w o → IsPartlyWritten base log l p w tickets 1 3
    → IsPartlyWritten base log l p w tickets (length w.says.fresh) (places w.says)
all_but_commit base log l p w o tickets is u =
    subst (λ n. IsPartlyWritten base log l p w tickets n (places w.says)) (sym is.one) (subst (λ n. IsPartlyWritten base log l p w tickets 1 n) (sym is.three) u)

-- a commit block that the disk refused may stand or not; the disk is safe in both cases
pub refused : (s : MountedSession) (base : Blocks) (log log2 : List Event) (l : Ledger) (w : WrittenRecord) (m : Blocks) (t floor : ℕ) → ((log2 ≡ log) × IsSafe s base log2 l t floor) ⊎ IsSafe s base log2 (with_record l w m) t floor → IsSafeSomehow s base log2 t floor
refused s base log log2 l w m t floor h = ⊎_elim (λ quiet. somehow s base log2 l t floor quiet.1) (λ lost. somehow s base log2 (with_record l w m) t floor lost) h

-- what an exit by an error leaves
pub left : (s : MountedSession) (l : Ledger) (p : PipelineData) (w : WrittenRecord) (m : Blocks) (t floor : ℕ) (r : Result (List ℕ) DiskFault) (d : State) → IsErr r → IsSafeSomehow s d.base d.log t floor → RecordLeaves s l p w m t floor r d
left s l p w m t floor (Ok tickets) d err safe = absurd (false≢true err)
left s l p w m t floor (Err e) d err safe = safe

-- and what one leaves before all is known
pub left_unknown : (s : MountedSession) (l : Ledger) (p : PipelineData) (w : WrittenRecord) (m : Blocks) (freed : List ℕ) (t floor : ℕ) (r : Result (List ℕ) DiskFault) (d : State) → IsErr r → IsSafeSomehow s d.base d.log t floor → KnownLeaves s l p w m freed t floor r d
left_unknown s l p w m freed t floor (Ok tickets) d err safe = absurd (false≢true err)
left_unknown s l p w m freed t floor (Err e) d err safe = safe

-- the tickets of the ledger's only record
only_one : (all : List (List ℕ)) (tickets ts : List ℕ) (i : ℕ) → length (all ++ tickets ∷ []) ≡ 1 → slice_get (all ++ tickets ∷ []) i ≡ Some ts → tickets ≡ ts
only_one [] tickets ts zero one at = cc
only_one [] tickets ts (suc i) one at = cc
only_one (us ∷ all) tickets ts i one at = absurd (omega (arith, one, length-append all (tickets ∷ [])))

-- once its tickets are noticed, those of each record are
pub only_noticed : (base : Blocks) (log : List Event) (l : Ledger) (p : PipelineData) (w : WrittenRecord) (m : Blocks) (tickets freed : List ℕ) (number : ℕ) → DataAgree base log (with_record l w m) (with_committed p l w tickets freed) → l.records ≡ [] → AllNoticed log tickets
    → AreAllNoticed log (with_record l w m) (with_committed p l w tickets freed) number
only_noticed base log l p w m tickets freed number knows none noticed = λ i v ts is at low.
    subst (λ (us : List ℕ). AllNoticed log us) (only_one p.tickets tickets ts i (knows.count ∙ ap (λ (vs : List WrittenRecord). length (vs ++ w ∷ [])) none) at) noticed
