-- What a commit leaves, by the answer of the calls that write the record.
use Rattle.std.proofs.Common.{◌≡◌, ◌⊎◌, ℕ, ◌+◌, true, false, List, length, Result, Ok, Err, is_err, OnOk, refl, sym, ◌∙◌, ap, OnErr}
use Rattle.layout_journal.specs.Run.{places}
use Rattle.std.proofs.lemmas.Bool.{false≢true}
use Rattle.base_types.specs.Seal.{Blocks}
use Rattle.disk_contract.specs.declared.event.Event.{Event}
use Rattle.crash_argument.specs.Ledger.{Ledger, WrittenRecord}
use Rattle.crash_argument.specs.Steps.{with_record}
use Rattle.crash_argument.specs.Points.{MountedSession, IsSafe}
use Rattle.crash_argument.specs.PipelineData.{PipelineData}
use Rattle.crash_argument.specs.Recording.{IsInLedger}
use Rattle.engine_running.specs.declared.put.Put.{Put}
use Rattle.engine_running.specs.Record.{record_of, written_of}
use Rattle.crash_argument.specs.Writes.{AddsAll, AddsFront, AddsWrites}
use Rattle.engine_running.specs.Writes.{record_writes}
use Rattle.layout_geometry.specs.Geometry.{Geometry}
use Rattle.engine_running.specs.Commits.{RecordLeaves}

pub err_left : {A E : Type 0} (s : MountedSession) (l : Ledger) (p : PipelineData) (w : WrittenRecord) (m : Blocks) (t floor : ℕ) (r : Result A E) (tickets : List ℕ) (base : Blocks) (new : List Event) → is_err r ≡ true → RecordLeaves s l p w m t floor r tickets base new → IsSafe s base new l t floor ⊎ IsSafe s base new (with_record l w m) t floor
err_left s l p w m t floor (Ok a) tickets base new e left = absurd (false≢true e)
err_left s l p w m t floor (Err a) tickets base new e left = left

pub ok_left : {A E : Type 0} (s : MountedSession) (l : Ledger) (p : PipelineData) (w : WrittenRecord) (m : Blocks) (t floor : ℕ) (r : Result A E) (tickets : List ℕ) (base : Blocks) (new : List Event) → is_err r ≡ false → RecordLeaves s l p w m t floor r tickets base new → IsInLedger s base new l p w m t floor tickets
ok_left s l p w m t floor (Ok a) tickets base new e left = left
ok_left s l p w m t floor (Err a) tickets base new e left = absurd (false≢true (sym e))

pub err_adds : {A E : Type 0} (ws : List (ℕ × List ℕ)) (r : Result A E) (before now : List ℕ) (old new : List Event) → is_err r ≡ true → AddsAll ws r before now old new → AddsFront ws old new
err_adds ws (Ok a) before now old new e all = absurd (false≢true e)
err_adds ws (Err a) before now old new e all = all

pub ok_adds : {A E : Type 0} (ws : List (ℕ × List ℕ)) (r : Result A E) (before now : List ℕ) (old new : List Event) → is_err r ≡ false → AddsAll ws r before now old new → (ts : List ℕ) × (now ≡ Rattle.std.proofs.Common.◌++◌ before ts) × AddsWrites ws ts old new
ok_adds ws (Ok a) before now old new e all = all
ok_adds ws (Err a) before now old new e all = absurd (false≢true (sym e))

pub same_written : (epoch number a b : ℕ) (P paid L laid : List Put) → a ≡ b → P ≡ paid → L ≡ laid → written_of epoch number a P L ≡ written_of epoch number b paid laid
same_written epoch number a b P paid L laid place p q = ap (λ n. written_of epoch number n P L) place ∙ ap (λ (ps : List Put). written_of epoch number b ps L) p ∙ ap (λ (ls : List Put). written_of epoch number b paid ls) q

pub same_writes : (g h : Geometry) (epoch number a b : ℕ) (P paid L laid : List Put) → g ≡ h → a ≡ b → P ≡ paid → L ≡ laid → record_writes g epoch number a P L ≡ record_writes h epoch number b paid laid
same_writes g h epoch number a b P paid L laid geom place p q = ap (λ (k : Geometry). record_writes k epoch number a P L) geom ∙ ap (λ n. record_writes h epoch number n P L) place ∙ ap (λ (ps : List Put). record_writes h epoch number b ps L) p ∙ ap (λ (ls : List Put). record_writes h epoch number b paid ls) q

-- what holds on Ok holds where it isn't an error
pub ok_holds : {A E : Type 0} (r : Result A E) (P : Type 0) → is_err r ≡ false → OnOk r P → P
ok_holds (Ok a) P e p = p
ok_holds (Err a) P e p = absurd (false≢true (sym e))

pub same_size : (P paid L laid : List Put) (number place : ℕ) → P ≡ paid → L ≡ laid → length L + places (record_of 0 0 P L) ≡ length laid + places (record_of number place paid laid)
same_size P paid L laid number place p q = ap (λ (ps : List Put). length L + places (record_of 0 0 ps L)) p ∙ ap (λ (ls : List Put). length ls + places (record_of 0 0 paid ls)) q

-- what holds of a call that failed
pub err_cause : {A E : Type 0} {P : Type 0} (r : Result A E) → is_err r ≡ true → OnErr r P → P
err_cause (Ok a) failed p = absurd (false≢true failed)
err_cause (Err e) failed p = p
