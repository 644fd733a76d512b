-- What a call of the pipeline does over the store's disk, whether it succeeded or not, and what becomes of the store's parts behind it. It is described in docs/STORE.md.
use Rattle.std.specs.Prelude.{◌≡◌, ℕ, ◌+◌, ◌≤◌, Bool, true, false, IsTrue, List, Result, Ok, Err, OnOk, OnErr, is_err}
use Rattle.disk_contract.specs.declared.disk.DiskFault.{DiskFault}
use Rattle.disk_contract.specs.Disk.{State, HasFailed, Spends, Grows, writes_in}
use Rattle.crash_argument.specs.Ledger.{Ledger}
use Rattle.crash_argument.specs.Points.{MountedSession}
use Rattle.engine_checkpoint.specs.Adds.{LosesFront}
use Rattle.engine_checkpoint.specs.Advance.{IsRightOn, IsSound, Leaves, writes_owed}
use Rattle.engine_checkpoint.specs.Bytes.{LeavesBytes}
use Rattle.engine_checkpoint.specs.Kept.{kept}
use Rattle.engine_checkpoint.specs.Steps.{is_first_settled}
use Rattle.engine_checkpoint.specs.Waits.{LosesCommitted, StaysHeard}
use Rattle.engine_store.specs.declared.parts.StoreParts.{StoreParts}
use Rattle.engine_store.specs.Store.{PartsMove, durable_point}

-- the parts behind a call of the pipeline: where it succeeded the floor is taken anew, and where the disk failed the store stops
abbrev pub settled_up : {A E : Type 0} → Result A E → StoreParts → StoreParts
settled_up (Ok a) v = record v { floor = durable_point v }
settled_up (Err e) v = record v { stopped = true }

-- A call of the pipeline, which wrote so many headers at most: how it moved the parts, and what it spent. Where the disk tells, all is right after it if it succeeded, and the oldest committed record has an open ticket; of records' notices as many are known as came; it is safe if the disk failed, for a reason that its manner has; the bytes of live blocks stay; and no write came that wasn't owed.
pub record CallsPipeline (tells : Bool) (headers : ℕ) (result : Result (Unit {0}) DiskFault) (v w : StoreParts) (d e : State) : Type 0 where
  pub moves : PartsMove headers v w
  pub floor : w.floor ≡ v.floor
  pub stopped : w.stopped ≡ v.stopped
  pub sound : OnOk result (IsSound w.pipeline w.ring w.books.dead)
  pub front : LosesFront (kept v.pipeline) (kept w.pipeline)
  pub made : ℕ
  pub asked : ℕ
  pub spends : Spends (is_err result) made asked d e
  pub grows : IsTrue tells → Grows d.log e.log
  pub right : IsTrue tells → (s : MountedSession) (l : Ledger) (t floor : ℕ) (taken : List ℕ) → IsRightOn s d l t floor v.pipeline v.ring v.books.dead taken → Leaves result s e l t floor w.pipeline w.ring w.books.dead taken
  pub bytes : IsTrue tells → (s : MountedSession) (l : Ledger) (t floor : ℕ) (taken : List ℕ) → IsRightOn s d l t floor v.pipeline v.ring v.books.dead taken → LeavesBytes l v.pipeline w.pipeline d e
  pub cause : IsTrue tells → (s : MountedSession) (l : Ledger) (t floor : ℕ) (taken : List ℕ) → IsRightOn s d l t floor v.pipeline v.ring v.books.dead taken → OnErr result (HasFailed e)
  pub due : IsTrue tells → (s : MountedSession) (l : Ledger) (t floor : ℕ) (taken : List ℕ) → IsRightOn s d l t floor v.pipeline v.ring v.books.dead taken → OnOk result (is_first_settled w.pipeline.committed.items w.pipeline.notes.notes ≡ false)
  pub lost : OnOk result (LosesCommitted v.pipeline w.pipeline)
  pub heard : IsTrue tells → (s : MountedSession) (l : Ledger) (t floor : ℕ) (taken : List ℕ) → IsRightOn s d l t floor v.pipeline v.ring v.books.dead taken → OnOk result (StaysHeard d e v.pipeline w.pipeline)
  pub owed : IsTrue tells → writes_in e.log + writes_owed w.pipeline ≤ writes_in d.log + writes_owed v.pipeline
