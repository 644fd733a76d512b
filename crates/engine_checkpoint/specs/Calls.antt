-- What the calls that move the pipeline ask, and what all of them do. It is described in docs/PIPELINE.md.
use Rattle.std.specs.Prelude.{◌≡◌, ℕ, ◌+◌, ◌≤◌, Bool, IsTrue, List, Result, OnOk}
use Rattle.disk_contract.specs.Disk.{State, writes_in}
use Rattle.layout_journal.specs.Ring.{RingPlaces}
use Rattle.crash_argument.specs.Ledger.{Ledger}
use Rattle.crash_argument.specs.Points.{MountedSession, IsSafe}
use Rattle.engine_reuse.specs.Dead.{DeadBlocks}
use Rattle.engine_checkpoint.specs.declared.pipeline.Pipeline.{Pipeline}
use Rattle.engine_checkpoint.specs.Adds.{AddsHome, LosesFront}
use Rattle.engine_checkpoint.specs.Advance.{HasTurns, IsRightOn, IsSound, Leaves, Moves, WhereRight, writes_owed}
use Rattle.engine_checkpoint.specs.Agree.{PipelineAgrees}
use Rattle.engine_checkpoint.specs.Bytes.{LeavesBytes}
use Rattle.engine_checkpoint.specs.Kept.{kept}
use Rattle.engine_checkpoint.specs.Waits.{LosesCommitted, OnlyNotices, StaysHeard}

-- Where the disk tells and was safe by a ledger with which the pipeline agreed, both are so still by the same ledger.
abbrev pub StaysAgreed : Bool → State → State → Pipeline → Pipeline → Type 0
StaysAgreed tells old new v w = IsTrue tells → (s : MountedSession) (l : Ledger) (t floor : ℕ) (ring : RingPlaces) (waiting : List (ℕ × ℕ)) (taken : List ℕ)
    → IsSafe s old.base old.log l t floor → PipelineAgrees old.base old.log l v ring waiting taken → IsSafe s new.base new.log l t floor × PipelineAgrees new.base new.log l w ring waiting taken

-- The pipeline may be moved on a disk of so many blocks.
pub record MayMove (blocks : ℕ) (v : Pipeline) (ring : RingPlaces) (dead : DeadBlocks) : Type 0 where
  -- it is sound, with ring and dead blocks
  pub sound : IsSound v ring dead
  -- the disk has the blocks of its geometry
  pub size : blocks ≡ v.geom.n
  -- the numbers of headers and records are far from their ends
  pub turns : HasTurns v

-- What a call does that moves the pipeline, with ring and dead blocks, on by so many headers at most.
pub record GoesOn {A E : Type 0} (tells : Bool) (headers : ℕ) (result : Result A E) (old new : State) (v w : Pipeline) (before after : RingPlaces) (dead next : DeadBlocks) : Type 0 where
  -- where all was right by a ledger it is right; where the disk failed it is safe
  pub right : IsTrue tells → (s : MountedSession) (l : Ledger) (t floor : ℕ) (taken : List ℕ) → IsRightOn s old l t floor v before dead taken → Leaves result s new l t floor w after next taken
  -- they are sound
  pub sound : OnOk result (IsSound w after next)
  -- they have moved on
  pub moves : Moves headers v w before after dead next
  -- each write that came was owed
  pub owed : IsTrue tells → writes_in new.log + writes_owed w ≤ writes_in old.log + writes_owed v
  -- each was of a header, or of a payload that the records had
  pub adds : IsTrue tells → AddsHome result (kept v) old.log new.log
  -- of the records that aren't placed some have left at the front
  pub front : LosesFront (kept v) (kept w)
  -- and so have some of the committed ones
  pub lost : OnOk result (LosesCommitted v w)
  -- the notes know each notice, as they did
  pub heard : WhereRight tells old v before dead (OnOk result (StaysHeard old new v w))
  -- live blocks have the bytes that they had
  pub bytes : IsTrue tells → (s : MountedSession) (l : Ledger) (t floor : ℕ) (taken : List ℕ) → IsRightOn s old l t floor v before dead taken → LeavesBytes l v w old new

-- What a call does that waits and takes records as durable, but writes nothing, whatever ring and dead blocks there are.
pub record OnlyHears {A E : Type 0} (tells : Bool) (result : Result A E) (old new : State) (v w : Pipeline) : Type 0 where
  -- where all was right by a ledger it is right; where the disk failed it is safe
  pub right : IsTrue tells → (s : MountedSession) (l : Ledger) (t floor : ℕ) (ring : RingPlaces) (dead : DeadBlocks) (taken : List ℕ) → IsRightOn s old l t floor v ring dead taken → Leaves result s new l t floor w ring dead taken
  -- what was sound is so, whether or not the disk failed
  pub sound : (ring : RingPlaces) (dead : DeadBlocks) → IsSound v ring dead → IsSound w ring dead
  -- the pipeline has moved on
  pub moves : (ring : RingPlaces) (dead : DeadBlocks) → Moves 0 v w ring ring dead dead
  -- it keeps the records that it kept, and owes the same writes
  pub kept : kept w ≡ kept v
  pub owed : writes_owed w ≡ writes_owed v
  -- some of the committed records aren't committed ones any more
  pub lost : OnOk result (LosesCommitted v w)
  -- the notes know each notice, as they did
  pub heard : IsTrue tells → (s : MountedSession) (l : Ledger) (t floor : ℕ) (ring : RingPlaces) (dead : DeadBlocks) (taken : List ℕ) → IsRightOn s old l t floor v ring dead taken → OnOk result (StaysHeard old new v w)
  -- notices alone came to the log
  pub log : IsTrue tells → OnlyNotices old.log new.log
