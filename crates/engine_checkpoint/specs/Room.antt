-- For how much more a pipeline has room: it never gets less as more is made ready. It is described in docs/PIPELINE.md.
use Rattle.std.specs.Prelude.{ℕ, ◌+◌, ◌≤◌, length, vec_capacity}
use Rattle.std.specs.VecDeque.{deque_len, deque_capacity}
use Rattle.engine_checkpoint.specs.declared.pipeline.Ready.{Ready}
use Rattle.engine_checkpoint.specs.declared.pipeline.Pipeline.{Pipeline}
use Rattle.engine_checkpoint.specs.Kept.{kept, numbers}
use Rattle.engine_checkpoint.specs.Newest.{spot_room}

-- there is no less room than before
pub record NoLessRoom (v w : Pipeline) : Type 0 where
  pub placed : deque_capacity v.placed ≤ deque_capacity w.placed
  pub sure : deque_capacity v.sure ≤ deque_capacity w.sure
  pub durable : deque_capacity v.durable ≤ deque_capacity w.durable
  pub committed : deque_capacity v.committed ≤ deque_capacity w.committed
  pub home : vec_capacity v.home ≤ vec_capacity w.home
  pub blocks : vec_capacity v.blocks ≤ vec_capacity w.blocks
  pub last : spot_room v.batch_newest ≤ spot_room w.batch_newest
  pub newest : spot_room v.newest ≤ spot_room w.newest
  pub notes : v.notes.room ≤ w.notes.room

-- there is room for so many records more on their way through the states
pub record RoomForRecords (more : ℕ) (v : Pipeline) : Type 0 where
  pub placed : length (numbers v) + more ≤ deque_capacity v.placed
  pub sure : length (kept v) + more ≤ deque_capacity v.sure
  pub durable : deque_len v.durable + deque_len v.committed + more ≤ deque_capacity v.durable
  pub committed : deque_len v.committed + more ≤ deque_capacity v.committed

-- and for so many payloads more, with their checkpoint writes, beside those that aren't placed
pub record RoomForPayloads (more : ℕ) (v : Pipeline) : Type 0 where
  pub home : v.unplaced + more ≤ vec_capacity v.home
  pub blocks : v.unplaced + more ≤ vec_capacity v.blocks
  pub last : v.unplaced + more ≤ spot_room v.batch_newest
  pub newest : more ≤ spot_room v.newest

-- and for the notes of these payloads' checkpoint writes, of so many writes of a record and of a header
abbrev pub RoomForNotes : Ready → Pipeline → Type 0
RoomForNotes r v = v.unplaced + r.payloads + r.writes + 1 ≤ v.notes.room
