-- What the pipeline's calls promise: the disk stays safe, which ledger it has then, that nothing is due, and how many writes may come. It is described in docs/PIPELINE.md.
use Rattle.std.specs.Prelude.{◌≡◌, ◌⊎◌, ℕ, ◌+◌, ◌-◌, ◌^◌, ◌<◌, ◌≤◌, Bool, true, false, IsTrue, List, [], ◌++◌, length, is_err, map, slice_get, Some, None, Result, Ok, Err}
use Rattle.base_types.specs.Seal.{Blocks}
use Rattle.disk_contract.specs.declared.event.Event.{Event}
use Rattle.disk_contract.specs.Disk.{State, Spends}
use Rattle.layout_journal.specs.Ring.{RingPlaces}
use Rattle.layout_journal.specs.Run.{is_live}
use Rattle.crash_argument.specs.Ledger.{Ledger, next_number}
use Rattle.crash_argument.specs.Points.{MountedSession, IsSafe}
use Rattle.engine_notes.specs.Notes.{is_open, none_open}
use Rattle.engine_reuse.specs.Numbers.{is_among}
use Rattle.engine_reuse.specs.Dead.{DeadBlocks, dead_blocks, block_of}
use Rattle.engine_checkpoint.specs.declared.pipeline.Pending.{Pending}
use Rattle.engine_checkpoint.specs.declared.pipeline.HomeWrite.{HomeWrite}
use Rattle.engine_checkpoint.specs.declared.pipeline.Pipeline.{Pipeline}
use Rattle.engine_checkpoint.specs.Agree.{PipelineAgrees, home_ticket, durable_count}
use Rattle.engine_checkpoint.specs.Index.{IndexIsRight}
use Rattle.engine_checkpoint.specs.Turns.{TurnsOrStays, EndsOrStays, is_header_noticed, is_batch_noticed, with_served}
use Rattle.engine_checkpoint.specs.Kept.{payloads_in, behind_batch}
use Rattle.engine_checkpoint.specs.Order.{IsInOrder, HasRoom, GoesWith}
use Rattle.engine_checkpoint.specs.Steps.{is_first_settled, SettlesSome}

-- The ledger has turned: more may be known, and a header written or durable; which maps there were is as before, and no record has come.
pub record Turned (l k : Ledger) : Type 0 where
  pub geom : k.geom ≡ l.geom
  pub epoch : k.epoch ≡ l.epoch
  pub map_before : k.map_before ≡ l.map_before
  pub next : next_number k ≡ next_number l
  pub known : l.known ≤ k.known

-- The ledger has turned; the disk is safe and the pipeline agrees by the ledger that there is then.
pub record AgreesOn (s : MountedSession) (base : Blocks) (log : List Event) (l : Ledger) (t floor : ℕ) (v : Pipeline) (ring : RingPlaces) (waiting : List (ℕ × ℕ)) (taken : List ℕ) : Type 0 where
  pub now : Ledger
  pub turned : Turned l now
  pub safe : IsSafe s base log now t floor
  pub agrees : PipelineAgrees base log now v ring waiting taken

-- What may be taken or waits is dead in the map after all records, and to what may be taken no checkpoint write is open.
pub record MayServe (l : Ledger) (v : Pipeline) (dead : DeadBlocks) : Type 0 where
  pub dead_now : (b : ℕ) → is_among b (dead.reusable ++ map block_of dead.waiting) ≡ true → is_live l.geom (l.map_before (next_number l)) b ≡ false
  pub not_going : (k : ℕ) (h : HomeWrite) → slice_get v.home.items k ≡ Some h → is_open h.ticket v.notes.notes ≡ true → is_among h.block dead.reusable ≡ false

-- The disk is safe by the ledger, and pipeline, ring and dead blocks agree with both.
pub record IsRight (s : MountedSession) (base : Blocks) (log : List Event) (l : Ledger) (t floor : ℕ) (v : Pipeline) (ring : RingPlaces) (dead : DeadBlocks) (taken : List ℕ) : Type 0 where
  pub safe : IsSafe s base log l t floor
  pub agrees : PipelineAgrees base log l v ring dead.waiting taken
  pub serves : MayServe l v dead

-- the same of what is known of a disk
abbrev pub IsRightOn : MountedSession → State → Ledger → ℕ → ℕ → Pipeline → RingPlaces → DeadBlocks → List ℕ → Type 0
IsRightOn s d l t floor v ring dead taken = IsRight s d.base d.log l t floor v ring dead taken

-- so it is where the disk tells, and all is right by some ledger
abbrev pub WhereRight : Bool → State → Pipeline → RingPlaces → DeadBlocks → Type 0 → Type 0
WhereRight tells d v ring dead so = IsTrue tells → (s : MountedSession) (l : Ledger) (t floor : ℕ) (taken : List ℕ) → IsRightOn s d l t floor v ring dead taken → so

-- The ledger has turned, and all is right by the ledger that there is then.
pub record StaysRight (s : MountedSession) (base : Blocks) (log : List Event) (l : Ledger) (t floor : ℕ) (v : Pipeline) (ring : RingPlaces) (dead : DeadBlocks) (taken : List ℕ) : Type 0 where
  pub now : Ledger
  pub turned : Turned l now
  pub right : IsRight s base log now t floor v ring dead taken

-- The ledger has turned, and the disk is safe by it; of the pipeline nothing is said.
pub record StaysSafe (s : MountedSession) (d : State) (l : Ledger) (t floor : ℕ) : Type 0 where
  pub now : Ledger
  pub turned : Turned l now
  pub safe : IsSafe s d.base d.log now t floor

-- after a call: all is right where it succeeded, and where the disk failed it is safe
abbrev pub Leaves : {A E : Type 0} → Result A E → MountedSession → State → Ledger → ℕ → ℕ → Pipeline → RingPlaces → DeadBlocks → List ℕ → Type 0
Leaves (Ok a) s d l t floor v ring dead taken = StaysRight s d.base d.log l t floor v ring dead taken
Leaves (Err e) s d l t floor v ring dead taken = StaysSafe s d l t floor

-- what holds of pipeline, ring and dead blocks over any disk
pub record IsSound (v : Pipeline) (ring : RingPlaces) (dead : DeadBlocks) : Type 0 where
  pub order : IsInOrder v
  pub room : HasRoom v
  pub index : IndexIsRight v
  pub goes_with : GoesWith v ring dead

-- the numbers of headers and records are far from their ends
pub record HasTurns (v : Pipeline) : Type 0 where
  pub turn : v.written.turn < 2 ^ 63 + 2 ^ 21
  pub last : v.last < 2 ^ 63 + 2 ^ 21

-- so many headers more may be written, and the record's numbers aren't at their end
pub record LeavesTurns (headers : ℕ) (v : Pipeline) : Type 0 where
  pub turn : v.written.turn + headers < 2 ^ 64 - 1
  pub last : v.last < 2 ^ 64 - 1

-- The writes that are still to come for the records there are: the checkpoint writes of those behind the batch, and two headers for each record that isn't sure or not released by the header written last.
abbrev pub writes_owed : Pipeline → ℕ
writes_owed v = payloads_in (behind_batch v) + (v.last - v.written.sure) + (v.last + 1 - v.written.start)

-- The pipeline has moved on, by so many headers at most: no record has come, no fewer are sure or durable, no more ring places are taken, what may be taken still may, and no more blocks wait.
pub record Moves (headers : ℕ) (v w : Pipeline) (ring next_ring : RingPlaces) (dead next_dead : DeadBlocks) : Type 0 where
  pub geom : w.geom ≡ v.geom
  pub epoch : w.header.epoch ≡ v.header.epoch
  pub sure : v.header.sure ≤ w.header.sure
  pub last : w.last ≡ v.last
  pub ready : w.ready ≡ v.ready
  pub turn : w.written.turn ≤ v.written.turn + headers
  pub durable : v.header.start + durable_count v ≤ w.header.start + durable_count w
  pub ring_geom : next_ring.geom ≡ ring.geom
  pub next_place : next_ring.next ≡ ring.next
  pub taken : next_ring.taken ≤ ring.taken
  pub held : next_dead.held ≡ dead.held
  pub room : next_dead.room ≡ dead.room
  pub dead_geom : next_dead.geom ≡ dead.geom
  pub reusable : (b : ℕ) → is_among b dead.reusable ≡ true → is_among b next_dead.reusable ≡ true
  pub waiting : length next_dead.waiting ≤ length dead.waiting
  pub all_dead : (b : ℕ) → is_among b (dead_blocks next_dead) ≡ is_among b (dead_blocks dead)

-- Nothing is due: no record could go on without a notice or a write that isn't there yet. `old` is the pipeline as the call began.
pub record NothingIsDue (old v : Pipeline) : Type 0 where
  -- the oldest committed record has an open ticket, and so has the pending header
  pub durable : is_first_settled v.committed.items v.notes.notes ≡ false
  pub pending : (q : Pending) → v.next ≡ Some q → is_open q.ticket v.notes.notes ≡ true
  -- a checkpoint write of the batch is open, or the batch has begun in this call, behind the one that there was
  pub placed : 0 < v.batch → (none_open (map home_ticket v.home.items) v.notes.notes ≡ false) ⊎ (old.header.start + length old.placed.items + old.batch ≤ v.header.start + length v.placed.items)
  -- no record is sure without a batch, and none is durable or placed without a pending header
  pub batch : v.batch ≡ 0 → v.sure.items ≡ []
  pub header : v.next ≡ None → (v.durable.items ≡ []) × (v.placed.items ≡ [])

-- all records are released, and no block waits
pub record IsDrained (v : Pipeline) (dead : DeadBlocks) : Type 0 where
  pub placed : v.placed.items ≡ []
  pub sure : v.sure.items ≡ []
  pub durable : v.durable.items ≡ []
  pub committed : v.committed.items ≡ []
  pub waiting : dead.waiting ≡ []

-- what an advance spends: it waits for nothing and reads nothing, and polls until there is no notice, 64 times at most
pub record AdvanceSpends {A E : Type 0} (result : Result A E) (old new : State) : Type 0 where
  pub asked : ℕ
  pub upto : asked ≤ 64
  pub spends : Spends (is_err result) 0 asked old new

-- The steps that make no write, one after the other: records become durable, the pending header turns, the batch ends, and blocks serve again. Each is told by its effect and its test.
pub record GoesForward (v a b c w : Pipeline) (ring next_ring : RingPlaces) (dead next_dead : DeadBlocks) : Type 0 where
  pub count : ℕ
  pub settles : SettlesSome count v a
  pub settled : is_first_settled a.committed.items a.notes.notes ≡ false
  pub turns : TurnsOrStays (is_header_noticed a.next a.notes.notes) a b ring next_ring
  pub ends : EndsOrStays (is_batch_noticed b) b c
  pub serves : next_dead ≡ with_served c dead
  pub rest : w ≡ record c { blocks = w.blocks }
