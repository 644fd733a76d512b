-- What the pipeline keeps over any disk: its records are numbered in a row, its headers fit them, and there is room for all that is to come. It is described in docs/PIPELINE.md.
use Rattle.std.specs.Prelude.{◌≡◌, ℕ, ◌+◌, ◌-◌, ◌^◌, ◌<◌, ◌≤◌, min, if◌then◌else◌, List, [], length, take, All, Option, Some, None, vec_capacity}
use Rattle.std.specs.List.{range_with_len}
use Rattle.std.specs.VecDeque.{deque_len, deque_capacity}
use Rattle.layout_journal.specs.declared.header.Header.{Header}
use Rattle.layout_journal.specs.Ring.{RingPlaces}
use Rattle.engine_notes.specs.declared.notes.Note.{Note}
use Rattle.engine_notes.specs.Notes.{is_expected}
use Rattle.engine_running.specs.Record.{AreBelow}
use Rattle.engine_reuse.specs.Dead.{DeadBlocks, freed_by}
use Rattle.engine_checkpoint.specs.declared.pipeline.Pending.{Pending}
use Rattle.engine_checkpoint.specs.declared.pipeline.Pipeline.{Pipeline}
use Rattle.engine_checkpoint.specs.Agree.{durable_count}
use Rattle.engine_checkpoint.specs.Newest.{spot_room}
use Rattle.engine_checkpoint.specs.Kept.{Kept, kept, numbers, places_taken, payloads_in, behind_batch}

-- the header that was written last: the one that isn't known to be durable, or else the durable one
abbrev pub header_written : Header → Option Pending → Header
header_written h None = h
header_written h (Some q) = q.header

-- A header that isn't known to be durable: it has the durable one's epoch and comes after it, releases records that are placed, and makes sure records that are durable.
pub record MovesHeader (v : Pipeline) (h : Header) : Type 0 where
  pub start : v.header.start ≤ h.start
  pub start_upto : h.start ≤ v.header.start + length v.placed.items
  pub sure : v.header.sure ≤ h.sure
  pub sure_upto : h.sure < v.header.start + durable_count v
  pub turn : v.header.turn ≤ h.turn
  pub epoch : h.epoch ≡ v.header.epoch

-- all payloads are of blocks of the disk
abbrev pub PayloadsBelow : ℕ → Kept → Type 0
PayloadsBelow n k = AreBelow n k.payloads

-- a record has a ring place for each of its payloads
abbrev pub HasPlaces : Kept → Type 0
HasPlaces k = length k.payloads ≤ k.count

-- The records follow one another from the durable header's start on. Those up to its `sure` are placed or sure, and the batch is made of the first that aren't placed.
pub record IsInOrder (v : Pipeline) : Type 0 where
  pub numbers_are : numbers v ≡ range_with_len v.header.start (length (numbers v))
  pub last : v.header.start + length (numbers v) ≡ v.last + 1
  pub sure : v.header.start + length v.placed.items + length v.sure.items ≡ v.header.sure + 1
  pub next : (q : Pending) → v.next ≡ Some q → MovesHeader v q.header
  pub written : v.written ≡ header_written v.header v.next
  pub batch : v.batch ≤ length v.sure.items
  pub none : v.batch ≡ 0 → v.home.items ≡ []
  pub home : length v.home.items ≤ payloads_in (take v.batch (kept v))
  pub unplaced : v.unplaced ≡ payloads_in (kept v)
  pub few : v.unplaced ≤ places_taken v
  pub have_places : All HasPlaces (kept v)
  pub within : places_taken v ≤ v.geom.j
  pub below : All (PayloadsBelow v.geom.n) (kept v)

-- how many notes the pending header has: one, unless on a disk that gives a ticket twice its note was dropped with another's
abbrev pub pending_notes : Option Pending → List Note → ℕ
pending_notes None notes = 0
pending_notes (Some q) notes = if is_expected q.ticket notes then 1 else 0

abbrev pub header_notes : Pipeline → ℕ
header_notes v = pending_notes v.next v.notes.notes

-- how many notes the next header needs: one where there is a record, or one is made ready
abbrev pub header_room : Pipeline → ℕ
header_room v = min 1 (length (numbers v) + v.ready.records)

-- There is room for what is to come: each record's way through the states, the checkpoint writes of the records behind the batch, a header, and what was made ready for the next commit.
pub record HasRoom (v : Pipeline) : Type 0 where
  pub placed : length (numbers v) + v.ready.records ≤ deque_capacity v.placed
  pub sure : length (kept v) + v.ready.records ≤ deque_capacity v.sure
  pub durable : deque_len v.durable + deque_len v.committed + v.ready.records ≤ deque_capacity v.durable
  pub committed : deque_len v.committed + v.ready.records ≤ deque_capacity v.committed
  pub home : v.unplaced + v.ready.payloads ≤ vec_capacity v.home
  pub blocks : v.unplaced + v.ready.payloads ≤ vec_capacity v.blocks
  pub last : payloads_in (behind_batch v) + v.ready.payloads ≤ spot_room v.batch_newest
  pub newest : v.ready.payloads ≤ spot_room v.newest
  pub notes : payloads_in (behind_batch v) + v.ready.payloads + v.ready.writes + header_room v ≤ v.notes.room + header_notes v

-- What each step keeps of a pipeline: its records are in order, and there is room for what is to come.
pub record IsFit (v : Pipeline) : Type 0 where
  pub order : IsInOrder v
  pub room : HasRoom v

-- The pipeline may write on a disk of so many blocks.
pub record MayWriteOn (blocks : ℕ) (v : Pipeline) : Type 0 where
  -- it is fit
  pub order : IsInOrder v
  pub room : HasRoom v
  -- the disk has the blocks of its geometry
  pub size : blocks ≡ v.geom.n

-- A header may be the next one that it writes on such a disk.
pub record MayWriteNext (blocks : ℕ) (v : Pipeline) : Type 0 where
  pub on : MayWriteOn blocks v
  -- the numbers of headers and of records aren't at their ends
  pub turn : v.header.turn < 2 ^ 64 - 1
  pub last : v.last < 2 ^ 64 - 1

-- the ring and the dead blocks go with the pipeline: the ring's places are those of its records, and each block that waits was freed by one of its records or an earlier one
pub record GoesWith (v : Pipeline) (ring : RingPlaces) (dead : DeadBlocks) : Type 0 where
  pub ring_geom : ring.geom ≡ v.geom
  pub taken : ring.taken ≡ places_taken v
  pub dead_geom : dead.geom ≡ v.geom
  pub waiting : All (λ p. freed_by p ≤ v.last) dead.waiting
