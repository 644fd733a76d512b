-- What the pipeline's steps make of it, in terms of its own lists: the pending header becomes the durable one, the batch is placed, a batch begins, a header is written, blocks that were freed serve again. It is described in docs/PIPELINE.md.
use Rattle.std.specs.Prelude.{◌≡◌, ◌⊎◌, ℕ, ◌+◌, ◌-◌, ◌==◌, ◌&&◌, ◌||◌, not, nat_lt, Bool, true, false, if◌then◌else◌, List, [], ◌∷◌, ◌++◌, length, take, drop, map, slice_get, Option, Some, None, Result, Ok, Err}
use Rattle.std.specs.Option.{is_none}
use Rattle.disk_contract.specs.declared.event.Event.{Event}
use Rattle.disk_contract.specs.declared.disk.DiskFault.{DiskFault}
use Rattle.disk_contract.specs.Disk.{State, AddsWrite}
use Rattle.layout_journal.specs.declared.header.Header.{Header}
use Rattle.layout_journal.specs.Ring.{RingPlaces, without_places}
use Rattle.layout_journal.specs.Spelling.{header_block}
use Rattle.crash_argument.specs.Ledger.{Ledger}
use Rattle.crash_argument.specs.Points.{MountedSession, IsSafe}
use Rattle.crash_argument.specs.Steps.{with_header, with_durable_header}
use Rattle.engine_notes.specs.declared.notes.Note.{Note}
use Rattle.engine_notes.specs.Notes.{is_expected, is_noticed, is_open, none_open}
use Rattle.engine_running.specs.declared.commit.Committed.{Committed}
use Rattle.crash_argument.specs.HomeTest.{is_one_of}
use Rattle.crash_argument.specs.Writes.{AddsAll}
use Rattle.engine_running.specs.declared.put.Put.{Put}
use Rattle.engine_running.specs.Writes.{fresh_write}
use Rattle.engine_running.specs.declared.states.Durable.{Durable}
use Rattle.engine_running.specs.declared.states.Sure.{Sure}
use Rattle.engine_running.specs.States.{IsSureOf, Forgets}
use Rattle.engine_reuse.specs.Dead.{DeadBlocks}
use Rattle.engine_reuse.specs.Calls.{with_released}
use Rattle.engine_checkpoint.specs.declared.pipeline.Pending.{Pending}
use Rattle.engine_checkpoint.specs.declared.pipeline.HomeWrite.{HomeWrite}
use Rattle.engine_checkpoint.specs.declared.pipeline.Pipeline.{Pipeline}
use Rattle.engine_checkpoint.specs.Agree.{PipelineAgrees, durable_count, home_ticket}
use Rattle.engine_checkpoint.specs.Kept.{total, placed_count, payloads_in, of_sure}
use Rattle.engine_checkpoint.specs.Newest.{spot_of, is_upto}
use Rattle.engine_checkpoint.specs.Batch.{placed_of, have_payload, home_block, IsHomeRow, AreHomeBlocks}

-- a pending header whose ticket isn't open any more
abbrev pub is_header_noticed : Option Pending → List Note → Bool
is_header_noticed None notes = false
is_header_noticed (Some q) notes = not (is_open q.ticket notes)

-- each of these is the sure state of the durable one at its place
abbrev pub AreSured : List Durable → List Sure → Type 0
AreSured ds ss = (i : ℕ) (s : Sure) → slice_get ss i ≡ Some s → (d : Durable) × (slice_get ds i ≡ Some d) × IsSureOf d s

-- The pending header is the durable one: the placed records before its start have left, and their ring places are free; the durable ones up to its `sure` are sure. The notes have dropped its ticket, and nothing else has changed.
pub record TurnsHeader (v w : Pipeline) (old new : RingPlaces) : Type 0 where
  pub pending : Pending
  pub was : v.next ≡ Some pending
  pub placed : w.placed.items ≡ drop (pending.header.start - v.header.start) v.placed.items
  pub news : List Sure
  pub sure : w.sure.items ≡ v.sure.items ++ news
  pub count : length news ≡ pending.header.sure - v.header.sure
  pub each : AreSured v.durable.items news
  pub durable : w.durable.items ≡ drop (pending.header.sure - v.header.sure) v.durable.items
  pub forgets : Forgets (pending.ticket ∷ []) v.notes w.notes
  pub rest : w ≡ record v { header = pending.header; slot = 1 - v.slot; next = None; notes = w.notes; placed = w.placed; sure = w.sure; durable = w.durable }
  pub ring : new ≡ without_places old (total (map placed_count (take (pending.header.start - v.header.start) v.placed.items)))

-- or nothing has changed at all
abbrev pub TurnsOrStays : Bool → Pipeline → Pipeline → RingPlaces → RingPlaces → Type 0
TurnsOrStays true v w old new = TurnsHeader v w old new
TurnsOrStays false v w old new = (w ≡ v) × (new ≡ old)

-- there is a batch, and none of its checkpoint writes is open any more
abbrev pub is_batch_noticed : Pipeline → Bool
is_batch_noticed v = nat_lt 0 v.batch && none_open (map home_ticket v.home.items) v.notes.notes

-- the number of the batch's last record
abbrev pub last_of_batch : Pipeline → ℕ
last_of_batch v = v.header.start + length v.placed.items + v.batch - 1

-- The batch's records are placed, the notes have dropped the tickets of its checkpoint writes, and there is no batch. Of the payloads that these records have, none up to the last of them is a newest one any more.
pub record EndsBatch (v w : Pipeline) : Type 0 where
  pub placed : w.placed.items ≡ v.placed.items ++ map placed_of (take v.batch v.sure.items)
  pub sure : w.sure.items ≡ drop v.batch v.sure.items
  pub home : w.home.items ≡ []
  pub unplaced : w.unplaced + payloads_in (map of_sure (take v.batch v.sure.items)) ≡ v.unplaced
  pub forgets : Forgets (map home_ticket v.home.items) v.notes w.notes
  pub newest : (b : ℕ) → spot_of w.newest b ≡ (if have_payload b (map of_sure (take v.batch v.sure.items)) && is_upto (last_of_batch v) (spot_of v.newest b) then None else spot_of v.newest b)
  pub rest : w ≡ record v { notes = w.notes; placed = w.placed; sure = w.sure; batch = 0; home = w.home; unplaced = w.unplaced; newest = w.newest }

-- or nothing has changed at all
abbrev pub EndsOrStays : Bool → Pipeline → Pipeline → Type 0
EndsOrStays true v w = EndsBatch v w
EndsOrStays false v w = w ≡ v

-- the blocks to which the batch has a checkpoint write that is open
abbrev pub going_home : List HomeWrite → List Note → List ℕ
going_home [] notes = []
going_home (h ∷ hs) notes = if is_open h.ticket notes then h.block ∷ going_home hs notes else going_home hs notes

-- the dead blocks once those serve again that a sure record freed and to which no checkpoint write is open
abbrev pub with_served : Pipeline → DeadBlocks → DeadBlocks
with_served v dead = with_released dead v.header.sure (going_home v.home.items v.notes.notes)

-- a batch begins where none is under way and some record is sure
abbrev pub is_batch_due : Pipeline → Bool
is_batch_due v = (v.batch == 0) && nat_lt 0 (length v.sure.items)

-- The sure records are the batch, the tickets of its checkpoint writes are expected, and nothing else has changed but what is looked up while a batch begins.
pub record BeginsBatch (v w : Pipeline) : Type 0 where
  pub expected : (u : ℕ) → is_expected u w.notes.notes ≡ (is_one_of u (map home_ticket w.home.items) || is_expected u v.notes.notes)
  pub noticed : (u : ℕ) → is_noticed u w.notes.notes ≡ is_noticed u v.notes.notes
  pub rest : w ≡ record v { notes = w.notes; batch = length v.sure.items; home = w.home; batch_newest = w.batch_newest; blocks = w.blocks }

-- each of these checkpoint writes is open
abbrev pub AreOpenHome : List HomeWrite → List Note → Type 0
AreOpenHome home notes = (k : ℕ) (h : HomeWrite) → slice_get home k ≡ Some h → is_open h.ticket notes ≡ true

-- what the step makes of the pipeline: where a batch was due it begins, and its list has the blocks of all its checkpoint writes, or, where the disk failed, of some; else nothing has changed
abbrev pub BatchAdds : {A E : Type 0} → Bool → Result A E → Pipeline → Pipeline → Type 0
BatchAdds true (Ok a) v w = BeginsBatch v w × AreHomeBlocks (map of_sure v.sure.items) (map home_block w.home.items)
BatchAdds true (Err e) v w = BeginsBatch v w
BatchAdds false (Ok a) v w = w ≡ v
BatchAdds false (Err e) v w = ⊥

-- what it adds to the log: where a batch was due its checkpoint writes, ascending, with the tickets that the pipeline has, or a front of them; else nothing
abbrev pub AddsBatch : {A E : Type 0} → Bool → Result A E → Pipeline → Pipeline → List Event → List Event → Type 0
AddsBatch true r v w old new = (row : List Put) × IsHomeRow (map of_sure v.sure.items) row × AddsAll (map fresh_write row) r [] (map home_ticket w.home.items) old new
AddsBatch false r v w old new = new ≡ old

-- a header is written where none is pending, and some record is durable and not sure, or placed
abbrev pub is_header_due : Pipeline → Bool
is_header_due v = is_none v.next && (nat_lt 0 (length v.durable.items) || nat_lt 0 (length v.placed.items))

-- the place of the first of these records, or this one where there is none

abbrev pub first_sure : List Sure → ℕ → ℕ
first_sure [] n = n
first_sure (s ∷ ss) n = s.place

abbrev pub first_durable : List Durable → ℕ → ℕ
first_durable [] n = n
first_durable (d ∷ ds) n = d.place

abbrev pub first_committed : List Committed → ℕ → ℕ
first_committed [] n = n
first_committed (c ∷ cs) n = c.place

-- the place at which the first record behind the placed ones begins, or the next one where there is none
abbrev pub place_behind_placed : Pipeline → RingPlaces → ℕ
place_behind_placed v ring = first_sure v.sure.items (first_durable v.durable.items (first_committed v.committed.items ring.next))

-- the header that is due: it releases the placed records, and makes the durable ones sure
abbrev pub due_header : Pipeline → RingPlaces → Header
due_header v ring = record {
  epoch = v.header.epoch;
  turn = v.header.turn + 1;
  start = v.header.start + length v.placed.items;
  sure = v.header.start + durable_count v - 1;
  at = place_behind_placed v ring;
  closed = false;
  geom = v.geom;
}

-- The due header is written and waits for its notice: its ticket is expected, and nothing else has changed.
pub record WritesHeader (v w : Pipeline) (ring : RingPlaces) : Type 0 where
  pub pending : Pending
  pub is_next : w.next ≡ Some pending
  pub header : pending.header ≡ due_header v ring
  pub expected : (u : ℕ) → is_expected u w.notes.notes ≡ (pending.ticket == u || is_expected u v.notes.notes)
  pub noticed : (u : ℕ) → is_noticed u w.notes.notes ≡ is_noticed u v.notes.notes
  pub rest : w ≡ record v { next = w.next; written = due_header v ring; notes = w.notes }

-- what the step makes of the pipeline: where a header was due it is written, or, where the disk failed, only the last one that was tried; else nothing has changed
abbrev pub HeaderAdds : {A E : Type 0} → Bool → Result A E → Pipeline → Pipeline → RingPlaces → Type 0
HeaderAdds true (Ok a) v w ring = WritesHeader v w ring
HeaderAdds true (Err e) v w ring = w ≡ record v { written = due_header v ring }
HeaderAdds false (Ok a) v w ring = w ≡ v
HeaderAdds false (Err e) v w ring = ⊥

-- what it adds to the log: where a header was due this one write beside the durable header, with the ticket that the pipeline has; else nothing
abbrev pub AddsHeader : {A E : Type 0} → Bool → Result A E → Pipeline → Pipeline → RingPlaces → List Event → List Event → Type 0
AddsHeader true (Ok a) v w ring old new = (q : Pending) × (w.next ≡ Some q) × AddsWrite {E = DiskFault} (1 - v.slot) (header_block (due_header v ring)) (Ok q.ticket) old new
AddsHeader true (Err e) v w ring old new = AddsWrite (1 - v.slot) (header_block (due_header v ring)) (Err e) old new
AddsHeader false r v w ring old new = new ≡ old

-- the ledger after the step: with the header where one was due
abbrev pub header_made : Pipeline → RingPlaces → Ledger → Ledger
header_made v ring l = if is_header_due v then with_header l (due_header v ring) else l

-- After the step the disk is safe by that ledger, and the pipeline agrees. Where the disk failed it is safe with the header or without it.
abbrev pub HeaderMade : {A E : Type 0} → Result A E → MountedSession → State → Ledger → ℕ → ℕ → Pipeline → Pipeline → RingPlaces → List (ℕ × ℕ) → List ℕ → Type 0
HeaderMade (Ok a) s d l t floor v w ring waiting taken = IsSafe s d.base d.log (header_made v ring l) t floor × PipelineAgrees d.base d.log (header_made v ring l) w ring waiting taken
HeaderMade (Err e) s d l t floor v w ring waiting taken = IsSafe s d.base d.log l t floor ⊎ IsSafe s d.base d.log (with_header l (due_header v ring)) t floor

-- the ledger once this header is durable, if there is one
abbrev pub with_turned : Option Pending → Ledger → Ledger
with_turned None l = l
with_turned (Some q) l = with_durable_header l q.header

-- the ledger after a turn: the pending header is the durable one
abbrev pub header_turned : Bool → Pipeline → Ledger → Ledger
header_turned turned v l = if turned then with_turned v.next l else l
