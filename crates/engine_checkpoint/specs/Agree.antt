-- What the pipeline keeps: its own data agree with the ledger, and with what the crash argument asks for. It is described in docs/PIPELINE.md.
use Rattle.std.specs.Prelude.{◌≡◌, ◌≢◌, ◌⊎◌, ℕ, zero, suc, ◌+◌, ◌<◌, ◌≤◌, nat_lt, true, false, IsTrue, if◌then◌else◌, List, [], ◌∷◌, ◌++◌, length, map, slice_get, Some, option_map}
use Rattle.base_types.specs.Seal.{Blocks}
use Rattle.disk_contract.specs.declared.event.Event.{Event}
use Rattle.disk_contract.specs.Cell.{cell_of, greatest_ticket, IsAccepted, IsNoticed}
use Rattle.layout_journal.specs.declared.header.Header.{Header}
use Rattle.layout_journal.specs.Ring.{RingPlaces}
use Rattle.layout_geometry.specs.Geometry.{Geometry, bitmap_start, data_start}
use Rattle.layout_journal.specs.Run.{places, names_block, is_live}
use Rattle.crash_argument.specs.Ledger.{Ledger, WrittenRecord, IsStanding, payload_in, next_number}
use Rattle.crash_argument.specs.LastWrites.{IsLastWrite}
use Rattle.crash_argument.specs.Steps.{NoneIsBeingWritten}
use Rattle.crash_argument.specs.HomeTest.{is_one_of, AreFreedBy}
use Rattle.crash_argument.specs.OnePending.{HasOnePending, MayWriteAllFresh}
use Rattle.crash_argument.specs.PipelineData.{PipelineData, DataAgree}
use Rattle.engine_notes.specs.declared.notes.Note.{Note}
use Rattle.engine_notes.specs.Notes.{is_expected, is_noticed, are_expected}
use Rattle.engine_running.specs.declared.put.Put.{Put}
use Rattle.engine_running.specs.Rows.{put_of}
use Rattle.engine_running.specs.declared.commit.Committed.{Committed}
use Rattle.engine_running.specs.declared.states.Durable.{Durable}
use Rattle.engine_running.specs.declared.states.Sure.{Sure}
use Rattle.engine_running.specs.declared.states.Placed.{Placed}
use Rattle.engine_checkpoint.specs.declared.pipeline.Pending.{Pending}
use Rattle.engine_checkpoint.specs.declared.pipeline.HomeWrite.{HomeWrite}
use Rattle.engine_checkpoint.specs.declared.pipeline.Pipeline.{Pipeline}

abbrev pub header_in : Pending → Header
header_in p = p.header

abbrev pub ticket_in : Pending → ℕ
ticket_in p = p.ticket

abbrev pub home_pair : HomeWrite → ℕ × ℕ
home_pair h = (h.block, h.ticket)

abbrev pub home_ticket : HomeWrite → ℕ
home_ticket h = h.ticket

-- so many records whose tickets are forgotten
abbrev pub no_tickets : ℕ → List (List ℕ)
no_tickets zero = []
no_tickets (suc n) = [] ∷ no_tickets n

abbrev pub tickets_in : Committed → List ℕ
tickets_in c = c.tickets.items

-- how many of its records are known to be durable
abbrev pub durable_count : Pipeline → ℕ
durable_count v = length v.placed.items + length v.sure.items + length v.durable.items

-- the data of a pipeline, its ring and the freed blocks that wait, as the crash argument speaks of them
abbrev pub data_of : Pipeline → RingPlaces → List (ℕ × ℕ) → PipelineData
data_of v ring waiting = record {
  tickets = no_tickets (durable_count v) ++ map tickets_in v.committed.items;
  placed = length v.placed.items;
  batch = v.batch;
  home = map home_pair v.home.items;
  sent = if nat_lt 0 v.batch then v.geom.n else 0;
  pending = option_map ticket_in v.next;
  next_place = ring.next;
  taken = ring.taken;
  waiting = waiting;
}

-- what a state keeps of its record
pub record KeepsRecord (w : WrittenRecord) (number place count : ℕ) (payloads : List Put) (fresh : List ℕ) : Type 0 where
  pub number_is : w.says.number ≡ number
  pub place_is : w.says.place ≡ place
  pub count_is : places w.says ≡ count
  pub paid : (b : ℕ) → payload_in w b ≡ put_of b payloads
  pub laid : (b : ℕ) → names_block w.says.fresh b ≡ is_one_of b fresh

-- the record at this place of the ledger, and the blocks that it freed
pub record IsRecordAt (l : Ledger) (freed : List (List ℕ)) (k number place count : ℕ) (payloads : List Put) (fresh own_freed : List ℕ) : Type 0 where
  pub written : WrittenRecord
  pub is : slice_get l.records k ≡ Some written
  pub keeps : KeepsRecord written number place count payloads fresh
  pub freed_is : slice_get freed k ≡ Some own_freed

-- each ticket that the notes call noticed is noticed
abbrev pub NotesAreTrue : List Event → List Note → Type 0
NotesAreTrue log notes = (t : ℕ) → is_noticed t notes ≡ true → IsNoticed t log

-- each ticket that the notes expect is of a write that the disk accepted
abbrev pub NotesAreGiven : List Event → List Note → Type 0
NotesAreGiven log notes = (t : ℕ) → is_expected t notes ≡ true → IsAccepted t log

-- these are the blocks that the next record frees, where m is the map after it: each data block that it kills is among them, and each of them is dead after it
pub record HasFreed (l : Ledger) (m : Blocks) (freed : List ℕ) : Type 0 where
  pub killed : (b : ℕ) → data_start l.geom ≤ b → IsTrue (is_live l.geom (l.map_before (next_number l)) b) → is_live l.geom m b ≡ false → is_one_of b freed ≡ true
  pub dead : (b : ℕ) → is_one_of b freed ≡ true → is_live l.geom m b ≡ false

-- each of these puts is of a block that the transaction took
abbrev pub AreTaken : List Put → List ℕ → Type 0
AreTaken laid taken = (i : ℕ) (q : Put) → slice_get laid i ≡ Some q → is_one_of q.block taken ≡ true

-- each of these checkpoint writes is expected by the notes
abbrev pub AreExpectedHome : List HomeWrite → List Note → Type 0
AreExpectedHome home notes = (k : ℕ) (h : HomeWrite) → slice_get home k ≡ Some h → is_expected h.ticket notes ≡ true

-- each open ticket is expected by the notes: those of committed records, of checkpoint writes and of the header that isn't known to be durable
pub record OpenAreExpected (v : Pipeline) : Type 0 where
  pub records : (k : ℕ) (c : Committed) → slice_get v.committed.items k ≡ Some c → are_expected c.tickets.items v.notes.notes ≡ true
  pub home : AreExpectedHome v.home.items v.notes.notes
  pub header : (q : Pending) → v.next ≡ Some q → is_expected q.ticket v.notes.notes ≡ true

-- the last write to the block, which is none of a header or the ring, has this ticket
pub record IsSentTo (g : Geometry) (log : List Event) (b t : ℕ) : Type 0 where
  pub from : bitmap_start g ≤ b
  pub bytes : List ℕ
  pub last : IsLastWrite log b t bytes

-- each of these checkpoint writes, block and ticket, is noticed, or is the last write to its block
abbrev pub HomeIsSent : Geometry → List Event → List (ℕ × ℕ) → Type 0
HomeIsSent g log home = (k b t : ℕ) → slice_get home k ≡ Some (b, t) → IsNoticed t log ⊎ IsSentTo g log b t

-- no ticket is one of both
abbrev pub AreApart : List ℕ → List ℕ → Type 0
AreApart ts us = (t : ℕ) → is_one_of t ts ≡ true → is_one_of t us ≡ false

-- these tickets were given since: they are above the greatest of the old log, and none is above that of the new one, which has their writes and those of the old log
pub record AreNewTickets (old new : List Event) (ts : List ℕ) : Type 0 where
  pub above : (t : ℕ) → is_one_of t ts ≡ true → greatest_ticket old < t
  pub upto : (t : ℕ) → is_one_of t ts ≡ true → t ≤ greatest_ticket new
  pub grows : greatest_ticket old ≤ greatest_ticket new
  pub given : (t : ℕ) → is_one_of t ts ≡ true → IsAccepted t new
  pub stays : (t : ℕ) → IsAccepted t old → IsAccepted t new

-- the ticket is open and no committed record's: it is that of a checkpoint write, or of the header that isn't known to be durable
abbrev pub IsOpenBeside : Pipeline → ℕ → Type 0
IsOpenBeside v t = ((k : ℕ) × (h : HomeWrite) × (slice_get v.home.items k ≡ Some h) × (h.ticket ≡ t)) ⊎ ((q : Pending) × (v.next ≡ Some q) × (q.ticket ≡ t))

-- Each committed record has tickets of its own: none is another record's, a checkpoint write's or the pending header's. The pending header has one of its own too. None that is open is above the greatest of the log.
pub record OpenAreApart (log : List Event) (v : Pipeline) : Type 0 where
  pub records : (i k : ℕ) (c d : Committed) → i < k → slice_get v.committed.items i ≡ Some c → slice_get v.committed.items k ≡ Some d → AreApart c.tickets.items d.tickets.items
  pub beside : (k t : ℕ) (c : Committed) → slice_get v.committed.items k ≡ Some c → IsOpenBeside v t → is_one_of t c.tickets.items ≡ false
  pub header_apart : (q : Pending) → v.next ≡ Some q → (k : ℕ) (h : HomeWrite) → slice_get v.home.items k ≡ Some h → h.ticket ≢ q.ticket
  pub records_upto : (k t : ℕ) (c : Committed) → slice_get v.committed.items k ≡ Some c → is_one_of t c.tickets.items ≡ true → t ≤ greatest_ticket log
  pub beside_upto : (t : ℕ) → IsOpenBeside v t → t ≤ greatest_ticket log

-- What each step of the pipeline keeps, beside that the disk is safe with this ledger. `waiting` are the freed blocks that wait, and `taken` the blocks that the running transaction took.
pub record PipelineAgrees (base : Blocks) (log : List Event) (l : Ledger) (v : Pipeline) (ring : RingPlaces) (waiting : List (ℕ × ℕ)) (taken : List ℕ) : Type 0 where
  -- the headers
  pub geom : v.geom ≡ l.geom
  pub ring_geom : ring.geom ≡ l.geom
  pub slot : v.slot ≡ l.slot
  pub header : v.header ≡ l.header
  pub next : l.next ≡ option_map header_in v.next
  pub not_closed : (h : Header) → IsStanding l h → h.closed ≡ false
  -- the records: placed ones, sure ones of which the first are the batch, durable ones, committed ones
  pub known : l.known ≡ l.header.start + durable_count v
  pub count : length l.records ≡ durable_count v + length v.committed.items
  pub sure : l.header.start + length v.placed.items + length v.sure.items ≡ l.header.sure + 1
  pub batch : v.batch ≤ length v.sure.items
  pub freed : List (List ℕ)
  pub freed_by : AreFreedBy l freed
  pub placed_at : (k : ℕ) (t : Placed) → slice_get v.placed.items k ≡ Some t → (w : WrittenRecord) × (slice_get l.records k ≡ Some w) × (w.says.number ≡ t.number) × (places w.says ≡ t.count)
  pub sure_at : (k : ℕ) (t : Sure) → slice_get v.sure.items k ≡ Some t → IsRecordAt l freed (length v.placed.items + k) t.number t.place t.count t.payloads.items t.fresh.items t.freed.items
  pub durable_at : (k : ℕ) (t : Durable) → slice_get v.durable.items k ≡ Some t → IsRecordAt l freed (length v.placed.items + length v.sure.items + k) t.number t.place t.count t.payloads.items t.fresh.items t.freed.items
  pub committed_at : (k : ℕ) (t : Committed) → slice_get v.committed.items k ≡ Some t → IsRecordAt l freed (durable_count v + k) t.number t.place t.count t.payloads.items t.fresh.items t.freed.items
  -- tickets, the batch's writes, the ring and the freed blocks, for crashes
  pub agree : DataAgree base log l (data_of v ring waiting)
  pub notes : NotesAreTrue log v.notes.notes
  pub given : NotesAreGiven log v.notes.notes
  pub expected : OpenAreExpected v
  pub apart : OpenAreApart log v
  -- so each checkpoint write that isn't noticed is pending
  pub sent : HomeIsSent l.geom log (map home_pair v.home.items)
  -- no record is under way, and no block has two writes pending
  pub idle : NoneIsBeingWritten (cell_of base log) l
  pub one : HasOnePending base log l (data_of v ring waiting) []
  -- the blocks that the running transaction took may be written fresh still
  pub free : MayWriteAllFresh log l (data_of v ring waiting) taken
