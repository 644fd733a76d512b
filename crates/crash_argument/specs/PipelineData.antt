-- What the data of a session say of its ledger and its disk: the tickets of its records, the batch on its way home, the header that was written last, and the blocks that wait.
use Rattle.std.specs.Prelude.{◌≡◌, ℕ, ◌+◌, ◌-◌, ◌%◌, ◌<◌, ◌≤◌, nat_le, true, false, IsTrue, List, [], ◌∷◌, ◌++◌, length, take, drop, slice_get, Option, Some, None}
use Rattle.base_types.specs.Seal.{Blocks}
use Rattle.disk_contract.specs.declared.event.Event.{Event}
use Rattle.disk_contract.specs.Cell.{Cell, cell_of, IsNoticed}
use Rattle.disk_contract.specs.Disk.{State}
use Rattle.layout_geometry.specs.Geometry.{data_start}
use Rattle.layout_journal.specs.declared.header.Header.{Header}
use Rattle.layout_journal.specs.Layout.{header_of}
use Rattle.layout_journal.specs.Run.{is_live, names_block, places, all_places, place_after}
use Rattle.crash_argument.specs.Ledger.{Ledger, WrittenRecord, IsConsistentOn, next_number, cover, payload_in, all_say}
use Rattle.crash_argument.specs.LastWrites.{IsLastWrite, HasTickets, FreshAreNew, IsBatch}

-- The data of a session's pipeline, ring and reuse, as far as they speak of crashes.
pub record PipelineData : Type 0 where
  -- of each record from the durable header's start on, the tickets of its writes
  pub tickets : List (List ℕ)
  -- so many of these records are at home, and so many behind them are the batch
  pub placed : ℕ
  pub batch : ℕ
  -- the batch's home writes: block and ticket; they go ascending, and all below `sent` are issued
  pub home : List (ℕ × ℕ)
  pub sent : ℕ
  -- the header that was written last, where it isn't known to be durable: its ticket
  pub pending : Option ℕ
  -- the ring: where the next record begins, and how many places are taken
  pub next_place : ℕ
  pub taken : ℕ
  -- freed blocks that wait: block and the number of the record that freed it
  pub waiting : List (ℕ × ℕ)

-- settled in these bytes, and nothing is pending
pub record IsSettledIn (c : Cell) (x : List ℕ) : Type 0 where
  pub settled : c.settled ≡ x
  pub pending : c.pending ≡ []

-- a record has no entry for the block
pub record LeavesAlone (w : WrittenRecord) (b : ℕ) : Type 0 where
  pub paid : payload_in w b ≡ None
  pub fresh : names_block w.says.fresh b ≡ false

-- The block is live after the last sure record, and no sure record from this number on has an entry for it.
pub record StaysLive (l : Ledger) (number b : ℕ) : Type 0 where
  pub live : IsTrue (is_live l.geom (l.map_before (l.header.sure + 1)) b)
  pub alone : (k : ℕ) (w : WrittenRecord) → slice_get l.records k ≡ Some w → number ≤ w.says.number → w.says.number ≤ l.header.sure → LeavesAlone w b

-- the header that was written last is the one with this ticket
pub record IsPendingHeader (log : List Event) (l : Ledger) (ticket : Option ℕ) (h : Header) : Type 0 where
  pub number : ℕ
  pub bytes : List ℕ
  pub is_ticket : ticket ≡ Some number
  pub reads : header_of l.geom.n bytes ≡ Some h
  pub last : IsLastWrite log (1 - l.slot) number bytes

-- A freed block waits until a durable header's `sure` reaches the record that freed it: a data block that is dead now and doesn't wait is dead from the durable `sure` on.
pub record FreedWait (l : Ledger) (waiting : List (ℕ × ℕ)) : Type 0 where
  pub each : (b n : ℕ) → data_start l.geom ≤ b → l.header.sure < n → n ≤ next_number l → IsTrue (is_live l.geom (l.map_before n) b) → is_live l.geom (l.map_before (next_number l)) b ≡ false
      → (k r : ℕ) × (slice_get waiting k ≡ Some (b, r)) × (n ≤ r)

-- the data of a session agree with its ledger and the log
pub record DataAgree (base : Blocks) (log : List Event) (l : Ledger) (p : PipelineData) : Type 0 where
  -- each record that isn't known yet has its tickets
  pub count : length p.tickets ≡ length l.records
  pub tickets : (k : ℕ) (w : WrittenRecord) (ts : List ℕ) → slice_get l.records k ≡ Some w → slice_get p.tickets k ≡ Some ts → l.known ≤ w.says.number → HasTickets log l w ts
  pub pending : (h : Header) → l.next ≡ Some h → IsPendingHeader log l p.pending h
  pub not_pending : l.next ≡ None → p.pending ≡ None
  pub new : FreshAreNew l
  -- the batch, and what is at home before it
  pub placed : List WrittenRecord
  pub batch : List WrittenRecord
  pub rest : List WrittenRecord
  pub is_batch : IsBatch l placed batch rest
  pub placed_is : length placed ≡ p.placed
  pub batch_is : length batch ≡ p.batch
  -- each block below `sent` that the batch covers has its home write, with the last payload, and it stays the last write while the block lives on
  pub home : (b : ℕ) (x : List ℕ) → b < p.sent → cover None batch b ≡ Some x → StaysLive l (l.header.start + length placed + length batch) b
      → (k t : ℕ) × (slice_get p.home k ≡ Some (b, t)) × IsLastWrite log b t x
  -- and what the placed records cover is at home, where the block lives on
  pub at_home : (b : ℕ) (x : List ℕ) → cover None placed b ≡ Some x → StaysLive l (l.header.start + length placed) b → IsSettledIn (cell_of base log b) x
  -- ring and reuse
  pub next_place : p.next_place ≡ place_after l.geom.j l.header.at (all_say l.records)
  pub taken : p.taken ≡ all_places (all_say l.records)
  pub waiting : FreedWait l p.waiting

-- the same of what is known of a disk
abbrev pub DataAgreeOn : State → Ledger → PipelineData → Type 0
DataAgreeOn d l p = DataAgree d.base d.log l p

-- the disk is as the ledger says, and the data agree with both
abbrev pub AreRightOn : State → Ledger → PipelineData → Type 0
AreRightOn d l p = IsConsistentOn d l × DataAgreeOn d l p

-- each of these tickets is noticed
abbrev pub AllNoticed : List Event → List ℕ → Type 0
AllNoticed log [] = Unit {0}
AllNoticed log (t ∷ ts) = IsNoticed t log × AllNoticed log ts

-- all tickets of the records before this number are noticed
abbrev pub AreAllNoticed : List Event → Ledger → PipelineData → ℕ → Type 0
AreAllNoticed log l p number = (k : ℕ) (w : WrittenRecord) (ts : List ℕ) → slice_get l.records k ≡ Some w → slice_get p.tickets k ≡ Some ts → w.says.number < number → AllNoticed log ts

-- all tickets of the records from the first that isn't known on and before this number are noticed; of those that are known nothing is asked
abbrev pub AreNewlyNoticed : List Event → Ledger → PipelineData → ℕ → Type 0
AreNewlyNoticed log l p number = (k : ℕ) (w : WrittenRecord) (ts : List ℕ) → slice_get l.records k ≡ Some w → slice_get p.tickets k ≡ Some ts → l.known ≤ w.says.number → w.says.number < number → AllNoticed log ts

-- other pairs, among which all those are that wait by these data
pub record WaitMore (few many : List (ℕ × ℕ)) : Type 0 where
  pub each : (k b r : ℕ) → slice_get few k ≡ Some (b, r) → (i : ℕ) × (slice_get many i ≡ Some (b, r))

-- other pairs, among which all those are that wait by these data and whose number is above this `sure`
pub record WaitAbove (sure : ℕ) (many few : List (ℕ × ℕ)) : Type 0 where
  pub each : (k b r : ℕ) → slice_get many k ≡ Some (b, r) → sure < r → (i : ℕ) × (slice_get few i ≡ Some (b, r))

-- the data with other pairs that wait
abbrev pub with_waiting : PipelineData → List (ℕ × ℕ) → PipelineData
with_waiting p many = record p { waiting = many }

-- other tickets, which are the same for each record that isn't known
pub record SameNewTickets (l : Ledger) (old new : List (List ℕ)) : Type 0 where
  pub count : length new ≡ length old
  pub each : (k : ℕ) (w : WrittenRecord) → slice_get l.records k ≡ Some w → l.known ≤ w.says.number → slice_get new k ≡ slice_get old k

-- the data with other tickets
abbrev pub with_tickets : PipelineData → List (List ℕ) → PipelineData
with_tickets p tickets = record p { tickets = tickets }

-- the batch's home writes are noticed
abbrev pub IsHomeNoticed : List Event → List (ℕ × ℕ) → Type 0
IsHomeNoticed log home = (k b t : ℕ) → slice_get home k ≡ Some (b, t) → IsNoticed t log

-- the data once the batch is at home
abbrev pub with_placed : PipelineData → PipelineData
with_placed p = record p { placed = p.placed + p.batch; batch = 0; home = [] }

-- the pairs that wait on for a header with this `sure`
abbrev pub still_waiting : ℕ → List (ℕ × ℕ) → List (ℕ × ℕ)
still_waiting sure [] = []
still_waiting sure ((b, r) ∷ ws) = Rattle.std.specs.Prelude.if◌then◌else◌ (nat_le r sure) (still_waiting sure ws) ((b, r) ∷ still_waiting sure ws)

-- the data once the header is durable: so many records and places are released, and the blocks freed up to its `sure` serve again
abbrev pub with_durable : PipelineData → Ledger → Header → PipelineData
with_durable p l h = record p {
  tickets = drop (h.start - l.header.start) p.tickets;
  placed = p.placed - (h.start - l.header.start);
  pending = None;
  taken = p.taken - all_places (all_say (take (h.start - l.header.start) l.records));
  waiting = still_waiting h.sure p.waiting;
}

-- the header that `advance` writes: it releases what is at home, and makes sure what is known
abbrev pub next_header : Ledger → ℕ → Header
next_header l placed = record {
  epoch = l.epoch;
  turn = l.header.turn + 1;
  start = l.header.start + placed;
  sure = l.known - 1;
  at = place_after l.geom.j l.header.at (all_say (take placed l.records));
  closed = false;
  geom = l.geom;
}

-- the data with which a session begins
abbrev pub data_at_mount : Header → PipelineData
data_at_mount h = record { tickets = []; placed = 0; batch = 0; home = []; sent = 0; pending = None; next_place = h.at; taken = 0; waiting = [] }

-- the data once a header was written with a ticket
abbrev pub with_pending : PipelineData → ℕ → PipelineData
with_pending p ticket = record p { pending = Some ticket }

-- each of these blocks with the number of the record that freed it
abbrev pub pairs_of : ℕ → List ℕ → List (ℕ × ℕ)
pairs_of number [] = []
pairs_of number (b ∷ bs) = (b, number) ∷ pairs_of number bs

-- the data once a record was committed with these tickets, that takes its places and freed these blocks
abbrev pub with_committed : PipelineData → Ledger → WrittenRecord → List ℕ → List ℕ → PipelineData
with_committed p l w tickets freed = record p {
  tickets = p.tickets ++ tickets ∷ [];
  next_place = (p.next_place + places w.says) % l.geom.j;
  taken = p.taken + places w.says;
  waiting = p.waiting ++ pairs_of w.says.number freed;
}

-- the data blocks that the record freed are these
abbrev pub AreFreed : Ledger → WrittenRecord → Blocks → List ℕ → Type 0
AreFreed l w m freed = (b : ℕ) → data_start l.geom ≤ b → IsTrue (is_live l.geom (l.map_before (next_number l)) b) → is_live l.geom m b ≡ false → (i : ℕ) × (slice_get freed i ≡ Some b)

-- the data as the records that are sure become the next batch
abbrev pub with_batch : PipelineData → ℕ → PipelineData
with_batch p count = record p { batch = count; home = []; sent = 0 }

-- after a home write of it
abbrev pub with_home : PipelineData → ℕ → ℕ → PipelineData
with_home p b ticket = record p { home = p.home ++ (b, ticket) ∷ []; sent = b + 1 }

-- and once all its home writes below a block are issued
abbrev pub with_sent : PipelineData → ℕ → PipelineData
with_sent p n = record p { sent = n }

-- a block that has to be written home: the batch covers it with these bytes, and it is live after the last sure record
pub record NeedsCheckpoint (l : Ledger) (batch : List WrittenRecord) (b : ℕ) (x : List ℕ) : Type 0 where
  pub covered : cover None batch b ≡ Some x
  pub live : IsTrue (is_live l.geom (l.map_before (l.header.sure + 1)) b)
