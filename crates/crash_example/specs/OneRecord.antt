-- What a record of three ring places and one fresh block is as blocks to be written, and what its steps leave of the disk.
use Rattle.std.specs.Prelude.{◌≡◌, ◌≢◌, ℕ, ◌<◌, ◌+◌, List, [], ◌∷◌, length, slice_get, Some, None, Result, Ok, Err, ◌⊎◌, ◌-◌, ◌++◌}
use Rattle.base_types.specs.Seal.{Blocks}
use Rattle.disk_contract.specs.declared.event.Event.{Event}
use Rattle.disk_contract.specs.declared.event.Event.TheVariants.{Wrote, Lost, Noticed}
use Rattle.disk_contract.specs.Disk.{State}
use Rattle.layout_geometry.specs.Geometry.{ring_block}
use Rattle.layout_journal.specs.declared.header.Header.{Header}
use Rattle.layout_journal.specs.declared.entry.Entry.{Entry}
use Rattle.layout_journal.specs.Run.{places}
use Rattle.layout_journal.specs.Layout.{header_of}
use Rattle.crash_example.specs.declared.one_record.OneRecord.{OneRecord}
use Rattle.crash_example.specs.declared.one_record.Settling.{Settling}
use Rattle.crash_argument.specs.Ledger.{Ledger, WrittenRecord, block_at, next_number}
use Rattle.crash_argument.specs.Steps.{with_record, with_known, with_header, with_durable_header}
use Rattle.crash_argument.specs.Points.{MountedSession, IsSafe, IsSafeOn}
use Rattle.crash_argument.specs.PipelineData.{PipelineData, DataAgreeOn, NeedsCheckpoint, next_header, with_committed, with_pending, with_durable, with_batch, with_home, with_sent, with_placed}
use Rattle.crash_argument.specs.Counts.{WriteCounts, AreWithinSum, AreCounted, AreAtMost, share, with_point, with_part, with_home_write, with_header_write}
use Rattle.crash_argument.specs.Recording.{IsInLedger}

-- the blocks of the record go to blocks of a disk that has so many
pub record AreOnDisk (o : OneRecord) (blocks : ℕ) : Type 0 where
  pub fresh : o.fresh_block < blocks
  pub descriptor : o.descriptor_block < blocks
  pub payload : o.payload_block < blocks
  pub commit : o.commit_block < blocks

-- these are the blocks of the record, and where they go
pub record IsWrittenAs (l : Ledger) (w : WrittenRecord) (o : OneRecord) : Type 0 where
  pub three : places w.says ≡ 3
  pub one : length w.says.fresh ≡ 1
  pub commit_block : o.commit_block ≡ ring_block l.geom w.says.place
  pub descriptor_block : o.descriptor_block ≡ ring_block l.geom (w.says.place + 1)
  pub payload_block : o.payload_block ≡ ring_block l.geom (w.says.place + 2)
  pub commit : o.commit ≡ block_at w.ring 0
  pub descriptor : o.descriptor ≡ block_at w.ring 1
  pub payload : o.payload ≡ block_at w.ring 2
  pub fresh_block : (e : Entry) → slice_get w.says.fresh 0 ≡ Some e → o.fresh_block ≡ e.block
  pub fresh : o.fresh ≡ block_at w.fresh 0

-- some ledger says how the disk is, and each image since t stands for one of its points
abbrev pub IsSafeSomehow : MountedSession → Blocks → List Event → ℕ → ℕ → Type 0
IsSafeSomehow s base log t floor = ∥ ((k : Ledger) × IsSafe s base log k t floor) ∥₁

-- after the calls that write a record: it is in the ledger, or the disk is safe all the same
abbrev pub RecordLeaves : {E : Type 0} → MountedSession → Ledger → PipelineData → WrittenRecord → Blocks → ℕ → ℕ → Result (List ℕ) E → State → Type 0
RecordLeaves s l p w m t floor (Ok tickets) d = IsInLedger s d.base d.log l p w m t floor tickets
RecordLeaves s l p w m t floor (Err e) d = IsSafeSomehow s d.base d.log t floor

-- the ledger once a record was written and all of it is noticed
abbrev pub with_known_record : Ledger → WrittenRecord → Blocks → Ledger
with_known_record l w m = with_known (with_record l w m) (next_number l + 1)

-- after the calls that write a record and wait for it: it is known, and the data agree, or the disk is safe all the same
abbrev pub KnownLeaves : {E : Type 0} → MountedSession → Ledger → PipelineData → WrittenRecord → Blocks → List ℕ → ℕ → ℕ → Result (List ℕ) E → State → Type 0
KnownLeaves s l p w m freed t floor (Ok tickets) d = IsSafeOn s d (with_known_record l w m) t floor × DataAgreeOn d (with_known_record l w m) (with_committed p l w tickets freed)
KnownLeaves s l p w m freed t floor (Err e) d = IsSafeSomehow s d.base d.log t floor

-- the ledger once a header was written and became durable
abbrev pub with_next_header : Ledger → Header → Ledger
with_next_header l h = with_durable_header (with_header l h) h

-- after the calls that write a header and wait for it: it is the durable one, and the data agree, or the disk is safe all the same
abbrev pub HeaderLeaves : {T E : Type 0} → MountedSession → Ledger → PipelineData → Header → ℕ → ℕ → Result T E → State → Type 0
HeaderLeaves s l p h t floor (Ok done) d =
    IsSafeOn s d (with_next_header l h) t floor × ((ticket : ℕ) × DataAgreeOn d (with_next_header l h) (with_durable (with_pending p ticket) (with_header l h) h))
HeaderLeaves s l p h t floor (Err e) d = IsSafeSomehow s d.base d.log t floor

-- after the calls that write the one block of the next batch to its place and wait for it: the batch is at home, or the disk is safe all the same
abbrev pub CheckpointLeaves : {T E : Type 0} → MountedSession → Ledger → PipelineData → ℕ → ℕ → ℕ → ℕ → Result T E → State → Type 0
CheckpointLeaves s l p count block t floor (Ok done) d =
    IsSafeOn s d l t floor × ((ticket : ℕ) × DataAgreeOn d l (with_placed (with_sent (with_home (with_batch p count) block ticket) l.geom.n)))
CheckpointLeaves s l p count block t floor (Err e) d = IsSafeSomehow s d.base d.log t floor

-- the ledger once the header that makes its one record sure is durable
abbrev pub with_sure_record : Ledger → WrittenRecord → Blocks → Ledger
with_sure_record l w m = with_next_header (with_known_record l w m) (next_header (with_known_record l w m) 0)

-- and once the next header has released it
abbrev pub with_released_record : Ledger → WrittenRecord → Blocks → Ledger
with_released_record l w m = with_next_header (with_sure_record l w m) (next_header (with_sure_record l w m) 1)

-- no record is in the journal, and nothing is on its way
pub record HasNoRecord (l : Ledger) (p : PipelineData) : Type 0 where
  pub records : l.records ≡ []
  pub next : l.next ≡ None
  pub empty : l.header.start ≡ l.header.sure + 1
  pub placed : p.placed ≡ 0
  pub batch : p.batch ≡ 0

-- these are the headers that make the record sure and release it, and the one checkpoint write between them
pub record IsSettledBy (l : Ledger) (w : WrittenRecord) (m : Blocks) (o : Settling) : Type 0 where
  pub slot : o.slot ≡ l.slot
  pub sure : header_of l.geom.n o.sure ≡ Some (next_header (with_known_record l w m) 0)
  pub release : header_of l.geom.n o.release ≡ Some (next_header (with_sure_record l w m) 1)
  pub home : NeedsCheckpoint (with_sure_record l w m) (w ∷ []) o.home_block o.home
  pub alone : (c : ℕ) (y : List ℕ) → c ≢ o.home_block → ¬ NeedsCheckpoint (with_sure_record l w m) (w ∷ []) c y

-- after the whole life of a record: it is released, and each image since t stands for a point; or the disk is safe all the same
abbrev pub ReleasedLeaves : {T E : Type 0} → MountedSession → Ledger → WrittenRecord → Blocks → ℕ → ℕ → Result T E → State → Type 0
ReleasedLeaves s l w m t floor (Ok done) d = IsSafeOn s d (with_released_record l w m) t floor
ReleasedLeaves s l w m t floor (Err e) d = IsSafeSomehow s d.base d.log t floor

-- the writes that were accepted, in their order, and those that were lost: block and bytes of each
abbrev pub accepted_in : List Event → List (ℕ × List ℕ)
accepted_in [] = []
accepted_in (Wrote ticket block bytes ∷ es) = (block, bytes) ∷ accepted_in es
accepted_in (Lost block bytes ∷ es) = accepted_in es
accepted_in (Noticed ticket ∷ es) = accepted_in es

abbrev pub lost_in : List Event → List (ℕ × List ℕ)
lost_in [] = []
lost_in (Wrote ticket block bytes ∷ es) = lost_in es
lost_in (Lost block bytes ∷ es) = (block, bytes) ∷ lost_in es
lost_in (Noticed ticket ∷ es) = lost_in es

-- The log goes on with these writes, accepted in this order, with these that were lost, and with notices.
pub record AddsAmidNotices (accepted lost : List (ℕ × List ℕ)) (old new : List Event) : Type 0 where
  pub more : List Event
  pub log : new ≡ old ++ more
  pub are_accepted : accepted_in more ≡ accepted
  pub are_lost : lost_in more ≡ lost

-- a prefix of these writes was accepted, and at most the next one was lost
pub record AddsPrefix (ws : List (ℕ × List ℕ)) (old new : List Event) : Type 0 where
  pub front : List (ℕ × List ℕ)
  pub rest : List (ℕ × List ℕ)
  pub split : ws ≡ front ++ rest
  pub ends : AddsAmidNotices front [] old new ⊎ ((w : ℕ × List ℕ) × (later : List (ℕ × List ℕ)) × (rest ≡ w ∷ later) × AddsAmidNotices front (w ∷ []) old new)

-- calls that make these writes, in this order, and nothing but waits between: all were accepted, or a prefix
abbrev pub AddsInOrder : {T E : Type 0} → List (ℕ × List ℕ) → Result T E → List Event → List Event → Type 0
AddsInOrder ws (Ok done) old new = AddsAmidNotices ws [] old new
AddsInOrder ws (Err e) old new = AddsPrefix ws old new

-- The counts with that record: its point, its four writes, the header that makes it sure, the write to its payload's block, and the header that releases it.
abbrev pub counts_after : WriteCounts → WriteCounts
counts_after c =
    with_header_write (with_home_write (with_header_write (with_part (with_part (with_part (with_part (with_point c 1 1 1))))) (c.last + 1) c.start) 1) (c.last + 1) (c.last + 2)

-- after the calls for the record: at each moment since the mount the writes number at most what the points account for, this one included; once it is released, so do the five numbers
abbrev pub KeepsCount : {T E : Type 0} → ℕ → WriteCounts → Result T E → List Event → Type 0
KeepsCount mounted c (Ok done) log = AreWithinSum (counts_after c) × AreCounted mounted log (counts_after c) × AreAtMost mounted log (c.sum + share 1 1 1)
KeepsCount mounted c (Err e) log = AreAtMost mounted log (c.sum + share 1 1 1)

-- the writes of a record, and with them those that settle it
abbrev pub writes_of : OneRecord → List (ℕ × List ℕ)
writes_of o = (o.fresh_block, o.fresh) ∷ (o.descriptor_block, o.descriptor) ∷ (o.payload_block, o.payload) ∷ (o.commit_block, o.commit) ∷ []

abbrev pub writes_of_life : OneRecord → Settling → List (ℕ × List ℕ)
writes_of_life o q = writes_of o ++ (1 - q.slot, q.sure) ∷ (q.home_block, q.home) ∷ (1 - (1 - q.slot), q.release) ∷ []
