-- One pending write for each block, and whose it is: what the file system has written and doesn't know to be noticed.
use Rattle.std.specs.Prelude.{◌≡◌, ◌⊎◌, ℕ, ◌+◌, ◌-◌, ◌<◌, ◌≤◌, true, false, List, [], length, slice_get, Some, None}
use Rattle.base_types.specs.Seal.{Blocks}
use Rattle.disk_contract.specs.declared.event.Event.{Event}
use Rattle.disk_contract.specs.Cell.{Cell, cell_of, IsNoticed}
use Rattle.layout_geometry.specs.Geometry.{ring_block, bitmap_start}
use Rattle.layout_journal.specs.declared.entry.Entry.{Entry}
use Rattle.layout_journal.specs.Run.{places}
use Rattle.crash_argument.specs.Ledger.{Ledger, WrittenRecord}
use Rattle.crash_argument.specs.Steps.{IsFreePlace}
use Rattle.crash_argument.specs.LastWrites.{IsLastWrite, IsDead}
use Rattle.crash_argument.specs.HomeTest.{is_one_of}
use Rattle.crash_argument.specs.PipelineData.{PipelineData}

-- nothing is pending on a block
abbrev pub IsIdle : Cell → Type 0
IsIdle c = c.pending ≡ []

-- a record that isn't known to be noticed has the block fresh
pub record IsFreshInNew (l : Ledger) (b : ℕ) : Type 0 where
  pub place : ℕ
  pub at : ℕ
  pub written : WrittenRecord
  pub entry : Entry
  pub is_record : slice_get l.records place ≡ Some written
  pub not_known : l.known ≤ written.says.number
  pub is_entry : slice_get written.says.fresh at ≡ Some entry
  pub own : entry.block ≡ b

-- the batch has a checkpoint write to the block, which is the last one there
pub record IsOnItsWay (log : List Event) (p : PipelineData) (b : ℕ) : Type 0 where
  pub at : ℕ
  pub ticket : ℕ
  pub bytes : List ℕ
  pub listed : slice_get p.home at ≡ Some (b, ticket)
  pub last : IsLastWrite log b ticket bytes

-- No block has two writes pending. None is pending on the slot for the next header, on a ring place that is free, or on any other block but of those that a record that isn't known wrote fresh, of those to which the batch has a checkpoint write, and of those that were written for the record under way.
pub record HasOnePending (base : Blocks) (log : List Event) (l : Ledger) (p : PipelineData) (under_way : List ℕ) : Type 0 where
  pub one : (b : ℕ) → length (cell_of base log b).pending ≤ 1
  pub slot : l.next ≡ None → IsIdle (cell_of base log (1 - l.slot))
  pub ring : (place : ℕ) → IsFreePlace l place → is_one_of (ring_block l.geom place) under_way ≡ false → IsIdle (cell_of base log (ring_block l.geom place))
  pub block : (b : ℕ) → bitmap_start l.geom ≤ b → is_one_of b under_way ≡ false → IsIdle (cell_of base log b) ⊎ IsFreshInNew l b ⊎ IsOnItsWay log p b
  -- the batch's writes are of blocks below the one up to which they are sent, and without a batch there are none
  pub below : (k b t : ℕ) → slice_get p.home k ≡ Some (b, t) → b < p.sent
  pub none : p.batch ≡ 0 → p.home ≡ []

-- no checkpoint write to the block is open
abbrev pub IsNotOnItsWay : List Event → PipelineData → ℕ → Type 0
IsNotOnItsWay log p b = (k t : ℕ) → slice_get p.home k ≡ Some (b, t) → IsNoticed t log

-- A block that may be written fresh: it is dead in each map that a crash may leave, and no checkpoint write to it is open.
abbrev pub MayWriteFresh : List Event → Ledger → PipelineData → ℕ → Type 0
MayWriteFresh log l p b = IsDead l b × IsNotOnItsWay log p b

-- the same of each of these blocks, which the running transaction has taken
abbrev pub MayWriteAllFresh : List Event → Ledger → PipelineData → List ℕ → Type 0
MayWriteAllFresh log l p taken = (b : ℕ) → is_one_of b taken ≡ true → MayWriteFresh log l p b

-- the blocks that were written for the record under way are its own: ring places of it, and fresh blocks
pub record AreOfRecord (l : Ledger) (w : WrittenRecord) (under_way : List ℕ) : Type 0 where
  pub each : (b : ℕ) → is_one_of b under_way ≡ true → ((i : ℕ) × (i < places w.says) × (ring_block l.geom (w.says.place + i) ≡ b)) ⊎ ((i : ℕ) × (e : Entry) × (slice_get w.says.fresh i ≡ Some e) × (e.block ≡ b))
