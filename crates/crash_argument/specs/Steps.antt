-- What has to hold before each kind of write, and what the ledger is after it.
use Rattle.std.specs.Prelude.{◌≡◌, ◌≢◌, ℕ, ◌+◌, ◌-◌, ◌<◌, ◌≤◌, nat_le, true, false, IsTrue, if◌then◌else◌, List, [], ◌∷◌, ◌++◌, length, slice_get, Some, None}
use Rattle.base_types.specs.Seal.{Blocks}
use Rattle.disk_contract.specs.declared.event.Event.{Event}
use Rattle.disk_contract.specs.Cell.{Cell, cell_of}
use Rattle.layout_geometry.specs.Geometry.{ring_block, bitmap_start}
use Rattle.layout_journal.specs.declared.header.Header.{Header}
use Rattle.layout_journal.specs.declared.record.Descriptor.{Descriptor}
use Rattle.layout_journal.specs.declared.entry.Entry.{Entry}
use Rattle.layout_journal.specs.Layout.{header_of, commit_of, descriptor_of}
use Rattle.layout_journal.specs.Run.{place_after, places, all_places, names_block, is_live}
use Rattle.crash_argument.specs.Ledger.{Ledger, WrittenRecord, IsOnDisk, StandsIn, latest, block_at, IsSpelled, IsStanding, FitsRecords, from_start, next_number, all_say, cover, payload_in}

-- A write home, or of a fresh block: in each point that a crash may stand for, the block is dead or covered by the journal.
pub record MayWriteInPlace (cells : ℕ → Cell) (l : Ledger) (block : ℕ) : Type 0 where
  pub outside : bitmap_start l.geom ≤ block
  pub dead_or_covered : (h : Header) (good bad : List WrittenRecord) → IsStanding l h → from_start l h ≡ good ++ bad → l.known ≤ h.start + length good → IsTrue (is_live l.geom (l.map_before (h.start + length good)) block)
      → (y : List ℕ) × (cover None good block ≡ Some y)
  pub not_fresh : (k i : ℕ) (w : WrittenRecord) (e : Entry) → slice_get l.records k ≡ Some w → l.header.sure < w.says.number → slice_get w.says.fresh i ≡ Some e → e.block ≢ block

-- A ring place is safe: no record from the durable header's start on has it.
abbrev pub IsFreePlace : Ledger → ℕ → Type 0
IsFreePlace l place = (k i : ℕ) (w : WrittenRecord) → slice_get l.records k ≡ Some w → i < places w.says → ring_block l.geom (w.says.place + i) ≢ ring_block l.geom place

-- a descriptor or a payload of the record that is being written
pub record MayWriteInRing (l : Ledger) (place : ℕ) (x : List ℕ) : Type 0 where
  pub free : IsFreePlace l place
  pub no_commit : commit_of l.geom x ≡ None
  pub no_descriptor : (d : Descriptor) (w : WrittenRecord) → descriptor_of l.geom x ≡ Some d → d.epoch ≡ l.epoch → l.header.start ≤ d.number → slice_get l.records (d.number - l.header.start) ≡ Some w → ⊥

-- No record is being written: no descriptor of this epoch is numbered from the next number on.
pub record NoneIsBeingWritten (cells : ℕ → Cell) (l : Ledger) : Type 0 where
  pub each : (place : ℕ) (x : List ℕ) (d : Descriptor) → StandsIn (cells (ring_block l.geom place)) x → descriptor_of l.geom x ≡ Some d → d.epoch ≡ l.epoch → d.number < next_number l

-- The next record is being written: what stands of its number is its own.
pub record IsBeingWritten (cells : ℕ → Cell) (l : Ledger) (w : WrittenRecord) : Type 0 where
  pub each : (place : ℕ) (x : List ℕ) (d : Descriptor) → StandsIn (cells (ring_block l.geom place)) x → descriptor_of l.geom x ≡ Some d → d.epoch ≡ l.epoch → next_number l ≤ d.number
      → (d.number ≡ next_number l) × (x ≡ block_at w.ring (1 + d.index))

-- The record is issued but for its commit block, and m is the map after it.
pub record IsReadyToCommit (base : Blocks) (log : List Event) (l : Ledger) (w : WrittenRecord) (m : Blocks) : Type 0 where
  pub number : w.says.number ≡ next_number l
  pub not_closed : (h : Header) → IsStanding l h → h.closed ≡ false
  pub place : w.says.place ≡ place_after l.geom.j l.header.at (all_say l.records)
  pub within : all_places (all_say l.records) + places w.says ≤ l.geom.j
  pub spelled : IsSpelled l.geom l.epoch w
  pub free : IsFreePlace l w.says.place
  pub own : (i : ℕ) → 0 < i → i < places w.says → ring_block l.geom (w.says.place + i) ≢ ring_block l.geom w.says.place
  pub ring : (i : ℕ) → 0 < i → i < places w.says → latest (cell_of base log (ring_block l.geom (w.says.place + i))) ≡ block_at w.ring i
  pub ring_logged : (i : ℕ) → 0 < i → i < places w.says → IsOnDisk l.geom.n base log (block_at w.ring i)
  pub in_place : (i : ℕ) (e : Entry) → slice_get w.says.fresh i ≡ Some e → bitmap_start l.geom ≤ e.block
  pub fresh : (i : ℕ) (e : Entry) → slice_get w.says.fresh i ≡ Some e → latest (cell_of base log e.block) ≡ block_at w.fresh i
  pub fresh_logged : (i : ℕ) (e : Entry) → slice_get w.says.fresh i ≡ Some e → IsOnDisk l.geom.n base log (block_at w.fresh i)
  pub writing : IsBeingWritten (cell_of base log) l w
  -- m is the map before it, with its payloads and its fresh blocks
  pub paid : (b : ℕ) (y : List ℕ) → payload_in w b ≡ Some y → m b ≡ y
  pub laid : (b : ℕ) → payload_in w b ≡ None → names_block w.says.fresh b ≡ true → m b ≡ latest (cell_of base log b)
  pub same : (b : ℕ) → payload_in w b ≡ None → names_block w.says.fresh b ≡ false → IsTrue (is_live l.geom m b) → IsTrue (is_live l.geom (l.map_before (next_number l)) b) × (m b ≡ l.map_before (next_number l) b)

-- the ledger with the record
abbrev pub with_record : Ledger → WrittenRecord → Blocks → Ledger
with_record l w m = record l { records = l.records ++ w ∷ []; map_before = λ n. if nat_le n (next_number l) then l.map_before n else m }

-- A header may be written beside the durable one: what it releases is at home.
pub record MayWriteHeader (cells : ℕ → Cell) (l : Ledger) (x : List ℕ) (h : Header) : Type 0 where
  pub alone : l.next ≡ None
  pub reads : header_of l.geom.n x ≡ Some h
  pub newer : l.header.turn < h.turn
  pub fits : FitsRecords l h
  -- the records that it releases, and those of a point
  pub placed : (before good bad : List WrittenRecord) (b : ℕ) → l.records ≡ before ++ (good ++ bad) → length before ≡ h.start - l.header.start → l.known ≤ h.start + length good → IsTrue (is_live l.geom (l.map_before (h.start + length good)) b)
      → (y : List ℕ) → cover None good b ≡ None → cover None (before ++ good) b ≡ Some y → (latest (cells b) ≡ y) × ((cells b).pending ≡ [])

-- the ledger with it
abbrev pub with_header : Ledger → Header → Ledger
with_header l h = record l { next = Some h }

-- the header that was written last is now known to be durable
pub record IsDurable (cells : ℕ → Cell) (l : Ledger) (h : Header) : Type 0 where
  pub next : l.next ≡ Some h
  pub settled : header_of l.geom.n (cells (1 - l.slot)).settled ≡ Some h
  pub alone : (cells (1 - l.slot)).pending ≡ []

-- the ledger then: the records before its start are gone
abbrev pub with_durable_header : Ledger → Header → Ledger
with_durable_header l h = record l { slot = 1 - l.slot; header = h; next = None; records = from_start l h }

-- all records before a number are noticed
pub record AreNoticed (cells : ℕ → Cell) (l : Ledger) (number : ℕ) : Type 0 where
  pub from : l.known ≤ number
  pub upto : number ≤ next_number l
  pub ring : (k i : ℕ) (w : WrittenRecord) → slice_get l.records k ≡ Some w → w.says.number < number → i < places w.says → (cells (ring_block l.geom (w.says.place + i))).pending ≡ []
  pub fresh : (k i : ℕ) (w : WrittenRecord) (e : Entry) → slice_get l.records k ≡ Some w → w.says.number < number → l.header.sure < w.says.number → slice_get w.says.fresh i ≡ Some e → (cells e.block).pending ≡ []

-- the ledger then: all of them are known
abbrev pub with_known : Ledger → ℕ → Ledger
with_known l number = record l { known = number }
