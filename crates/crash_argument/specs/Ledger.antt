-- What a session knows of its journal and its disk.
use Rattle.std.specs.Prelude.{◌≡◌, ◌⊎◌, ℕ, ◌+◌, ◌-◌, ◌<◌, ◌≤◌, IsTrue, ◌==◌, if◌then◌else◌, List, [], ◌∷◌, ◌++◌, length, take, drop, slice_get, slice_index_or, Option, Some, None}
use Rattle.base_types.specs.Seal.{Blocks, sha256}
use Rattle.disk_contract.specs.declared.event.Event.{Event}
use Rattle.disk_contract.specs.Cell.{Cell, Write, cell_of, IsWritten}
use Rattle.disk_contract.specs.Disk.{State}
use Rattle.disk_contract.specs.Crash.{AreBytesOf}
use Rattle.layout_geometry.specs.Geometry.{Geometry, ring_block, data_start, bitmap_start}
use Rattle.layout_journal.specs.declared.header.Header.{Header}
use Rattle.layout_journal.specs.declared.record.Commit.{Commit}
use Rattle.layout_journal.specs.declared.record.Descriptor.{Descriptor}
use Rattle.layout_journal.specs.declared.entry.Entry.{Entry}
use Rattle.layout_journal.specs.Layout.{header_of, commit_of, descriptor_of, descriptor_count, unescaped}
use Rattle.layout_journal.specs.Run.{place_after, entries_fit, Record, Fits, entries, heads, places, commit_says, descriptor_says, AreConsecutive, all_places, names_block, or_else, otherwise, is_live, live_part, HeldIs}

-- the cells of a disk
abbrev pub cells_of : State → ℕ → Cell
cells_of d = cell_of d.base d.log

-- the bytes of the last of these writes, or x where there is none
abbrev pub last_of : List ℕ → List Write → List ℕ
last_of x [] = x
last_of x (w ∷ ws) = last_of w.bytes ws

-- the bytes written last to a block, or else what is settled
abbrev pub latest : Cell → List ℕ
latest c = last_of c.settled c.pending

-- the image in which all that was issued stands
abbrev pub issued : Blocks → List Event → Blocks
issued base log b = latest (cell_of base log b)

-- x is settled in the block, or pending on it
abbrev pub StandsIn : Cell → List ℕ → Type 0
StandsIn c x = (x ≡ c.settled) ⊎ AreBytesOf c.pending x

-- these bytes were on a disk of n blocks at first, or were written
abbrev pub IsOnDisk : ℕ → Blocks → List Event → List ℕ → Type 0
IsOnDisk n base log x = IsWritten x log ⊎ ((b : ℕ) × (b < n) × (base b ≡ x))

-- A record as it was written: what it says, its blocks in the ring (the commit block first), and the bytes of its fresh blocks.
pub record WrittenRecord : Type 0 where
  pub says : Record
  pub ring : List (List ℕ)
  pub fresh : List (List ℕ)

-- one of these blocks
abbrev pub block_at : List (List ℕ) → ℕ → List ℕ
block_at blocks i = slice_index_or blocks i []

-- the blocks are those of the record
pub record IsSpelled (g : Geometry) (epoch : ℕ) (w : WrittenRecord) : Type 0 where
  pub fit : IsTrue (entries_fit g w.says)
  pub commit : commit_of g (block_at w.ring 0) ≡ Some (commit_says epoch w.says)
  pub descriptors : (i : ℕ) → i < descriptor_count (length (entries w.says)) → descriptor_of g (block_at w.ring (1 + i)) ≡ Some (descriptor_says epoch w.says i)
  pub payloads : (i : ℕ) (e : Entry) → slice_get w.says.payloads i ≡ Some e → Fits e (block_at w.ring (heads w.says + i))
  pub fresh : (i : ℕ) (e : Entry) → slice_get w.says.fresh i ≡ Some e → sha256 (block_at w.fresh i) ≡ e.digest

-- the payload for a block among these entries, of which the first has block i
abbrev pub payload_among : List (List ℕ) → ℕ → List Entry → ℕ → Option (List ℕ)
payload_among blocks i [] b = None
payload_among blocks i (e ∷ es) b = if e.block == b then Some (unescaped e.kind (block_at blocks i)) else payload_among blocks (i + 1) es b

-- the payload of a record for a block
abbrev pub payload_in : WrittenRecord → ℕ → Option (List ℕ)
payload_in w b = payload_among w.ring (heads w.says) w.says.payloads b

-- what these records leave in a block, if they cover it; the last entry that names it decides
abbrev pub cover : Option (List ℕ) → List WrittenRecord → ℕ → Option (List ℕ)
cover before [] b = before
cover before (w ∷ ws) b = cover (or_else (payload_in w b) (if names_block w.says.fresh b then None else before)) ws b

-- what the writer knows of the journal: its header, its records, and the map before each number
pub record Ledger : Type 0 where
  pub geom : Geometry
  pub epoch : ℕ
  -- the slot and the content of the header that is known to be durable
  pub slot : ℕ
  pub header : Header
  -- the header that was written after it
  pub next : Option Header
  -- the records from the header's start on, each with its commit block written
  pub records : List WrittenRecord
  -- all records before this number are known to be noticed in whole
  pub known : ℕ
  -- the map before the record of a number, so after all earlier ones
  pub map_before : ℕ → Blocks

-- the number of the record that comes next
abbrev pub next_number : Ledger → ℕ
next_number l = l.header.start + length l.records

-- a crash may find this header as the newest
abbrev pub IsStanding : Ledger → Header → Type 0
IsStanding l h = (h ≡ l.header) ⊎ (l.next ≡ Some h)

-- the records from the start of a standing header on
abbrev pub from_start : Ledger → Header → List WrittenRecord
from_start l h = drop (h.start - l.header.start) l.records

-- what each of these records says
abbrev pub all_say : List WrittenRecord → List Record
all_say [] = []
all_say (w ∷ ws) = w.says ∷ all_say ws

-- both headers belong to this session and fit its records
pub record FitsRecords (l : Ledger) (h : Header) : Type 0 where
  pub epoch : h.epoch ≡ l.epoch
  pub geom : h.geom ≡ l.geom
  -- a closed one lets no record past its `sure`, and there is none
  pub let_in : IsTrue h.closed → next_number l ≤ h.sure + 1
  pub start : l.header.start ≤ h.start
  pub sure_grows : l.header.sure ≤ h.sure
  pub sure : h.start ≤ h.sure + 1
  pub last : h.sure < next_number l
  pub known : h.sure < l.known
  -- its place is the one at which its first record begins or will begin
  pub place : h.at ≡ place_after l.geom.j l.header.at (all_say (take (h.start - l.header.start) l.records))
  pub consecutive : AreConsecutive l.geom.j h.start h.at (all_say (from_start l h))
  pub within : all_places (all_say (from_start l h)) ≤ l.geom.j

-- Headers alternate: the durable one is alone in its slot; in the other, an older one or the next one.
pub record HeadersAlternate (cells : ℕ → Cell) (l : Ledger) : Type 0 where
  pub is_slot : l.slot < 2
  pub durable : header_of l.geom.n (cells l.slot).settled ≡ Some l.header
  pub alone : (cells l.slot).pending ≡ []
  pub other : (x : List ℕ) (h : Header) → StandsIn (cells (1 - l.slot)) x → header_of l.geom.n x ≡ Some h → (h.turn < l.header.turn) ⊎ (l.next ≡ Some h)
  pub newer : (h : Header) → l.next ≡ Some h → l.header.turn < h.turn
  pub fits : (h : Header) → IsStanding l h → FitsRecords l h

-- Each record is in the ring, noticed or not.
pub record IsIssued (base : Blocks) (cells : ℕ → Cell) (log : List Event) (l : Ledger) (w : WrittenRecord) : Type 0 where
  pub spelled : IsSpelled l.geom l.epoch w
  pub ring : (i : ℕ) → i < places w.says → latest (cells (ring_block l.geom (w.says.place + i))) ≡ block_at w.ring i
  pub ring_logged : (i : ℕ) → i < places w.says → IsOnDisk l.geom.n base log (block_at w.ring i)
  pub in_place : (i : ℕ) (e : Entry) → slice_get w.says.fresh i ≡ Some e → bitmap_start l.geom ≤ e.block
  pub fresh : l.header.sure < w.says.number → (i : ℕ) (e : Entry) → slice_get w.says.fresh i ≡ Some e → latest (cells e.block) ≡ block_at w.fresh i
  pub fresh_logged : (i : ℕ) (e : Entry) → slice_get w.says.fresh i ≡ Some e → IsOnDisk l.geom.n base log (block_at w.fresh i)
  -- a record that is known is intact
  pub intact : w.says.number < l.known → (i : ℕ) → i < places w.says → (cells (ring_block l.geom (w.says.place + i))).pending ≡ []
  pub intact_fresh : l.header.sure < w.says.number → w.says.number < l.known → (i : ℕ) (e : Entry) → slice_get w.says.fresh i ≡ Some e → (cells e.block).pending ≡ []

-- Numbers are used once: what reads as part of a record of this session from the start on is part of that record.
pub record NumbersUsedOnce (cells : ℕ → Cell) (l : Ledger) : Type 0 where
  pub commit : (place : ℕ) (x : List ℕ) (c : Commit) → StandsIn (cells (ring_block l.geom place)) x → commit_of l.geom x ≡ Some c → c.epoch ≡ l.epoch → l.header.start ≤ c.number
      → (w : WrittenRecord) × (slice_get l.records (c.number - l.header.start) ≡ Some w) × (x ≡ block_at w.ring 0)
  pub descriptor : (place : ℕ) (x : List ℕ) (d : Descriptor) (w : WrittenRecord) → StandsIn (cells (ring_block l.geom place)) x → descriptor_of l.geom x ≡ Some d → d.epoch ≡ l.epoch → l.header.start ≤ d.number
      → slice_get l.records (d.number - l.header.start) ≡ Some w → x ≡ block_at w.ring (1 + d.index)

-- a live block that these records don't cover: nothing is pending on it, or one of them wrote it fresh
abbrev pub IsLaid : (ℕ → Cell) → Header → List WrittenRecord → ℕ → Type 0
IsLaid cells h ws b = ((cells b).pending ≡ [])
    ⊎ ((k : ℕ) × (w : WrittenRecord) × (i : ℕ) × (e : Entry) × (slice_get ws k ≡ Some w) × (h.sure < w.says.number) × (slice_get w.says.fresh i ≡ Some e) × (e.block ≡ b))

-- Home content is covered: what is at home, under the records from a standing header's start on, is the map.
pub record HomeIsCovered (cells : ℕ → Cell) (l : Ledger) : Type 0 where
  pub map : (h : Header) (good bad : List WrittenRecord) (b : ℕ) → IsStanding l h → from_start l h ≡ good ++ bad → l.known ≤ h.start + length good → IsTrue (is_live l.geom (l.map_before (h.start + length good)) b)
      → otherwise (cover None good b) (latest (cells b)) ≡ l.map_before (h.start + length good) b
  pub laid : (h : Header) (good bad : List WrittenRecord) (b : ℕ) → IsStanding l h → from_start l h ≡ good ++ bad → l.known ≤ h.start + length good → IsTrue (is_live l.geom (l.map_before (h.start + length good)) b)
      → cover None good b ≡ None → IsLaid cells h good b

-- the disk is as the ledger says
pub record IsConsistentWith (base : Blocks) (log : List Event) (l : Ledger) : Type 0 where
  pub headers : HeadersAlternate (cell_of base log) l
  pub each : (k : ℕ) (w : WrittenRecord) → slice_get l.records k ≡ Some w → IsIssued base (cell_of base log) log l w
  pub numbers : NumbersUsedOnce (cell_of base log) l
  pub shape : data_start l.geom ≤ l.geom.n
  pub ring : 0 < l.geom.j
  pub known : l.known ≤ next_number l
  pub home : HomeIsCovered (cell_of base log) l

-- the same of what is known of a disk
abbrev pub IsConsistentOn : State → Ledger → Type 0
IsConsistentOn d l = IsConsistentWith d.base d.log l

-- The image of a disk of n blocks holds m, under a newest header of this geometry.
pub record HoldsUnder (n : ℕ) (g : Geometry) (img m : Blocks) : Type 0 where
  pub held : HeldIs n img m
  pub geom : held.header.geom ≡ g

-- the image holds the map before some record that comes after all that are known, and is at most the next one
pub record StandsForOne (l : Ledger) (img : Blocks) : Type 0 where
  pub number : ℕ
  pub known : l.known ≤ number
  pub issued : number ≤ next_number l
  pub held : HoldsUnder l.geom.n l.geom img (live_part l.geom (l.map_before number))
