-- The last step of a mount of a disk whose journal holds no record that counts: the header that opens the journal, when it may be written, and what writing it adds to the log.
use Rattle.std.specs.Prelude.{◌≡◌, ◌⊎◌, ℕ, ◌+◌, ◌-◌, ◌<◌, ◌≤◌, true, false, List, [], ◌∷◌, ◌++◌, length, Some, Result, Ok, Err}
use Rattle.base_types.specs.Seal.{Blocks}
use Rattle.disk_contract.specs.declared.event.Event.{Event}
use Rattle.disk_contract.specs.declared.event.Event.TheVariants.{Wrote, Lost}
use Rattle.disk_contract.specs.Cell.{Cell, greatest_ticket, IsNoticed, notices}
use Rattle.disk_contract.specs.Manner.{Manner}
use Rattle.disk_contract.specs.Disk.{AddsNotices}
use Rattle.layout_geometry.specs.Geometry.{Geometry, ring_block}
use Rattle.layout_journal.specs.declared.header.Header.{Header}
use Rattle.layout_journal.specs.declared.record.Commit.{Commit}
use Rattle.layout_journal.specs.declared.record.Descriptor.{Descriptor}
use Rattle.layout_journal.specs.Layout.{header_of, commit_of, descriptor_of}
use Rattle.layout_journal.specs.Run.{Newest, Record}

-- the number of the last record of this run under a header, which is the one before the header's first where the run is empty
abbrev pub last_number : Header → List Record → ℕ
last_number h run = h.start + length run - 1

-- The header that opens a journal after this one, with the number of the last record that it has: an epoch above all on the disk, the next turn, and no record. The next record is the one behind the last, and begins at the first ring place.
abbrev pub opening_header : Header → ℕ → ℕ → Header
opening_header newest last greatest_epoch = record {
  epoch = greatest_epoch + 1;
  turn = newest.turn + 1;
  start = last + 1;
  sure = last;
  at = 0;
  closed = false;
  geom = newest.geom;
}

-- The header of the next turn that closes the run of this one, whose last record has this number: it lets in the records up to that one, and no other.
abbrev pub closed_header : Header → ℕ → Header
closed_header h last = record {
  epoch = h.epoch;
  turn = h.turn + 1;
  start = h.start;
  sure = last;
  at = h.at;
  closed = true;
  geom = h.geom;
}

-- what is settled in each block
abbrev pub settled : (ℕ → Cell) → Blocks
settled cells b = (cells b).settled

-- No header in a slot, and no commit block or descriptor in the ring, has an epoch above this one.
pub record HasNoEpochAbove (g : Geometry) (img : Blocks) (epoch : ℕ) : Type 0 where
  pub headers : (slot : ℕ) (h : Header) → slot < 2 → header_of g.n (img slot) ≡ Some h → h.epoch ≤ epoch
  pub commits : (place : ℕ) (c : Commit) → commit_of g (img (ring_block g place)) ≡ Some c → c.epoch ≤ epoch
  pub descriptors : (place : ℕ) (d : Descriptor) → descriptor_of g (img (ring_block g place)) ≡ Some d → d.epoch ≤ epoch

-- The journal may be opened after the newest header, which is in this slot, where no epoch on the disk is above the given one.
pub record IsReadyToOpen (cells : ℕ → Cell) (slot : ℕ) (newest : Header) (greatest_epoch : ℕ) : Type 0 where
  -- all that was written is settled
  pub idle : (b : ℕ) → (cells b).pending ≡ []
  -- the header is the newest one of what is settled, and is in this slot
  pub is_newest : Newest newest.geom.n (settled cells) slot newest
  pub epochs : HasNoEpochAbove newest.geom (settled cells) greatest_epoch

-- one accepted write of these bytes to the block, with a new ticket, and notices behind it
pub record AddsWaited (block : ℕ) (x : List ℕ) (old new : List Event) : Type 0 where
  pub ticket : ℕ
  pub above : greatest_ticket old < ticket
  pub fresh : ¬ IsNoticed ticket old
  pub waited : AddsNotices (old ++ Wrote ticket block x ∷ []) new

-- A write that was waited for adds itself and notices, that of its own ticket among them. Where a call failed, it adds nothing, a lost write, or the write and notices.
abbrev pub AddsDurable : {T E : Type 0} → ℕ → List ℕ → Result T E → List Event → List Event → Type 0
AddsDurable block x (Ok done) old new = (w : AddsWaited block x old new) × IsNoticed w.ticket new
AddsDurable block x (Err e) old new = (new ≡ old) ⊎ (new ≡ old ++ Lost block x ∷ []) ⊎ AddsWaited block x old new

-- one accepted write, and notices alone behind it
pub record WritesOne (old new : List Event) : Type 0 where
  pub ticket : ℕ
  pub block : ℕ
  pub bytes : List ℕ
  pub noticed : List ℕ
  pub log : new ≡ old ++ Wrote ticket block bytes ∷ notices noticed

-- one lost write, and nothing else
pub record LosesOne (old new : List Event) : Type 0 where
  pub block : ℕ
  pub bytes : List ℕ
  pub log : new ≡ old ++ Lost block bytes ∷ []

-- What was to write once and wait for it has stopped: nothing was added, or the write was lost; or it was accepted and the wait failed, which the manner of the disk lets be.
abbrev pub StopsAtOne : Manner → List Event → List Event → Type 0
StopsAtOne m old new = (new ≡ old) ⊎ (LosesOne old new ⊎ (WritesOne old new × (m.stalls ≡ true)))

-- a call that writes once and waits for it: the write was accepted where the call succeeds, and where it fails it has stopped at this write or before it
abbrev pub WritesOnce : {T E : Type 0} → Manner → Result T E → List Event → List Event → Type 0
WritesOnce m (Ok done) old new = WritesOne old new
WritesOnce m (Err e) old new = StopsAtOne m old new
