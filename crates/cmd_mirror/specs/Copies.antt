-- What a copying of an image does: what is under the other name, and what the disk that is read and the disk that is written have done by then. It is described in docs/MIRROR.md.
use Rattle.std.specs.Prelude.{◌≡◌, ◌≢◌, ◌⊎◌, ℕ, ◌+◌, ◌-◌, ◌<◌, ◌≤◌, Bool, true, false, IsTrue, List, [], ◌∷◌, ◌++◌, length, replicate, slice_index_or, take, Option, Some, Result, Ok, Err, OnOk}
use Rattle.base_types.specs.Seal.{Blocks, blocks_of}
use Rattle.disk_contract.specs.declared.event.Event.{Event}
use Rattle.disk_contract.specs.declared.event.Event.TheVariants.{Wrote, Lost, Noticed}
use Rattle.disk_contract.specs.declared.bay.BayFault.{BayFault}
use Rattle.disk_contract.specs.Bay.{Kept, image_of}
use Rattle.disk_contract.specs.Cell.{IsAccepted, IsNoticed, cell_of}
use Rattle.disk_contract.specs.Crash.{IsImage}
use Rattle.disk_contract.specs.Disk.{State, OnlyReads, OnlyWrites, Spends, HasFailed}
use Rattle.layout_journal.specs.declared.header.Header.{Header}
use Rattle.layout_journal.specs.Run.{Newest}
use Rattle.cmd_image.specs.declared.make_refusal.MakeRefusal.{MakeRefusal}
use Rattle.cmd_image.specs.declared.make_refusal.MakeRefusal.TheVariants.{Fault}
use Rattle.cmd_image.specs.Makes.{make_refusal_of_bay}
use Rattle.cmd_mirror.specs.declared.copying.CopyFault.{CopyFault}
use Rattle.cmd_mirror.specs.declared.copying.CopyFault.TheVariants.{Read, Write}

-- The images.

-- there is an image under the one name, and the same is under the other
pub record HaveOneImage (from to : Option Kept) : Type 0 where
  pub image : List (List ℕ)
  pub original : image_of from ≡ Some image
  pub copy : image_of to ≡ Some image

-- there is an image under the one name, and under the other is a part of it: as many blocks, and each has the same bytes, or zeros
pub record HasPart (from to : Option Kept) : Type 0 where
  pub image : List (List ℕ)
  pub part : List (List ℕ)
  pub original : image_of from ≡ Some image
  pub copy : image_of to ≡ Some part
  pub size : length part ≡ length image
  pub blocks : (b : ℕ) → b < length image → (blocks_of part b ≡ blocks_of image b) ⊎ (blocks_of part b ≡ replicate 1024 0)

-- The disks.

-- each write among these events, accepted or lost, has the bytes that its block has there
abbrev pub AreCopiesOf : Blocks → List Event → Type 0
AreCopiesOf at [] = Unit {0}
AreCopiesOf at (Wrote ticket block bytes ∷ es) = (bytes ≡ at block) × AreCopiesOf at es
AreCopiesOf at (Lost block bytes ∷ es) = (bytes ≡ at block) × AreCopiesOf at es
AreCopiesOf at (Noticed ticket ∷ es) = AreCopiesOf at es

-- of the disk's first n blocks each is durable with the bytes that it has there, and nothing is pending on it
abbrev pub AreCopied : Blocks → ℕ → Blocks → List Event → Type 0
AreCopied at n base log = (b : ℕ) → b < n → cell_of base log b ≡ record { settled = at b; pending = [] }

-- An image of n blocks in which the headers came last, and the newer one first of the two: where a block of theirs isn't as it was made, those behind them are copied; and where the block without the newest header isn't, the newest header is copied.
pub record HeadersCameLast (n : ℕ) (at base img : Blocks) : Type 0 where
  pub behind : (slot : ℕ) → slot < 2 → img slot ≢ base slot → (b : ℕ) → 2 ≤ b → b < n → img b ≡ at b
  pub newer : (slot : ℕ) (header : Header) → Newest n at slot header → img (1 - slot) ≢ base (1 - slot) → img slot ≡ at slot

-- each crash image of each moment of the log is one in which they did; a moment is so many of the log's first events
abbrev pub HeadersComeLast : ℕ → Blocks → Blocks → List Event → Type 0
HeadersComeLast n at base log = (moment : ℕ) (img : Blocks) → IsImage n base (take moment log) img → HeadersCameLast n at base img

-- whether a read of the one disk failed
abbrev pub fails_reading : Result (Unit {0}) CopyFault → Bool
fails_reading (Ok x) = false
fails_reading (Err Read) = true
fails_reading (Err Write) = false

-- whether a write or a wait of the other disk failed
abbrev pub fails_writing : Result (Unit {0}) CopyFault → Bool
fails_writing (Ok x) = false
fails_writing (Err Read) = false
fails_writing (Err Write) = true

-- what a copying spends of the disk that it writes: it waits so many times at most, reads nothing and polls nothing; where a write or a wait failed, that was counted once
abbrev pub WritesAndWaits : Bool → ℕ → State → State → Type 0
WritesAndWaits failed most old new = (made : ℕ) × (made ≤ most) × Spends failed made 0 old new

-- The blocks of a disk with no event are copied to another with none: the one is only read, and each write of the other is a copy; the headers come last, and the newer one first of the two; where all is copied, all of it is durable; and a call of the other fails as that disk's manner lets it.
pub record CopiesBlocks (tells : Bool) (result : Result (Unit {0}) CopyFault) (from from_now to to_now : State) : Type 0 where
  pub reads : OnlyReads (fails_reading result) from from_now
  pub unwritten : IsTrue tells → from_now.log ≡ []
  pub spends : WritesAndWaits (fails_writing result) from.blocks to to_now
  pub copies : IsTrue tells → AreCopiesOf from.base to_now.log
  pub order : IsTrue tells → HeadersComeLast from.blocks from.base to.base to_now.log
  pub whole : IsTrue tells → OnOk result (AreCopied from.base from.blocks to_now.base to_now.log)
  pub cause : IsTrue tells → fails_writing result ≡ true → HasFailed to_now

-- The answer.

-- the answer where the copying, the return of the disk that was read, and that of the disk that was written were answered so: what came first counts
abbrev pub copy_answer_of : Result (Unit {0}) CopyFault → Result (Unit {0}) BayFault → Result (Unit {0}) BayFault → Result (Unit {0}) MakeRefusal
copy_answer_of (Ok x) (Ok y) (Ok z) = Ok z
copy_answer_of (Ok x) (Ok y) (Err fault) = Err (make_refusal_of_bay fault)
copy_answer_of (Ok x) (Err fault) back = Err (make_refusal_of_bay fault)
copy_answer_of (Err why) back_first back = Err Fault

-- On the way. Only private contracts speak of it.

-- each write among these events, accepted or lost, is to a block from `first` on and before `end`
abbrev pub AreWithin : ℕ → ℕ → List Event → Type 0
AreWithin first end [] = Unit {0}
AreWithin first end (Wrote ticket block bytes ∷ es) = (first ≤ block) × (block < end) × AreWithin first end es
AreWithin first end (Lost block bytes ∷ es) = (first ≤ block) × (block < end) × AreWithin first end es
AreWithin first end (Noticed ticket ∷ es) = AreWithin first end es

-- a log that goes on, by writes to blocks from `first` on and before `end`, and by notices
pub record GrowsWithin (first end : ℕ) (old new : List Event) : Type 0 where
  pub more : List Event
  pub log : new ≡ old ++ more
  pub within : AreWithin first end more

-- The blocks from `first` on and before `end` are durable copies behind the later log, and the others are as they were behind the earlier one.
pub record CopiesRange (at : Blocks) (first end : ℕ) (base : Blocks) (old new : List Event) : Type 0 where
  pub copied : (b : ℕ) → first ≤ b → b < end → cell_of base new b ≡ record { settled = at b; pending = [] }
  pub others : (b : ℕ) → (b < first) ⊎ (end ≤ b) → cell_of base new b ≡ cell_of base old b

-- a block was written with its copy in the write of this ticket: it is durable, or that write alone is pending on it and its notice hasn't come
abbrev pub IsSent : Blocks → Blocks → List Event → ℕ → ℕ → Type 0
IsSent at base log b t = (cell_of base log b ≡ record { settled = at b; pending = [] })
    ⊎ (¬ IsNoticed t log × ((old : List ℕ) × (cell_of base log b ≡ record { settled = old; pending = record { ticket = Some t; bytes = at b } ∷ [] })))

-- From block `first` on a stretch is copied with these tickets: the blocks before the place `low` in it are durable copies, those from there on and before `high` are sent, and the others are as they were behind the earlier log.
pub record IsStretch (at : Blocks) (first low high : ℕ) (tickets : List ℕ) (base : Blocks) (old new : List Event) : Type 0 where
  pub copied : (b : ℕ) → first ≤ b → b < first + low → cell_of base new b ≡ record { settled = at b; pending = [] }
  pub sent : (i : ℕ) → low ≤ i → i < high → IsSent at base new (first + i) (slice_index_or tickets i 0)
  pub others : (b : ℕ) → (b < first) ⊎ (first + high ≤ b) → cell_of base new b ≡ cell_of base old b

-- the first of these tickets, so many, are those of accepted writes
abbrev pub AreGiven : List ℕ → ℕ → List Event → Type 0
AreGiven tickets count log = (i : ℕ) → i < count → IsAccepted (slice_index_or tickets i 0) log

-- So many blocks from `first` on were read from the one disk and written to the other, with these tickets; where that failed, so many at most.
pub record SendsStretch (tells : Bool) (first count : ℕ) (tickets : List ℕ) (result : Result (Unit {0}) CopyFault) (from from_now to to_now : State) : Type 0 where
  pub reads : OnlyReads (fails_reading result) from from_now
  pub unwritten : IsTrue tells → from_now.log ≡ from.log
  pub spends : OnlyWrites (fails_writing result) to to_now
  pub copies : IsTrue tells → from.log ≡ [] → AreCopiesOf from.base to.log → AreCopiesOf from.base to_now.log
  pub grows : IsTrue tells → GrowsWithin first (first + count) to.log to_now.log
  pub sent : IsTrue tells → from.log ≡ [] → ((b : ℕ) → (cell_of to.base to.log b).pending ≡ []) → OnOk result (IsStretch from.base first 0 count tickets to.base to.log to_now.log)
  pub given : IsTrue tells → OnOk result (AreGiven tickets count to_now.log)
  pub cause : IsTrue tells → fails_writing result ≡ true → HasFailed to_now

-- The first of these tickets, so many, were waited for, where so many in all are those of accepted writes; a wait that failed was the last one.
pub record WaitsForStretch (tells : Bool) (count all : ℕ) (tickets : List ℕ) (result : Result (Unit {0}) CopyFault) (to to_now : State) : Type 0 where
  pub answer : fails_reading result ≡ false
  pub spends : WritesAndWaits (fails_writing result) count to to_now
  pub given : IsTrue tells → AreGiven tickets all to.log → AreGiven tickets all to_now.log
  pub copies : IsTrue tells → (at : Blocks) → AreCopiesOf at to.log → AreCopiesOf at to_now.log
  pub grows : IsTrue tells → (first end : ℕ) → GrowsWithin first end to.log to_now.log
  pub whole : IsTrue tells → (at : Blocks) (first : ℕ) (old : List Event) → ((b : ℕ) → (cell_of to.base old b).pending ≡ []) → IsStretch at first 0 all tickets to.base old to.log → OnOk result (IsStretch at first count all tickets to.base old to_now.log)
  pub cause : IsTrue tells → AreGiven tickets all to.log → fails_writing result ≡ true → HasFailed to_now

-- The blocks from `first` on and before `end` were copied from the one disk to the other, on which nothing was pending; where that failed, some of them at most.
pub record CopiesPart (tells : Bool) (first end : ℕ) (result : Result (Unit {0}) CopyFault) (from from_now to to_now : State) : Type 0 where
  pub reads : OnlyReads (fails_reading result) from from_now
  pub unwritten : IsTrue tells → from_now.log ≡ from.log
  pub spends : WritesAndWaits (fails_writing result) (end - first) to to_now
  pub copies : IsTrue tells → from.log ≡ [] → AreCopiesOf from.base to.log → AreCopiesOf from.base to_now.log
  pub grows : IsTrue tells → GrowsWithin first end to.log to_now.log
  pub whole : IsTrue tells → from.log ≡ [] → ((b : ℕ) → (cell_of to.base to.log b).pending ≡ []) → OnOk result (CopiesRange from.base first end to.base to.log to_now.log)
  pub cause : IsTrue tells → fails_writing result ≡ true → HasFailed to_now

-- at each moment of the events behind the log, the block without the newest header is as it was before them, or the one with it is durable with the bytes that it has there
abbrev pub ComeInTurn : ℕ → Blocks → Blocks → List Event → List Event → Type 0
ComeInTurn n at base log more = (slot : ℕ) (header : Header) → Newest n at slot header → (moment : ℕ)
    → (cell_of base (log ++ take moment more) (1 - slot) ≡ cell_of base log (1 - slot)) ⊎ (cell_of base (log ++ take moment more) slot ≡ record { settled = at slot; pending = [] })

-- The first two blocks were copied, that with the newest header first.
pub record CopiesHeaders (tells : Bool) (result : Result (Unit {0}) CopyFault) (from from_now to to_now : State) : Type 0 where
  pub part : CopiesPart tells 0 2 result from from_now to to_now
  pub grows : IsTrue tells → GrowsWithin 0 2 to.log to_now.log
  pub order : (t : IsTrue tells) → from.log ≡ [] → ((b : ℕ) → (cell_of to.base to.log b).pending ≡ []) → ComeInTurn from.blocks from.base to.base to.log (grows t).more
