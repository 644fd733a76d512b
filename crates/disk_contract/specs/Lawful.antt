-- Lawful logs, and settled and pending in the field's own words: the newest write whose durability was
-- noticed, and the writes after it. The rules are described in docs/DISK.md.
use Rattle.std.specs.Prelude.{◌≡◌, ◌⊎◌, ℕ, ◌<◌, ◌≤◌, ◌^◌, ◌==◌, true, false, if◌then◌else◌, List, [], ◌∷◌, ◌++◌, length, slice_index_or, Some, None}
use Rattle.disk_contract.specs.declared.event.Event.{Event}
use Rattle.disk_contract.specs.declared.event.Event.TheVariants.{Wrote, Lost, Noticed}
use Rattle.disk_contract.specs.Cell.{Write, greatest_ticket, has_lost, IsNoticed}
use Rattle.disk_contract.specs.Disk.{State, IsOpen}
use Rattle.disk_contract.specs.Manner.{GoesBy}

-- an event that may come behind these: an accepted write has a ticket above all earlier ones, and a notification is of an open ticket
abbrev pub MayCome : List Event → Event → Type 0
MayCome before (Wrote ticket block bytes) = greatest_ticket before < ticket
MayCome before (Lost block bytes) = Unit {0}
MayCome before (Noticed ticket) = IsOpen ticket before

-- these events may come one after the other, behind those
abbrev pub AreLawfulAfter : List Event → List Event → Type 0
AreLawfulAfter before [] = Unit {0}
AreLawfulAfter before (e ∷ es) = MayCome before e × AreLawfulAfter (before ++ e ∷ []) es

-- a lawful log: tickets ascend from 1, and each notification is of an accepted ticket, once
abbrev pub IsLawful : List Event → Type 0
IsLawful log = AreLawfulAfter [] log

-- the bytes of a block: 1,024 numbers below 256
pub record IsBlock (x : List ℕ) : Type 0 where
  pub length : length x ≡ 1024
  pub bytes : (i : ℕ) → i < 1024 → slice_index_or x i 0 < 256

-- an event of a disk of n blocks: a write is of one of them and has the bytes of a block, and a ticket has 64 bits
abbrev pub IsEventOf : ℕ → Event → Type 0
IsEventOf n (Wrote ticket block bytes) = (ticket < 2 ^ 64) × (block < n) × IsBlock bytes
IsEventOf n (Lost block bytes) = (block < n) × IsBlock bytes
IsEventOf n (Noticed ticket) = ticket < 2 ^ 64

-- each of these events is one of a disk of n blocks
abbrev pub AreEventsOf : ℕ → List Event → Type 0
AreEventsOf n [] = Unit {0}
AreEventsOf n (e ∷ es) = IsEventOf n e × AreEventsOf n es

-- a log of a disk of n blocks: it is lawful, and each event is one of such a disk
pub record IsLogOf (n : ℕ) (log : List Event) : Type 0 where
  pub lawful : IsLawful log
  pub events : AreEventsOf n log

-- a sound disk: each block had the bytes of a block when the disk began, the log is one of a disk of so many blocks, and by the disk's manner its writes may be accepted and lost as they are, and a read may have failed if one did; and where a wait brings the notice of its own ticket alone, a write was lost only where a failed call was counted
pub record IsSoundDisk (s : State) : Type 0 where
  pub blocks : (b : ℕ) → b < s.blocks → IsBlock (s.base b)
  pub log : IsLogOf s.blocks s.log
  pub manner : GoesBy s.manner s.log
  pub reads : 0 < s.read_faults → s.manner.reads_fail ≡ true
  pub counted : s.manner.waits_alone ≡ true → s.faults ≡ 0 → has_lost s.log ≡ false

-- the writes to a block, accepted and lost, the oldest first
abbrev pub writes_to : ℕ → List Event → List Write
writes_to b [] = []
writes_to b (Wrote ticket block bytes ∷ es) = if block == b then record { ticket = Some ticket; bytes = bytes } ∷ writes_to b es else writes_to b es
writes_to b (Lost block bytes ∷ es) = if block == b then record { ticket = None; bytes = bytes } ∷ writes_to b es else writes_to b es
writes_to b (Noticed ticket ∷ es) = writes_to b es

-- ticket u is that of an accepted write to the block
abbrev pub IsWriteOf : ℕ → ℕ → List Event → Type 0
IsWriteOf u b [] = ⊥
IsWriteOf u b (Wrote ticket block bytes ∷ es) = ((ticket ≡ u) × (block ≡ b)) ⊎ IsWriteOf u b es
IsWriteOf u b (Lost block bytes ∷ es) = IsWriteOf u b es
IsWriteOf u b (Noticed ticket ∷ es) = IsWriteOf u b es

-- of the block's writes whose durability was noticed, the one with the greatest ticket, its bytes, and the events after it
pub record IsNewestNoticed (log : List Event) (b ticket : ℕ) (bytes : List ℕ) (later : List Event) : Type 0 where
  pub before : List Event
  pub split : log ≡ before ++ (Wrote ticket b bytes ∷ later)
  pub noticed : IsNoticed ticket log
  pub greatest : (u : ℕ) → IsWriteOf u b log → IsNoticed u log → u ≤ ticket

-- the durability of no write to the block was noticed
abbrev pub HasNoneNoticed : List Event → ℕ → Type 0
HasNoneNoticed log b = (u : ℕ) → IsWriteOf u b log → ¬ IsNoticed u log
