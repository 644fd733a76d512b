-- What a crash may leave of a map of blocks, before and after a call. It is described in docs/BLOCKS.md.
use Rattle.std.specs.Prelude.{◌≡◌, ◌↔◌, ◌⊎◌, ℕ, ◌+◌, ◌<◌, ◌≤◌, false, true, IsTrue, List, [], length}
use Rattle.base_types.specs.Seal.{Blocks}
use Rattle.disk_contract.specs.declared.event.Event.{Event}
use Rattle.disk_contract.specs.Cell.{is_accepted, IsAccepted, IsNoticed}
use Rattle.disk_contract.specs.Disk.{Grows, writes_in}
use Rattle.layout_geometry.specs.Geometry.{Geometry}
use Rattle.layout_bytes.specs.Bitmap.{is_set}
use Rattle.layout_journal.specs.Run.{is_live}
use Rattle.engine_blocks.specs.Running.{payloads, fresh_blocks, HasNoBare}
use Rattle.engine_blocks.specs.State.{RecordsView, State, is_defined}

-- the image holds a map, and it is that of a point from `floor` to `top`
pub record HoldsPointBetween (s : State) (floor top : ℕ) (img : Blocks) : Type 0 where
  pub point : ℕ
  pub from : floor ≤ point
  pub upto : point ≤ top
  pub map : Blocks
  pub holds : s.crash.holds img map
  pub is : s.crash.is_point point map

-- m has the live blocks of a map: the bitmap, the node table, and the data blocks that it marks
abbrev pub HasLiveBlocks : Geometry → Blocks → Blocks → Type 0
HasLiveBlocks g map m = (b : ℕ) → IsTrue (is_live g map b) → m b ≡ map b

-- Of records the same is known by the same events.
pub record SameRecords (old new : RecordsView) : Type 0 where
  pub told : new.told ≡ old.told
  pub starts : (log : List Event) (number : ℕ) → new.starts log number ↔ old.starts log number

-- No event comes, and no point: a crash may leave what it might have left.
pub record IssuesNothing (old new : State) : Type 0 where
  pub base : new.crash.base ≡ old.crash.base
  pub log : new.crash.log ≡ old.crash.log
  pub point : (p : ℕ) (m : Blocks) → new.crash.is_point p m ↔ old.crash.is_point p m
  pub left : (t : ℕ) (img : Blocks) → new.crash.left_since t img ↔ old.crash.left_since t img
  pub holds : (img m : Blocks) → new.crash.holds img m ↔ old.crash.holds img m
  pub issued : (m : Blocks) → new.crash.issued m ↔ old.crash.issued m
  pub awaits : (p t : ℕ) → new.crash.awaits p t ↔ old.crash.awaits p t
  pub sure : (log : List Event) (p : ℕ) → new.crash.sure log p ↔ old.crash.sure log p
  pub records : SameRecords old.crash.records new.crash.records

-- a point that came since waits for the ticket of a write that came since
pub record AwaitsSince (old : State) (p t : ℕ) : Type 0 where
  pub point : old.books.point < p
  pub ticket : is_accepted t old.crash.log ≡ false

-- Time goes on: events come behind those that there were. At each moment of the call a crash leaves an image that holds the map of a point, from the floor as it began to the last one as it ended.
pub record Advances (old new : State) : Type 0 where
  pub base : new.crash.base ≡ old.crash.base
  pub grows : Grows old.crash.log new.crash.log
  pub window : (img : Blocks) → new.crash.left_since (length old.crash.log) img → ∥ HoldsPointBetween new old.books.floor new.books.point img ∥₁
  -- the same for something that began earlier: what a crash since then may leave it might have left before the call, or it holds such a map
  pub earlier : (t : ℕ) (img : Blocks) → t ≤ length old.crash.log → new.crash.left_since t img → old.crash.left_since t img ⊎ ∥ HoldsPointBetween new old.books.floor new.books.point img ∥₁
  -- which map an image holds is for ever
  pub holds : (img m : Blocks) → new.crash.holds img m ↔ old.crash.holds img m
  -- and by which events a point is sure, and what they tell of records
  pub sure : (log : List Event) (p : ℕ) → new.crash.sure log p ↔ old.crash.sure log p
  pub records : SameRecords old.crash.records new.crash.records
  -- a point is for ever
  pub point : (p : ℕ) (m : Blocks) → p ≤ old.books.point → new.crash.is_point p m ↔ old.crash.is_point p m
  pub last : old.books.point ≤ new.books.point
  pub floor : old.books.floor ≤ new.books.floor
  -- a point waits for no ticket that it didn't wait for, unless both are new
  pub awaits : (p t : ℕ) → new.crash.awaits p t → old.crash.awaits p t ⊎ AwaitsSince old p t

-- the map now is that of point p, on its live blocks
abbrev pub HasMapOfPoint : State → ℕ → Type 0
HasMapOfPoint s p = (m : Blocks) → s.crash.is_point p m → HasLiveBlocks s.books.geom s.map m

-- if a point came, the map now is its
abbrev pub MakesPoint : State → State → Type 0
MakesPoint old new = old.books.point < new.books.point → HasMapOfPoint new new.books.point

-- The writes so far, and those that are still to come for what was committed, grow by so many at most.
abbrev pub WritesAtMost : ℕ → State → State → Type 0
WritesAtMost more old new = writes_in new.crash.log + new.books.owed ≤ writes_in old.crash.log + old.books.owed + more

-- Nothing was done yet: no point was made, and the transaction is empty.
pub record IsBegun (s : State) : Type 0 where
  pub point : s.books.point ≡ 0
  pub weight : s.books.running.weight ≡ 0
  pub held : s.books.running.held ≡ 0
  pub payloads : payloads s.books.geom s.books.running ≡ 0
  pub fresh : fresh_blocks s.books.geom s.books.running ≡ 0
  pub none_bare : HasNoBare s.books.running
  pub going : s.books.stopped ≡ false

-- where all accepted writes stand, the map is that of the last point
pub record StandsForLast (s : State) : Type 0 where
  pub some : ∥ ((m : Blocks) × s.crash.issued m) ∥₁
  pub each : (m : Blocks) → s.crash.issued m → s.crash.is_point s.books.point m

-- A point waits for a ticket only where it is behind the floor, and the write of this ticket was accepted.
pub record MayAwait (s : State) (p t : ℕ) : Type 0 where
  pub behind : s.books.floor < p
  pub upto : p ≤ s.books.point
  pub accepted : IsAccepted t s.crash.log

-- The point waits for a ticket whose notice hasn't come, as far as a wait brings that of its own ticket alone.
pub record StillAwaits (s : State) (p : ℕ) : Type 0 where
  pub ticket : ℕ
  pub awaits : s.crash.awaits p ticket
  pub not_yet : s.counts.ticks.manner.waits_alone ≡ true → ¬ IsNoticed ticket s.crash.log

-- A notice that came is of a ticket that a point waited for, or of a write that came since.
abbrev pub HearsRecords : State → State → Type 0
HearsRecords old new = (t : ℕ) → IsNoticed t new.crash.log → IsNoticed t old.crash.log ⊎ (∥ ((p : ℕ) × old.crash.awaits p t) ∥₁ ⊎ (is_accepted t old.crash.log ≡ false))

-- A notice that came is of a ticket for which one of the points 1 to n waited.
abbrev pub HearsUpTo : ℕ → State → State → Type 0
HearsUpTo n old new = (t : ℕ) → IsNoticed t new.crash.log → IsNoticed t old.crash.log ⊎ ∥ ((p : ℕ) × (1 ≤ p) × (p ≤ n) × old.crash.awaits p t) ∥₁

-- What is known of each state: a crash now leaves an image that holds the map of a point from the floor on; the bits of the map are those of the bookkeeping; each block on which the map is defined is whole, and elsewhere it has nothing; and while no call of the disk failed, all that was issued is the last point.
pub record IsTold (s : State) : Type 0 where
  pub now : (img : Blocks) → s.crash.left_since (length s.crash.log) img → ∥ HoldsPointBetween s s.books.floor s.books.point img ∥₁
  pub bits : (b : ℕ) → b < s.books.geom.n → s.books.marked b ≡ is_set s.books.geom s.map b
  pub whole : (b : ℕ) → b < s.books.geom.n → is_defined s.books b ≡ true → length (s.map b) ≡ 1024
  pub nothing : (b : ℕ) → is_defined s.books b ≡ false → s.map b ≡ []
  pub issued : s.books.stopped ≡ false → StandsForLast s
  pub awaits : (p t : ℕ) → s.crash.awaits p t → MayAwait s p t
