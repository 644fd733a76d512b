-- What a call of a map of blocks leaves of its blocks, its bookkeeping and its counts. It is described in docs/BLOCKS.md.
use Rattle.std.specs.Prelude.{◌≡◌, ◌≢◌, ◌⊎◌, ℕ, ◌+◌, ◌-◌, ◌*◌, ◌^◌, ◌<◌, ◌≤◌, ⊤, Bool, true, false, nat_le, ◌==◌, if◌then◌else◌, List, [], length, take, Result, Ok, Err}
use Rattle.base_types.specs.Counts.{after_call}
use Rattle.base_types.specs.Seal.{Blocks}
use Rattle.layout_geometry.specs.Geometry.{Geometry, bitmap_blocks, data_start}
use Rattle.layout_bytes.specs.Bitmap.{is_set}
use Rattle.engine_blocks.specs.declared.refusals.LowestRefusal.{LowestRefusal}
use Rattle.engine_blocks.specs.declared.refusals.LowestRefusal.TheVariants as lowest
use Rattle.engine_blocks.specs.declared.refusals.SyncRefusal.{SyncRefusal}
use Rattle.engine_blocks.specs.declared.refusals.SyncRefusal.TheVariants as sync
use Rattle.engine_blocks.specs.declared.refusals.WaitRefusal.{WaitRefusal}
use Rattle.engine_blocks.specs.declared.refusals.WaitRefusal.TheVariants as wait
use Rattle.engine_blocks.specs.declared.figures.Figures.{Figures}
use Rattle.engine_blocks.specs.Running.{Running, Spare, nothing_running, payloads, fresh_blocks, record_places, record_writes, HasNoBare, has, has_bit, bit_block}
use Rattle.engine_blocks.specs.State.{Bookkeeping, Counts, State, live_blocks, reusable_blocks, IsReusable, MayBeTaken}

-- The blocks.

-- one block is new
pub record IsWithBlock (old new : Blocks) (b : ℕ) (bytes : List ℕ) : Type 0 where
  pub own : new b ≡ bytes
  pub others : (c : ℕ) → c ≢ b → new c ≡ old c

-- the bits of these blocks are set, of all bits of the bitmap, and nothing else is new: the map is defined on them only once they are put
pub record IsWithTaken (g : Geometry) (old new : Blocks) (bs : List ℕ) : Type 0 where
  pub bits : (b : ℕ) → b < 8192 * bitmap_blocks g → is_set g new b ≡ (if has bs b then true else is_set g old b)
  pub others : (c : ℕ) → has_bit g bs c ≡ false → new c ≡ old c

-- the bit of block b is clear, the map isn't defined on it any more, and nothing else is new
pub record IsWithFreed (g : Geometry) (old new : Blocks) (b : ℕ) : Type 0 where
  pub own : new b ≡ []
  pub bits : (c : ℕ) → c < 8192 * bitmap_blocks g → is_set g new c ≡ (if c == b then false else is_set g old c)
  pub others : (c : ℕ) → c ≢ b → c ≢ bit_block g b → new c ≡ old c

-- The answers.

-- a sync was refused by a fault of the disk
abbrev pub sync_fails : {T : Type 0} → Result T SyncRefusal → Bool
sync_fails (Ok x) = false
sync_fails (Err sync.DiskFault) = true
sync_fails (Err sync.NoMemory) = false

-- what must hold where a sync was out of memory
abbrev pub OnNoMemory : {T : Type 0} → Result T SyncRefusal → Type 0 → Type 0
OnNoMemory (Ok x) P = ⊤
OnNoMemory (Err sync.DiskFault) P = ⊤
OnNoMemory (Err sync.NoMemory) P = P

-- what must hold where it wasn't
abbrev pub UnlessNoMemory : {T : Type 0} → Result T SyncRefusal → Type 0 → Type 0
UnlessNoMemory (Ok x) P = P
UnlessNoMemory (Err sync.DiskFault) P = P
UnlessNoMemory (Err sync.NoMemory) P = ⊤

-- a wait for a point was refused by a fault of the disk
abbrev pub wait_fails : {T : Type 0} → Result T WaitRefusal → Bool
wait_fails (Ok x) = false
wait_fails (Err (wait.NoPoint last)) = false
wait_fails (Err wait.DiskFault) = true

-- a search for numbers to take was refused by a fault of the disk
abbrev pub lowest_fails : {T : Type 0} → Result T LowestRefusal → Bool
lowest_fails (Ok x) = false
lowest_fails (Err (lowest.Short need reusable)) = false
lowest_fails (Err lowest.DiskFault) = true
lowest_fails (Err lowest.NoMemory) = false

-- why such a search was refused: after settling there are fewer than n; or the disk failed as it settled, since there were fewer before; or it was out of memory
abbrev pub LowestRefused : ℕ → Bookkeeping → Bookkeeping → LowestRefusal → Type 0
LowestRefused n old new (lowest.Short need reusable) = (need ≡ n) × (reusable ≡ length (reusable_blocks new)) × (reusable < n) × (new.waiting ≡ 0)
LowestRefused n old new lowest.DiskFault = length (reusable_blocks old) < n
LowestRefused n old new lowest.NoMemory = ⊤

-- these are the n least numbers that may be taken, which may be taken together; where there were fewer before, it has settled
pub record AreLowest (n : ℕ) (old new : Bookkeeping) (found : List ℕ) : Type 0 where
  pub enough : n ≤ length (reusable_blocks new)
  pub least : found ≡ take n (reusable_blocks new)
  pub takeable : MayBeTaken new.geom new.reusable found
  pub settled : length (reusable_blocks old) < n → new.waiting ≡ 0

-- The counts.

-- A read was made: it is refused exactly where the disk failed it, which is counted once.
pub record CountsReads (failed : Bool) (old new : Counts) : Type 0 where
  pub read_faults : new.read_faults ≡ after_call failed old.read_faults
  pub faults : new.faults ≡ old.faults
  pub waits : new.waits ≡ old.waits
  pub ticks : new.ticks ≡ old.ticks

-- The disk may have been written, polled and waited for: a call is refused by it exactly where the disk failed it, which is counted once, and then nothing is written any more.
pub record UsesDisk (failed : Bool) (old new : State) : Type 0 where
  pub faults : new.counts.faults ≡ after_call failed old.counts.faults
  pub stopped : new.books.stopped ≡ failed
  pub read_faults : new.counts.read_faults ≡ old.counts.read_faults
  pub waits : old.counts.waits ≤ new.counts.waits

-- The bookkeeping.

-- The pipeline may have moved: the transaction and the bits are as before, what may be taken still may, and blocks that waited may too.
pub record MovesPipeline (old new : Bookkeeping) : Type 0 where
  pub geom : new.geom ≡ old.geom
  pub running : new.running ≡ old.running
  pub spare : new.spare ≡ old.spare
  pub marked : new.marked ≡ old.marked
  pub reusable : (b : ℕ) → IsReusable old.geom old.reusable b → new.reusable b ≡ true
  pub waiting : new.waiting ≤ old.waiting
  pub area : new.area ≡ old.area
  pub room : new.room ≡ old.room
  pub free_places : old.free_places ≤ new.free_places
  pub turns : new.turns ≤ old.turns + 2 ^ 18
  pub point : new.point ≡ old.point
  pub floor : old.floor ≤ new.floor

-- one value where the transaction has a weight, and another where it has none
abbrev pub if_changed : {T : Type 0} → Running → T → T → T
if_changed r changed unchanged = if r.weight == 0 then unchanged else changed

-- the ring places that a commit would take now, and the writes that it would stand for
abbrev pub commit_places : Bookkeeping → ℕ
commit_places k = record_places (payloads k.geom k.running) (fresh_blocks k.geom k.running)

abbrev pub commit_writes : Bookkeeping → ℕ
commit_writes k = if_changed k.running (record_writes (payloads k.geom k.running) (fresh_blocks k.geom k.running)) 0

-- The transaction ended, if it had a weight, and its record took its places in the ring.
pub record EndsTransaction (old new : Bookkeeping) : Type 0 where
  pub running : new.running ≡ if_changed old.running nothing_running old.running
  pub free_places : old.free_places ≤ new.free_places + if_changed old.running (commit_places old) 0

-- What holds of the bookkeeping after a sync, unless it was out of memory: there is one point more, if the transaction had a weight, also where the disk failed.
pub record IsAfterSync (old new : Bookkeeping) : Type 0 where
  pub geom : new.geom ≡ old.geom
  pub running : (new.running ≡ old.running) ⊎ (new.running ≡ nothing_running)
  pub marked : new.marked ≡ old.marked
  pub reusable : (b : ℕ) → IsReusable old.geom old.reusable b → new.reusable b ≡ true
  pub turns : new.turns ≤ old.turns + 2 ^ 18
  pub point : new.point ≡ old.point + if_changed old.running 1 0
  pub floor : old.floor ≤ new.floor

-- the sync may be called: a commit fits the transaction's weight, it has a payload where it has a weight, and each block that was taken was put or freed since
pub record MaySync (k : Bookkeeping) : Type 0 where
  pub fits : 25 * payloads k.geom k.running + fresh_blocks k.geom k.running ≤ k.running.weight
  pub some : 0 < k.running.weight → 0 < payloads k.geom k.running
  pub none_bare : HasNoBare k.running

-- the journal's numbers leave room for the call
abbrev pub HasTurns : Bookkeeping → Type 0
HasTurns k = k.turns < 2 ^ 63 + 2 ^ 20

-- the figures of the bookkeeping
pub record AreFigures (k : Bookkeeping) (f : Figures) : Type 0 where
  pub area : f.area ≡ k.area
  pub live : f.live ≡ length (live_blocks k)
  pub held : f.held ≡ k.running.held
  pub waiting : f.waiting ≡ k.waiting
  pub weight : f.weight ≡ k.running.weight
  pub room : f.room ≡ k.room
  pub point : f.point ≡ k.point
  pub floor : f.floor ≡ k.floor
  pub free_places : f.free_places ≡ k.free_places
  pub stopped : f.stopped ≡ k.stopped
  pub spent : f.spent ≡ nat_le (2 ^ 63 - 8) k.turns

-- so much is ready, or more
pub record IsReady (spare : Spare) (puts takes frees : ℕ) : Type 0 where
  pub enough_puts : puts ≤ spare.puts
  pub enough_takes : takes ≤ spare.takes
  pub enough_frees : frees ≤ spare.frees

-- What holds of each bookkeeping.

-- Each data block may be taken, is marked, is held by the transaction that freed it, or waits; what may be taken isn't marked.
pub record IsSound (k : Bookkeeping) : Type 0 where
  pub accounts : length (reusable_blocks k) + length (live_blocks k) + k.running.held + k.waiting ≡ k.area
  pub area : k.area ≡ k.geom.n - data_start k.geom
  pub unmarked : (b : ℕ) → IsReusable k.geom k.reusable b → k.marked b ≡ false
  pub fits : k.running.weight ≤ k.room
  pub room : k.room ≡ 24 * (k.geom.j - 2)
  -- what a commit would write in place was taken in its transaction
  pub took : fresh_blocks k.geom k.running ≤ k.running.took
  pub floor : k.floor ≤ k.point
  pub free_places : k.free_places ≤ k.geom.j
