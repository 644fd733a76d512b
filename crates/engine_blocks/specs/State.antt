-- What is known of a map of blocks with sync points: its bookkeeping, its counts, its blocks, and what a crash may leave of them. It is described in docs/BLOCKS.md.
use Rattle.std.specs.Prelude.{◌≡◌, ◌≢◌, ℕ, ◌+◌, ◌-◌, ◌<◌, ◌≤◌, Bool, true, false, not, nat_le, nat_lt, ◌==◌, ◌&&◌, ◌||◌, if◌then◌else◌, List, [], length, Option}
use Rattle.std.specs.List.{filter, range_with_len, All, AllPairs}
use Rattle.base_types.specs.Seal.{Blocks}
use Rattle.base_types.specs.declared.words.Class.{Class}
use Rattle.disk_contract.specs.declared.event.Event.{Event}
use Rattle.disk_contract.specs.Manner.{Manner}
use Rattle.layout_geometry.specs.Geometry.{Geometry, bitmap_start, data_start}
use Rattle.layout_journal.specs.declared.record.Commit.{Commit}
use Rattle.engine_blocks.specs.Running.{Running, Spare, is_bare, with_put, with_takes, with_free, has}

-- what ticks go by: how often it ticked, how often the disk was polled, and how the disk behaves
pub record Ticking : Type 0 where
  pub made : ℕ
  pub polls : ℕ
  pub manner : Manner

-- how often it ticked, with what ticks go by, and how often a read failed, another call of the disk failed, and it waited for the disk; each count stops at the last number of 64 bits
pub record Counts : Type 0 where
  pub ticks : Ticking
  pub read_faults : ℕ
  pub faults : ℕ
  pub waits : ℕ

-- What is known whether or not contents are known. A block is marked where its bit is set in the bitmap as the bookkeeping has it.
pub record Bookkeeping : Type 0 where
  pub geom : Geometry
  pub running : Running
  pub spare : Spare
  pub marked : ℕ → Bool
  -- the numbers that may be taken, and how many wait to be so again
  pub reusable : ℕ → Bool
  pub waiting : ℕ
  -- of each block that waits, the point whose transaction freed it
  pub since : ℕ → Option ℕ
  -- how many data blocks there are, and how much weight a transaction may have
  pub area : ℕ
  pub room : ℕ
  -- the ring places of no record, the greater of the last header's turn and the next record's number, and the writes that are still to come for what was committed
  pub free_places : ℕ
  pub turns : ℕ
  pub owed : ℕ
  -- the last sync point, and the first to which a crash may go back
  pub point : ℕ
  pub floor : ℕ
  -- a call of the disk failed in a write, a poll or a wait, and nothing is written any more
  pub stopped : Bool

-- What is known of the records that syncs write, which are numbered: what the log tells of them, in their order; and from which number on their ring places aren't free yet, by what the disk keeps for certain after such events. Of blocks in memory nothing is told.
pub record RecordsView : Type 1 where
  pub told : List Event → Option (List Commit)
  pub starts : List Event → ℕ → Type 0

-- What is known of crashes: what the disk's blocks were as it began, and its events since, whose number is the moment; which maps are those of a point, which images a crash at some moment from one on may leave, which map an image holds, and what stands where all accepted writes stand; and which tickets a point waits for, those of the writes of its record, until it is known to be durable. After events like these a point is sure where the newest header at rest then says that all records up to its own are durable. And what is known of records. Of blocks in memory there is no event.
pub record CrashView : Type 1 where
  pub base : Blocks
  pub log : List Event
  pub is_point : ℕ → Blocks → Type 0
  pub left_since : ℕ → Blocks → Type 0
  pub holds : Blocks → Blocks → Type 0
  pub issued : Blocks → Type 0
  pub awaits : ℕ → ℕ → Type 0
  pub sure : List Event → ℕ → Type 0
  pub records : RecordsView

-- The whole. The map has the bytes of each block on which it is defined, and nothing elsewhere; where contents aren't known, it and `crash` say nothing.
pub record State : Type 1 where
  pub books : Bookkeeping
  pub counts : Counts
  pub map : Blocks
  pub crash : CrashView

-- The map is defined on the bitmap, the node table, and each data block that is marked and isn't bare, so was put since it was taken. Of any other block nothing is known, since its bytes may change at any time.
abbrev pub defined_by : Geometry → Bool → Bool → ℕ → Bool
defined_by g marked bare b = nat_le (bitmap_start g) b && (nat_lt b (data_start g) || (nat_lt b g.n && (marked && not bare)))

abbrev pub is_defined : Bookkeeping → ℕ → Bool
is_defined k b = defined_by k.geom (k.marked b) (is_bare (k.running.roles b)) b

-- the bytes of these blocks, and nothing elsewhere
abbrev pub defined_part : Bookkeeping → Blocks → Blocks
defined_part k m b = if is_defined k b then m b else []

-- the numbers of the data blocks, ascending
abbrev pub data_blocks : Geometry → List ℕ
data_blocks g = range_with_len (data_start g) (g.n - data_start g)

-- the data blocks that are marked
abbrev pub live_blocks : Bookkeeping → List ℕ
live_blocks k = filter k.marked (data_blocks k.geom)

-- the data blocks that may be taken, ascending
abbrev pub reusable_blocks : Bookkeeping → List ℕ
reusable_blocks k = filter k.reusable (data_blocks k.geom)

-- a data block that may be taken
pub record IsReusable (g : Geometry) (reusable : ℕ → Bool) (b : ℕ) : Type 0 where
  pub from : data_start g ≤ b
  pub below : b < g.n
  pub free : reusable b ≡ true

-- these may be taken together: each may, and no two are the same
pub record MayBeTaken (g : Geometry) (reusable : ℕ → Bool) (bs : List ℕ) : Type 0 where
  pub each : All (IsReusable g reusable) bs
  pub distinct : AllPairs (λ a b. a ≢ b) bs

-- the bookkeeping after each call that changes the running transaction
abbrev pub after_put : Bookkeeping → ℕ → Class → Bookkeeping
after_put k b class = record k {
  running = record k.running { roles = with_put k.running.roles b class };
  spare = record k.spare { puts = k.spare.puts - 1 };
}

abbrev pub after_take : Bookkeeping → List ℕ → Bookkeeping
after_take k bs = record k {
  running = record k.running { roles = with_takes k.geom k.running.roles bs; took = k.running.took + length bs };
  spare = record k.spare { takes = k.spare.takes - length bs };
  marked = λ b. has bs b || k.marked b;
  reusable = λ b. not (has bs b) && k.reusable b;
}

-- a block whose bit was clear already isn't held; where contents are known, this never comes
abbrev pub after_free : Bookkeeping → ℕ → Bookkeeping
after_free k b = record k {
  running = record k.running { roles = with_free k.geom k.running.roles b; held = k.running.held + (if k.marked b then 1 else 0) };
  spare = record k.spare { frees = k.spare.frees - 1 };
  marked = λ c. if c == b then false else k.marked c;
}

abbrev pub after_weigh : Bookkeeping → ℕ → Bookkeeping
after_weigh k cost = record k { running = record k.running { weight = k.running.weight + cost } }
