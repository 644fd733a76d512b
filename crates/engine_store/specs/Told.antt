-- What is known of a store where its disk tells, and what is kept of that. It is described in docs/STORE.md.
use Rattle.std.specs.Prelude.{◌≡◌, ℕ, ◌+◌, ◌^◌, ◌<◌, ◌≤◌, Bool, false, true, IsTrue, List, length, slice_get, Some, None}
use Rattle.base_types.specs.Seal.{Blocks}
use Rattle.disk_contract.specs.Disk as disk
use Rattle.layout_journal.specs.Run.{is_live}
use Rattle.engine_cache.specs.Cache.{IsKept, IsTheDisks}
use Rattle.crash_argument.specs.HomeTest.{is_one_of}
use Rattle.crash_argument.specs.Ledger.{Ledger, next_number}
use Rattle.crash_argument.specs.Points.{MountedSession, IsSafe}
use Rattle.engine_running.specs.declared.commit.Committed.{Committed}
use Rattle.engine_checkpoint.specs.Advance.{MayServe}
use Rattle.engine_checkpoint.specs.Agree.{PipelineAgrees}
use Rattle.engine_checkpoint.specs.Bytes.{bytes_now}
use Rattle.engine_checkpoint.specs.Kept.{kept, newest_in}
use Rattle.engine_checkpoint.specs.Steps.{is_first_settled}
use Rattle.engine_checkpoint.specs.Waits.{HearsAll}
use Rattle.engine_blocks.specs.State.{Counts, State, Ticking}
use Rattle.engine_books.specs.Books.{map_of}
use Rattle.engine_books.specs.Point.{BeganAt}
use Rattle.engine_store.specs.declared.parts.StoreParts.{StoreParts}
use Rattle.engine_store.specs.SessionView.{state_of}
use Rattle.engine_store.specs.Store.{StoreIsSound, bookkeeping_of}

-- the map of the last sync point
abbrev pub last_map : StoreParts → disk.State → Blocks
last_map v d = bytes_now v.pipeline d.base d.log

-- the map now
abbrev pub map_now : StoreParts → disk.State → Blocks
map_now v d = map_of v.books (last_map v d)

-- the session, as crashes are told of
abbrev pub session_of : StoreParts → MountedSession
session_of v = record { geom = v.books.geom; epoch = v.pipeline.header.epoch; mounted = v.mounted; first = v.first }

-- the session is the same
pub record IsSameSession (v w : StoreParts) : Type 0 where
  pub geom : w.books.geom ≡ v.books.geom
  pub epoch : w.pipeline.header.epoch ≡ v.pipeline.header.epoch
  pub mounted : w.mounted ≡ v.mounted
  pub first : w.first ≡ v.first

-- what ticks go by: the disk, and how often the store ticked
abbrev pub ticking_of : ℕ → disk.State → Ticking
ticking_of ticks d = record { made = ticks; polls = d.polls; manner = d.manner }

-- the disk wasn't polled, and behaves as it did
abbrev pub AsksNothing : disk.State → disk.State → Type 0
AsksNothing d e = (ticks : ℕ) → ticking_of ticks e ≡ ticking_of ticks d

-- the counts: those of the disk, and how often the store ticked
abbrev pub counts_of : ℕ → disk.State → Counts
counts_of ticks d = record { ticks = ticking_of ticks d; read_faults = d.read_faults; faults = d.faults; waits = d.waits }

-- While no call of the disk failed, a point waits for the tickets of its record, as long as that is a committed one, which isn't known to be durable. The session's first record, of point 1, has the number `first`.
pub record IsAwaited (stopped : Bool) (first : ℕ) (records : List Committed) (p t : ℕ) : Type 0 where
  pub going : stopped ≡ false
  pub place : ℕ
  pub committed : Committed
  pub is : slice_get records place ≡ Some committed
  pub number : committed.number + 1 ≡ first + p
  pub own : is_one_of t committed.tickets.items ≡ true

-- which tickets its points wait for
abbrev pub awaited_in : StoreParts → ℕ → ℕ → Type 0
awaited_in v = IsAwaited v.stopped v.first v.pipeline.committed.items

-- the same points wait for the same tickets
pub record AwaitsTheSame (v w : StoreParts) : Type 0 where
  pub stopped : w.stopped ≡ v.stopped
  pub first : w.first ≡ v.first
  pub committed : w.pipeline.committed.items ≡ v.pipeline.committed.items

-- what is known of the store as a map of blocks
abbrev pub store_state : StoreParts → ℕ → disk.State → State
store_state v ticks d = state_of (session_of v) (bookkeeping_of v) (counts_of ticks d) (map_now v d) d.base d.log (awaited_in v)

-- Each live block of the map that the cache keeps has no newer payload in a record, and is kept as the disk has it.
pub record CacheAgrees (v : StoreParts) (d : disk.State) : Type 0 where
  pub newest : (b : ℕ) → IsTrue (is_live v.books.geom (last_map v d) b) → IsKept b v.cache → newest_in None (kept v.pipeline) b ≡ None
  pub same : (b : ℕ) → IsTrue (is_live v.books.geom (last_map v d) b) → IsTheDisks b v.cache d

-- While no call of the disk failed, pipeline, ring and dead blocks agree with the ledger, whose last record made the last point; the oldest committed record has an open ticket; where a wait brings the notice of its own ticket alone, the notes know all notices of tickets that they expect; and the cache agrees with the disk.
pub record GoesBy (v : StoreParts) (d : disk.State) (l : Ledger) : Type 0 where
  pub agrees : PipelineAgrees d.base d.log l v.pipeline v.ring v.books.dead.waiting v.books.changes.taken
  pub serves : MayServe l v.pipeline v.books.dead
  pub next : next_number l ≡ v.first + v.point
  pub due : is_first_settled v.pipeline.committed.items v.pipeline.notes.notes ≡ false
  pub heard : d.manner.waits_alone ≡ true → HearsAll d.log v.pipeline
  pub cache : CacheAgrees v d

-- Always the disk is safe by the ledger, from now on and from the floor on; the ledger has no point behind the last; the running transaction began at the map of the last point; and each live block of that map is whole. Where a call of the disk failed, it was the last one.
pub record IsToldBy (v : StoreParts) (d : disk.State) (l : Ledger) : Type 0 where
  pub safe : IsSafe (session_of v) d.base d.log l (length d.log) v.floor
  pub made : next_number l ≤ v.first + v.point
  pub began : BeganAt v.books (last_map v d)
  pub whole : (b : ℕ) → IsTrue (is_live v.books.geom (last_map v d) b) → length (last_map v d b) ≡ 1024
  pub going : v.stopped ≡ false → GoesBy v d l
  pub failed : v.stopped ≡ true → disk.HasFailed d

-- where the disk tells, some ledger tells it
abbrev pub IsToldBySome : Bool → StoreParts → disk.State → Type 0
IsToldBySome tells v d = IsTrue tells → ∥ ((l : Ledger) × IsToldBy v d l) ∥₁

-- what a store keeps: the disk has the geometry's blocks, its count of waits is one of 64 bits, the parts are sound, and where the disk tells they are told
pub record IsKeptOn (tells : Bool) (v : StoreParts) (d : disk.State) : Type 0 where
  pub size : d.blocks ≡ v.books.geom.n
  pub waits : d.waits < 2 ^ 64
  pub sound : StoreIsSound v
  pub told : IsToldBySome tells v d
