-- When a commit may be made of the running transaction by a store, and what a cache forgets of it. It is described in docs/STORE.md.
use Rattle.std.specs.Prelude.{◌≡◌, ℕ, ◌+◌, ◌<◌, ◌||◌, true, false, is_some, if◌then◌else◌, List, length, Some, None}
use Rattle.std.specs.FinMap.{get}
use Rattle.disk_contract.specs.Disk.{State}
use Rattle.engine_cache.specs.Cache.{Cache}
use Rattle.crash_argument.specs.HomeTest.{is_one_of}
use Rattle.engine_running.specs.declared.commit.CommitRoom.{CommitRoom}
use Rattle.engine_running.specs.declared.put.Put.{Put}
use Rattle.engine_running.specs.Commits.{HasRoomForCommit, places_for}
use Rattle.engine_running.specs.Rows.{put_of}
use Rattle.engine_checkpoint.specs.Joining.{IsReadyFor}
use Rattle.engine_blocks.specs.Calls.{MaySync}
use Rattle.engine_blocks.specs.Effects.{FitsRing}
use Rattle.engine_blocks.specs.Puts.{IsData}
use Rattle.engine_blocks.specs.Serving.{SameFreed, is_held, with_all_served}
use Rattle.engine_blocks.specs.State.{Bookkeeping}
use Rattle.engine_store.specs.declared.parts.StoreParts.{StoreParts}
use Rattle.engine_store.specs.Store.{bookkeeping_of}
use Rattle.engine_store.specs.Told.{AwaitsTheSame, map_now, session_of}

-- The running transaction has a weight and may be synced, and memory is ready for its commit.
pub record MayCommit (v : StoreParts) (r : CommitRoom) : Type 0 where
  pub sync : MaySync (bookkeeping_of v)
  pub weight : 0 < v.books.weight
  pub ready : IsReadyFor (length v.books.changes.laid + places_for v.books.changes) (length v.books.changes.paid) v.pipeline.ready
  pub room : HasRoomForCommit v.books.changes r

-- of a record's payloads and fresh blocks nothing is kept, and of the others what was kept
abbrev pub Forgets : List Put → List ℕ → Cache → Cache → Type 0
Forgets payloads fresh old new = (b : ℕ) → get new.kept b ≡ (if is_some (put_of b payloads) || is_one_of b fresh then None else get old.kept b)

-- What is known of the store as a map of blocks is the same over each disk.
pub record IsSameStore (v w : StoreParts) : Type 0 where
  pub books : bookkeeping_of w ≡ bookkeeping_of v
  pub session : session_of w ≡ session_of v
  pub map : (d : State) → map_now w d ≡ map_now v d
  pub awaits : AwaitsTheSame v w

-- What the transaction freed waits for the last point, and of all other data blocks the same is known as by this bookkeeping.
pub record LetsWait (k new : Bookkeeping) : Type 0 where
  pub held : (b : ℕ) → is_held k b ≡ true → (new.reusable b ≡ false) × (new.since b ≡ Some new.point)
  pub reusable : (b : ℕ) → IsData k.geom b → is_held k b ≡ false → new.reusable b ≡ k.reusable b
  pub since : (b : ℕ) → IsData k.geom b → is_held k b ≡ false → new.since b ≡ k.since b

-- So it is after a commit whose record fits the free ring places; and where it doesn't, over the bookkeeping where all that waited serves again.
pub record FreesInRing (old new : Bookkeeping) : Type 0 where
  pub fits : FitsRing old → LetsWait old new
  pub drains : (FitsRing old → ⊥) → LetsWait (with_all_served old) new

-- The same of a sync, which leaves all as it was where there is nothing to commit.
pub record SyncFrees (old new : Bookkeeping) : Type 0 where
  pub idle : old.running.weight ≡ 0 → SameFreed old new
  pub frees : 0 < old.running.weight → FreesInRing old new
