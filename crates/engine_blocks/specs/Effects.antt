-- What several calls of a map of blocks have in common. It is described in docs/BLOCKS.md.
use Rattle.std.specs.Prelude.{◌≡◌, ◌⊎◌, ◌+◌, ◌<◌, ◌≤◌, ℕ, Bool, false, IsTrue, IfOk, OnOk, List, [], ◌∷◌, ◌++◌, length, take, Some, Result}
use Rattle.engine_blocks.specs.declared.refusals.SyncRefusal.{SyncRefusal}
use Rattle.base_types.specs.Counts.{next_count}
use Rattle.disk_contract.specs.Cell.{is_accepted}
use Rattle.disk_contract.specs.Disk.{PollsFirst, writes_in}
use Rattle.layout_journal.specs.declared.record.Commit.{Commit}
use Rattle.layout_journal.specs.Layout.{descriptor_count}
use Rattle.layout_journal.specs.Run.{places_from, writes_told}
use Rattle.engine_blocks.specs.Running.{fresh_blocks, payloads}
use Rattle.engine_blocks.specs.State.{Bookkeeping, State}
use Rattle.engine_blocks.specs.Calls.{sync_fails, OnNoMemory, UnlessNoMemory, UsesDisk, MovesPipeline, EndsTransaction, IsAfterSync, commit_places, commit_writes, if_changed}
use Rattle.engine_blocks.specs.Crashes.{IssuesNothing, Advances, MakesPoint, WritesAtMost}

-- The disk isn't called: no count changes, and a crash may leave what it might have left.
pub record LeavesDisk (tells : Bool) (old new : State) : Type 0 where
  pub counts : new.counts ≡ old.counts
  pub crash : IsTrue tells → IssuesNothing old new

-- nor does the bookkeeping change
pub record ChangesNothing (tells : Bool) (old new : State) : Type 0 where
  pub books : new.books ≡ old.books
  pub disk : LeavesDisk tells old new

-- One tick more was made, of the same disk. Where it is known what polls answer, the tick's events begin with the notices of at most 64 polls, up to the first that has none.
pub record Ticked (tells : Bool) (old new : State) : Type 0 where
  pub made : new.counts.ticks.made ≡ next_count old.counts.ticks.made
  pub manner : new.counts.ticks.manner ≡ old.counts.ticks.manner
  pub polled : IsTrue tells → PollsFirst old.counts.ticks.manner 64 old.counts.ticks.polls old.crash.log new.counts.ticks.polls new.crash.log

-- The ring has places for the record that a sync would write.
abbrev pub FitsRing : Bookkeeping → Type 0
FitsRing k = commit_places k ≤ k.free_places

-- What a sync would commit needs no ring place to come back: the record fits the free ones, or there is nothing.
abbrev pub OrdersAtOnce : Bookkeeping → Type 0
OrdersAtOnce k = FitsRing k ⊎ (k.running.weight ≡ 0)

-- These are the records of the ring: one for each point. There is a number from which on their places aren't free, and such places are the only ones that aren't.
pub record IsRingOf (s : State) (told : List Commit) : Type 0 where
  pub one : length told ≡ s.books.point
  pub starts : ∥ ((number : ℕ) × s.crash.records.starts s.crash.log number) ∥₁
  pub places : (number : ℕ) → s.crash.records.starts s.crash.log number → s.books.geom.j ≡ s.books.free_places + places_from number told

-- the log tells the records of the ring
abbrev pub RingIsTold : State → Type 0
RingIsTold s = (told : List Commit) → s.crash.records.told s.crash.log ≡ Some told → IsRingOf s told

-- The log tells of no other records than before.
abbrev pub TellsNone : State → State → Type 0
TellsNone old new = new.crash.records.told new.crash.log ≡ old.crash.records.told old.crash.log

-- A sync wrote a record of the transaction's payloads and fresh blocks: the log tells of it behind all others. Its writes are the last ones, those behind `begun` events: each payload in the ring, each fresh block, the descriptors and the commit block. For these the new point waits. Where the record fits the ring, nothing else comes before them.
pub record WritesRecord (old new : State) : Type 0 where
  pub begun : ℕ
  pub from : length old.crash.log ≤ begun
  pub upto : begun ≤ length new.crash.log
  pub commit : Commit
  pub payloads : commit.payloads ≡ payloads old.books.geom old.books.running
  pub fresh : commit.fresh ≡ fresh_blocks old.books.geom old.books.running
  pub descriptors : commit.descriptors ≡ descriptor_count (commit.payloads + commit.fresh)
  pub told : (before : List Commit) → old.crash.records.told old.crash.log ≡ Some before → new.crash.records.told new.crash.log ≡ Some (before ++ commit ∷ [])
  pub writes : writes_in new.crash.log ≤ writes_in (take begun new.crash.log) + writes_told commit
  pub awaits : (t : ℕ) → new.crash.awaits new.books.point t → is_accepted t (take begun new.crash.log) ≡ false
  pub fits : FitsRing old.books → begun ≡ length old.crash.log

-- A sync that is done writes its record, where there was something to commit, and else nothing.
pub record WritesItsRecord (old new : State) : Type 0 where
  pub some : 0 < old.books.running.weight → WritesRecord old new
  pub none : old.books.running.weight ≡ 0 → TellsNone old new × (writes_in new.crash.log ≡ writes_in old.crash.log)

-- The pipeline moves on, and the map stays: at each moment a crash leaves a point, no write comes that wasn't owed, and no record.
pub record RunsPipeline (tells failed : Bool) (old new : State) : Type 0 where
  pub pipeline : MovesPipeline old.books new.books
  pub disk : UsesDisk failed old new
  pub map : IsTrue tells → new.map ≡ old.map
  pub crash : IsTrue tells → Advances old new
  pub writes : IsTrue tells → WritesAtMost 0 old new
  pub told : IsTrue tells → TellsNone old new

-- The transaction ends by a sync point, if it has a weight, and the map stays. Out of memory changes nothing.
pub record Syncs (tells : Bool) (result : Result ℕ SyncRefusal) (old new : State) : Type 0 where
  pub point : IfOk result (λ p. p ≡ new.books.point)
  pub after : UnlessNoMemory result (IsAfterSync old.books new.books)
  pub ends : OnOk result (EndsTransaction old.books new.books)
  pub disk : UsesDisk (sync_fails result) old new
  pub ticks : new.counts.ticks ≡ old.counts.ticks
  pub map : IsTrue tells → new.map ≡ old.map
  pub crash : IsTrue tells → Advances old new
  pub made : IsTrue tells → MakesPoint old new
  pub writes : IsTrue tells → WritesAtMost (commit_writes old.books) old new
  pub none : OnNoMemory result (ChangesNothing tells old new)
