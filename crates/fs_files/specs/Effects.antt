-- What the calls on files leave of a map of blocks. It is described in docs/FILES.md.
use Rattle.std.specs.Prelude.{◌≡◌, ◌⊎◌, ◌≤◌, Bool, false, IsTrue}
use Rattle.base_types.specs.Counts.{after_call}
use Rattle.engine_blocks.specs.State.{Bookkeeping, State}
use Rattle.engine_blocks.specs.Calls.{CountsReads, MovesPipeline}
use Rattle.engine_blocks.specs.Serving.{SameFreed, with_all_served}
use Rattle.engine_blocks.specs.Crashes.{IssuesNothing, Advances, WritesAtMost}

-- Blocks were read, and nothing else was done: a read that failed is counted once.
pub record LooksOnly (tells failed : Bool) (old new : State) : Type 0 where
  pub books : new.books ≡ old.books
  pub counts : CountsReads failed old.counts new.counts
  pub map : IsTrue tells → new.map ≡ old.map
  pub crash : IsTrue tells → IssuesNothing old new

-- the same blocks may be taken and the same ones wait, or all that waited may be taken
abbrev pub ServesAllOrNone : Bookkeeping → Bookkeeping → Type 0
ServesAllOrNone old new = SameFreed old new ⊎ SameFreed (with_all_served old) new

-- Blocks were read, and the pipeline may have settled, and then all that waited may be taken: a read that failed is counted once, and so is another call of the disk.
pub record LooksAndSettles (tells read_failed failed : Bool) (old new : State) : Type 0 where
  pub pipeline : MovesPipeline old.books new.books
  pub serves : failed ≡ false → ServesAllOrNone old.books new.books
  pub read_faults : new.counts.read_faults ≡ after_call read_failed old.counts.read_faults
  pub faults : new.counts.faults ≡ after_call failed old.counts.faults
  pub stopped : new.books.stopped ≡ failed
  pub waits : old.counts.waits ≤ new.counts.waits
  pub ticks : new.counts.ticks ≡ old.counts.ticks
  pub map : IsTrue tells → new.map ≡ old.map
  pub crash : IsTrue tells → Advances old new
  pub writes : IsTrue tells → WritesAtMost 0 old new
