-- The listing of a file system on a disk in memory that fails no read, kept as a text.
use Rattle.std.specs.Prelude.{◌≡◌, ℕ, false, List}
use Rattle.engine_blocks.specs.State.{State}

-- a sink that keeps what it takes as a text: the text, and how many pushes failed
pub record TextState : Type 0 where
  pub text : List ℕ
  pub faults : ℕ

-- no read of its disk fails
abbrev pub IsReadable : State → Type 0
IsReadable s = s.counts.ticks.manner.reads_fail ≡ false
