-- A mount that replays, block by block, and the session that begins with it.
use Rattle.std.specs.Prelude.{◌≡◌, ◌⊎◌, ℕ, ◌<◌, ◌≤◌, List, [], Some}
use Rattle.base_types.specs.Seal.{Blocks}
use Rattle.disk_contract.specs.Cell.{Cell}
use Rattle.disk_contract.specs.Disk.{State}
use Rattle.layout_geometry.specs.Geometry.{Geometry, bitmap_start}
use Rattle.layout_journal.specs.declared.header.Header.{Header}
use Rattle.layout_journal.specs.Layout.{header_of}
use Rattle.layout_journal.specs.Run.{Record, replayed}
use Rattle.crash_argument.specs.Ledger.{cells_of}
use Rattle.crash_argument.specs.Points.{IsMounted, IsPoint, IsSafeOn, ledger_at_mount, session_at_mount}
use Rattle.crash_argument.specs.Replay.{IsReplaying}

-- The run is being replayed, and each block behind the journal and before `upto` is as the run leaves it. Nothing is pending, and each header in a slot is the closed one, or was found there.
pub record IsReplayedUpTo (n : ℕ) (cells : ℕ → Cell) (at : Blocks) (slot : ℕ) (h closed : Header) (run : List Record) (upto : ℕ) : Type 0 where
  pub replaying : IsReplaying n cells at slot h closed run
  pub idle : (b : ℕ) → (cells b).pending ≡ []
  pub placed : (b : ℕ) → bitmap_start h.geom ≤ b → b < upto → (cells b).settled ≡ replayed h.geom at run b
  pub headers : (s : ℕ) (k : Header) → s < 2 → header_of n (cells s).settled ≡ Some k → (k ≡ closed) ⊎ (header_of n (at s) ≡ Some k)

-- A session begins with this map as its point 0: the disk is mounted, and each honest image of each moment from this one on is of that point.
pub record HasBegun (d : State) (g : Geometry) (slot : ℕ) (h : Header) (since : ℕ) (m : Blocks) : Type 0 where
  pub mounted : IsMounted (cells_of d) g slot h
  pub safe : IsSafeOn (session_at_mount g h d.log) d (ledger_at_mount (cells_of d) g slot h) since 0
  pub point : IsPoint (session_at_mount g h d.log) d.base d.log 0 m
