-- The disk of a recording: how it behaves, and what it is before and after its mount. The contracts of `begin` and `record_lines` speak of it, and private ones.
use Rattle.std.specs.Prelude.{◌≡◌, ◌⊎◌, ℕ, ◌^◌, ◌<◌, ◌≤◌, false, true, IsTrue, [], List, length, Some, None}
use Rattle.disk_contract.specs.declared.event.Event.{Event}
use Rattle.disk_contract.specs.Cell.{cell_of, has_lost}
use Rattle.disk_contract.specs.Crash.{Window}
use Rattle.disk_contract.specs.Disk as disk
use Rattle.disk_contract.specs.Disk.{writes_in}
use Rattle.disk_contract.specs.Lawful.{IsLogOf}
use Rattle.layout_geometry.specs.Geometry.{Geometry}
use Rattle.layout_journal.specs.Formatted.{formatted}
use Rattle.layout_journal.specs.declared.header.Header.{Header}
use Rattle.layout_journal.specs.Layout.{header_of}
use Rattle.layout_journal.specs.Run.{live_part}
use Rattle.disk_memory.specs.Choice.{AreBlocksOf}
use Rattle.disk_memory.specs.MemDisk.{MemDiskState, begun, by_rule, manner_by}
use Rattle.disk_contract.specs.Manner.{GoesBy}
use Rattle.crash_stands.specs.Bounds.{bounds_of}
use Rattle.crash_stands.specs.Stands.{StandsFor}
use Rattle.lang_tree.specs.Step.{start}
use Rattle.crash_argument.specs.Ledger.{HoldsUnder}
use Rattle.crash_argument.specs.Opening.{LosesOne, StopsAtOne, WritesOne}
use Rattle.crash_argument.specs.Points as points
use Rattle.engine_blocks.specs.Crashes.{HasMapOfPoint, IsBegun}
use Rattle.engine_blocks.specs.State.{State}
use Rattle.engine_store.specs.Mounting.{BeginsWith}
use Rattle.fs_session.specs.Memory.{room_of}
use Rattle.fs_session.specs.Room.{IsFirstRoom}
use Rattle.cmd_session.specs.Budget.{KeepsBudget}
use Rattle.cmd_session.specs.Crashes.{IsCrashConsistent}
use Rattle.cmd_session.specs.Going.{IsOfMount}
use Rattle.cmd_session.specs.Serving.{HasServed}
use Rattle.cmd_host.specs.Behaving.{MountFails, fails_of, rule_of, session_by, Setting}
use Rattle.cmd_host.specs.Mounts.{IsFirstHeader, MountsAtMost, MountsOnce}
use Rattle.cmd_host.specs.declared.disk.Behaviour.{Behaviour}

-- A disk in memory that has the formatted disk's blocks and behaves so. No call of it was made yet.
pub record IsFormattedDisk (g : Geometry) (b : Behaviour) (d : MemDiskState) : Type 0 where
  pub blocks : AreBlocksOf g.n (formatted g) d.base
  pub behaves : d ≡ record (begun d.base b.room) { notices = by_rule (rule_of b.notices); fails = fails_of b.fail; known = Some (rule_of b.notices) }

-- a disk of this geometry that behaves so
abbrev pub setting_on : Geometry → Behaviour → Setting
setting_on g b = record { shape = g; manner = manner_by b.room (fails_of b.fail) (rule_of b.notices) }

-- a disk that began as the formatted disk of this geometry
pub record BeganFormatted (g : Geometry) (d : disk.State) : Type 0 where
  pub size : d.blocks ≡ g.n
  pub base : (b : ℕ) → b < g.n → d.base b ≡ formatted g b

-- the same; nothing was written to it yet, it wasn't polled, no failed call was counted, and its waits bring the notice of their own ticket alone
pub record IsFormatted (g : Geometry) (d : disk.State) : Type 0 where
  pub began : BeganFormatted g d
  pub nothing : d.log ≡ []
  pub polls : d.polls ≡ 0
  pub faults : d.faults ≡ 0
  pub alone : d.manner.waits_alone ≡ true

-- nothing came; or one write, which was lost, or accepted with notices alone behind it
abbrev pub OpensAtMost : List Event → Type 0
OpensAtMost log = (log ≡ []) ⊎ (LosesOne [] log ⊎ WritesOne [] log)

-- Each honest image of each moment of such a disk's log so far holds the formatted disk's live blocks. One write came at most.
pub record HoldsRoot (g : Geometry) (d : disk.State) : Type 0 where
  pub began : BeganFormatted g d
  pub images : Window g.n d.base d.log 0 (λ img. HoldsUnder g.n g img (live_part g (formatted g)))
  pub most : OpensAtMost d.log

-- The same of a disk under a map of blocks of this geometry, which was mounted: the write was accepted.
pub record ShowsRoot (g : Geometry) (s : State) : Type 0 where
  pub geom : s.books.geom ≡ g
  pub base : (b : ℕ) → b < g.n → s.crash.base b ≡ formatted g b
  pub images : Window g.n s.crash.base s.crash.log 0 (λ img. HoldsUnder g.n g img (live_part g (formatted g)))
  pub first : WritesOne [] s.crash.log

-- Nothing is pending, and the first session's header stands in a slot. On the formatted disk no header has its epoch.
pub record StandsOpened (g : Geometry) (s : State) : Type 0 where
  pub slot : ℕ
  pub header : Header
  pub mounted : points.IsMounted (cell_of s.crash.base s.crash.log) g slot header
  pub first : IsFirstHeader g header
  pub others : (b : ℕ) (h : Header) → b < 2 → header_of g.n (formatted g b) ≡ Some h → h.epoch ≤ 1

-- A map of blocks that was mounted on such a disk: nothing was done yet, the disk wasn't polled, and it begins with those live blocks; and by the log a point is sure, and records are told.
pub record IsMounted (g : Geometry) (s : State) : Type 0 where
  pub begun : IsBegun s
  pub begins : BeginsWith g (live_part g (formatted g)) s
  pub shows : ShowsRoot g s
  pub polls : s.counts.ticks.polls ≡ 0
  pub faults : s.counts.faults ≡ 0
  pub alone : s.counts.ticks.manner.waits_alone ≡ true
  pub opened : StandsOpened g s
  pub of_mount : IsOfMount (session_by g (length s.crash.log)) (formatted g) s
  pub turns : s.books.turns ≤ 3

-- A file system that was opened on such blocks: it has answered no command, its writes so far are those of the mount, and nothing is taken.
pub record IsOpened (set : Setting) (s : State) : Type 0 where
  pub served : HasServed set.shape (start (bounds_of set.shape)).tree (length s.crash.log) [] [] [] s
  pub budget : KeepsBudget set.shape (start (bounds_of set.shape)).tree (writes_in s.crash.log) [] [] s
  pub room : IsFirstRoom set.shape (room_of s)
  pub base : (b : ℕ) → b < set.shape.n → s.crash.base b ≡ formatted set.shape b
  pub lawful : IsLogOf set.shape.n s.crash.log
  pub events : length s.crash.log < 2 ^ 64
  pub polls : s.counts.ticks.polls ≡ 0
  pub manner : s.counts.ticks.manner ≡ set.manner
  pub writes : GoesBy set.manner s.crash.log
  pub opens : IsTrue (set.manner.accepts [])
  pub faults : s.counts.faults ≡ 0
  pub alone : set.manner.waits_alone ≡ true
  pub unlost : has_lost s.crash.log ≡ false
  pub once : MountsOnce set.shape s.crash.log
  pub only : HasMapOfPoint s 0
  pub turns : s.books.turns ≤ 3
  pub owed : s.books.owed ≡ 0
  pub floor : s.books.floor ≡ 0
  pub since : (b : ℕ) → s.books.since b ≡ None
  pub of_mount : IsOfMount (session_by set.shape (length s.crash.log)) (formatted set.shape) s

-- a call of the disk has failed: some read; or just now another call, at the disk's first write
abbrev pub HasFault : disk.State → Type 0
HasFault d = (0 < d.read_faults) ⊎ (disk.HasFailed d × StopsAtOne d.manner [] d.log)

-- A disk whose mount failed: each honest image of each moment stands for the root alone, so that it is crash consistent with a run of no commands. It went by its manner.
pub record FailedToMount (set : Setting) (d : disk.State) : Type 0 where
  pub began : BeganFormatted set.shape d
  pub images : Window set.shape.n d.base d.log 0 (λ img. StandsFor set.shape.n img (start (bounds_of set.shape)).tree)
  pub consistent : IsCrashConsistent set.shape.n (bounds_of set.shape) (formatted set.shape) d.log (length d.log) [] [] []
  pub lawful : IsLogOf set.shape.n d.log
  pub events : length d.log < 2 ^ 64
  pub writes : GoesBy set.manner d.log
  pub cause : MountFails set.manner d.log
  pub most : MountsAtMost d.log
