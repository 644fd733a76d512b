-- How far a run has come over blocks on a disk, by the disk's log; and what is known of one command more. The laws of runs that go by their log speak of it.
use Rattle.std.specs.Prelude.{◌≡◌, ◌↔◌, ℕ, ◌+◌, ◌-◌, ◌<◌, ◌≤◌, Bool, false, true, slice_get, Some, List, [], ◌∷◌, ◌++◌, length, take}
use Rattle.base_types.specs.Seal.{Blocks}
use Rattle.disk_contract.specs.declared.event.Event.{Event}
use Rattle.disk_contract.specs.Cell.{has_lost}
use Rattle.disk_contract.specs.Disk.{writes_in}
use Rattle.disk_contract.specs.Lawful.{IsLawful}
use Rattle.disk_contract.specs.Manner.{Manner, HasFailedBy}
use Rattle.layout_geometry.specs.Geometry.{Geometry, IsGeometry}
use Rattle.layout_journal.specs.declared.record.Commit.{Commit}
use Rattle.crash_stands.specs.Bounds.{bounds_of}
use Rattle.crash_argument.specs.Points.{MountedSession, records_told}
use Rattle.lang_tree.specs.declared.command.Cmd.{Cmd}
use Rattle.lang_tree.specs.declared.command.Reply.{Reply}
use Rattle.lang_tree.specs.Step.{Session, session_on}
use Rattle.lang_tree.specs.Tree.{Tree}
use Rattle.engine_blocks.specs.Calls.{commit_places, commit_writes}
use Rattle.engine_blocks.specs.Crashes.{HasMapOfPoint, SameRecords, StillAwaits, WritesAtMost}
use Rattle.engine_blocks.specs.State.{State}
use Rattle.engine_store.specs.SessionView.{IsSure, records_of}
use Rattle.fs_files.specs.Calls.{places_of}
use Rattle.fs_session.specs.Applying.{Applies, PassesTime}
use Rattle.fs_session.specs.Memory.{room_of}
use Rattle.fs_session.specs.Serving.{room_on}
use Rattle.cmd_session.specs.Budget.{sync_budget, sync_places, writes_of}
use Rattle.cmd_session.specs.Histories.{session_after}
use Rattle.cmd_session.specs.Pacing.{Pace, PacesBy}
use Rattle.cmd_session.specs.Serving.{HasServed, IsDrawn}
use Rattle.cmd_session.specs.Taking.{CameIn, Span, Taken}

-- The blocks are of this mount of a disk that had such blocks when it began: by the session's numbers a point is sure, and its log since tells its records.
pub record IsOfMount (mount : MountedSession) (base : Blocks) (s : State) : Type 0 where
  pub geom : mount.geom ≡ s.books.geom
  pub late : mount.mounted ≤ length s.crash.log
  pub alike : (b : ℕ) → b < mount.geom.n → s.crash.base b ≡ base b
  pub sure : (front : List Event) (p : ℕ) → s.crash.sure front p ↔ ∥ IsSure mount base front p ∥₁
  pub records : SameRecords (records_of mount base) s.crash.records

-- the session with which a run over this mount began, in which this tree stood
abbrev pub session_at : MountedSession → Tree → Session
session_at mount t = session_on (bounds_of mount.geom) t

-- What was taken by these commands is known of the blocks. The writes since the mount, with those that are still to come for what was committed, are within the budget. While no call of the disk failed, there are as many records and spans as points, the log tells those records before any others, and a point waits only for tickets of writes that came in its span.
pub record KeepsTaken (mount : MountedSession) (m : Manner) (tree : Tree) (cmds : List Cmd) (replies : List Reply) (s : State) (t : Taken) : Type 0 where
  pub session : t.session ≡ session_after (session_at mount tree) cmds replies
  pub writes : writes_in s.crash.log + s.books.owed ≤ writes_in (take mount.mounted s.crash.log) + t.budget
  pub records : m.waits_alone ≡ true → s.books.stopped ≡ false → (length t.records ≡ s.books.point) × ((more : List Commit) × (records_told mount s.crash.log ≡ t.records ++ more))
  pub spans : s.books.stopped ≡ false → length t.spans ≡ s.books.point
  pub awaits : s.books.stopped ≡ false → (p ticket : ℕ) → s.crash.awaits p ticket → (span : Span) × (slice_get t.spans (p - 1) ≡ Some span) × (span.begun ≤ length s.crash.log) × CameIn s.crash.log span ticket

-- how far a run has come over these blocks
abbrev pub pace_of : Taken → State → Pace
pace_of t s = record { polls = s.counts.ticks.polls; events = length s.crash.log; over = s.books.stopped; durable = s.books.floor; taken = t; room = room_on s }

-- While no call of the disk failed and nothing changed since the last point, each node has in that point's map the blocks that it has in the room.
abbrev pub KeepsPlaces : Geometry → Session → State → Type 0
KeepsPlaces g f s = s.books.stopped ≡ false → f.changed ≡ false → (m : Blocks) → s.crash.is_point s.books.point m → (k : ℕ) → places_of g m k ≡ (room_of s).places k

-- These commands were answered so since a mount of a disk that began with such blocks, in which this tree stood: each did on its disk, from this pace on, what the log says, and so far have they come.
pub record GoesByLog (mount : MountedSession) (base : Blocks) (m : Manner) (first : Pace) (tree : Tree) (cmds : List Cmd) (replies : List Reply) (marks : List ℕ) (s : State) : Type 0 where
  pub limits : IsGeometry mount.geom
  pub of_mount : IsOfMount mount base s
  pub manner : s.counts.ticks.manner ≡ m
  pub begins : first.events ≡ mount.mounted
  pub taken : Taken
  pub keeps : KeepsTaken mount m tree cmds replies s taken
  pub paces : PacesBy mount base m s.crash.log first cmds replies marks (pace_of taken s)
  -- where a wait brings the notice of its own ticket alone, and while no call failed, none was counted, and no write was lost
  pub unlost : m.waits_alone ≡ true → s.books.stopped ≡ false → (s.counts.faults ≡ 0) × (has_lost s.crash.log ≡ false)
  pub placed : KeepsPlaces mount.geom taken.session s

-- What the disk says of itself: its log is a lawful one; a read has failed only where reads may, and another call for a reason that the disk's manner has; and where a wait brings the notice of its own ticket alone, each lost write was counted as a failed call. And while no call failed, `durable` isn't too low.
pub record KeepsToManner (s : State) : Type 0 where
  pub lawful : IsLawful s.crash.log
  pub reads : 0 < s.counts.read_faults → s.counts.ticks.manner.reads_fail ≡ true
  pub fails : s.books.stopped ≡ true → ∥ HasFailedBy s.counts.ticks.manner s.crash.log ∥₁
  pub unlost : s.counts.ticks.manner.waits_alone ≡ true → s.counts.faults ≡ 0 → has_lost s.crash.log ≡ false
  pub still : s.books.stopped ≡ false → s.books.floor < s.books.point → ∥ StillAwaits s (s.books.floor + 1) ∥₁

-- Blocks over which no command was answered since this mount of a disk that began so, which ended just now: no point was made and no write is owed, and the map is that of point 0.
pub record BeginsByLog (mount : MountedSession) (base : Blocks) (m : Manner) (s : State) : Type 0 where
  pub limits : IsGeometry mount.geom
  pub of_mount : IsOfMount mount base s
  pub manner : s.counts.ticks.manner ≡ m
  pub ended : mount.mounted ≡ length s.crash.log
  pub owed : s.books.owed ≡ 0
  pub point : s.books.point ≡ 0
  pub only : HasMapOfPoint s 0
  pub unlost : m.waits_alone ≡ true → (s.counts.faults ≡ 0) × (has_lost s.crash.log ≡ false)

-- the states of blocks that a command may change
module _ {S : Type 0} (tells : Bool) (state : S → State) where
  -- One command more was answered, of a run of these commands since the mount: how, and what is known of the run before and after it, of its writes, and of the disk as it is then.
  pub record AnswersOnDisk (mount : MountedSession) (tree : Tree) (cmds : List Cmd) (replies : List Reply) (marks : List ℕ) (cmd : Cmd) (reply : Reply) (old new : S) : Type 0 where
    pub applies : Applies tells state cmd reply old new
    pub time : PassesTime (state old) (state new)
    pub drawn : IsDrawn (state new)
    pub before : HasServed mount.geom tree mount.mounted cmds replies marks (state old)
    pub after : HasServed mount.geom tree mount.mounted (cmds ++ cmd ∷ []) (replies ++ reply ∷ []) (marks ++ length (state new).crash.log ∷ []) (state new)
    pub places : commit_places (state old).books ≤ sync_places (state old).books.running.weight
    pub few : commit_writes (state old).books ≤ sync_budget (state old).books.running.weight
    pub writes : WritesAtMost (writes_of cmd reply (state old).books) (state old) (state new)
    pub disk : KeepsToManner (state new)
