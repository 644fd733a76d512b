-- One disk of a mirror over which a run was made: how its moments go along with those of the mirror, which marks go along with it, and what crashes leave of it. It is described in docs/MIRROR.md.
use Rattle.std.specs.Prelude.{◌≡◌, ◌↔◌, ℕ, ◌+◌, nat_le, nat_lt, ◌||◌, Bool, true, false, if◌then◌else◌, List, [], length, map}
use Rattle.crash_stands.specs.Bounds.{bounds_of}
use Rattle.base_types.specs.Seal.{Blocks}
use Rattle.disk_contract.specs.declared.bay.Mark.{Mark}
use Rattle.disk_contract.specs.declared.disk.Disk.{Ghosts}
use Rattle.disk_contract.specs.declared.event.Event.{Event}
use Rattle.disk_contract.specs.Bay.{has_faults}
use Rattle.disk_contract.specs.Crash.{Window}
use Rattle.disk_contract.specs.Disk.{State}
use Rattle.disk_mirror.specs.declared.entry.Side.TheVariants.{First, Second}
use Rattle.disk_mirror.specs.declared.mirror.Mirror.{Mirror}
use Rattle.disk_mirror.specs.MirrorOf.{first_end, first_is_live, order_in, second_end, second_is_live}
use Rattle.disk_mirror.specs.Times.{LeavesAtMoments, life_of, mark_on, moment_of, moment_on, times_on}
use Rattle.lang_tree.specs.declared.command.Cmd.{Cmd}
use Rattle.lang_tree.specs.declared.command.Reply.{Reply}
use Rattle.lang_tree.specs.Tree.{Bounds, Tree}
use Rattle.crash_stands.specs.Stands.{StandsFor}
use Rattle.cmd_session.specs.Crashes.{IsCrashConsistent}
use Rattle.cmd_image.specs.Runs.{RunsDisk}
use Rattle.cmd_image.specs.Shows.{StandsThroughout}

-- Moments.

-- how a disk went along with a mirror: how many events it had when each event of the mirror had come, whether it is live, and the moment of the mirror at which it went down, where it did
pub record Course : Type 0 where
  pub times : List ℕ
  pub live : Bool
  pub end : ℕ

-- the course of the first disk of a mirror, and that of the second
abbrev pub first_course : {A : Type 0} {k : Ghosts A} {B : Type 0} {l : Ghosts B} → Mirror A B k l → Course
first_course m = record { times = times_on First (order_in m).times; live = first_is_live m; end = first_end m }

abbrev pub second_course : {A : Type 0} {k : Ghosts A} {B : Type 0} {l : Ghosts B} → Mirror A B k l → Course
second_course m = record { times = times_on Second (order_in m).times; live = second_is_live m; end = second_end m }

-- the mirror's moment that stands for the disk's moment k: how many events of the mirror had come then, where the disk is down none behind its end
abbrev pub mirror_moment : Course → ℕ → ℕ
mirror_moment c k = moment_of c.live c.end k c.times

-- whether the disk was live when the mirror had its first j events
abbrev pub is_live_at : Course → ℕ → Bool
is_live_at c j = if c.live then true else nat_le j c.end

-- the moment of a disk of so many events when the mirror had its first j; where it was down by then, one behind all of its events
abbrev pub own_moment : Course → ℕ → ℕ → ℕ
own_moment c events j = if is_live_at c j then moment_on j c.times else events + 1

-- Marks.

-- the marks that go along with a disk, for these of the mirror: its own ones, or none where there was no memory for them
abbrev pub marks_along : Bool → Course → State → List Mark → List Mark
marks_along known c disk marks = if known then map (mark_on c.times (life_of c.live c.end disk)) marks else []

-- the moment that a mark tells of a disk of so many events: where a call of the disk had failed by then, one behind all of its events
abbrev pub told_moment : ℕ → Mark → ℕ
told_moment events mark = if nat_lt 0 mark.read_faults || nat_lt 0 mark.faults then events + 1 else mark.moment

-- Crashes.

-- Each disk of a mirror is crash consistent by its own moments, where these are the mirror's: its images stand for sync points, none older than the last one that was promised by then while the disk was live, and none newer than the last one that was begun by then.
abbrev pub IsConsistentAlong : Course → ℕ → Bounds → Blocks → List Event → ℕ → List Cmd → List Reply → List ℕ → Type 0
IsConsistentAlong c n limit began events mounted cmds replies moments = IsCrashConsistent n limit began events (own_moment c (length events) mounted) cmds replies (map (own_moment c (length events)) moments)

-- each honest image of each moment of the disk stands for the tree for which the disk stood as it began, and for none where it stood for none
abbrev pub StandsAlong : State → Type 0
StandsAlong d = Window d.blocks d.base d.log 0 (λ img. ∥ ((t : Tree) → StandsFor d.blocks img t ↔ StandsFor d.blocks d.base t) ∥₁)

-- What crashes leave of a disk of a mirror that is so after a run, with these marks: where commands were run over the mirror, the disk is crash consistent by its own moments; where no file system was opened, each of its images stands for the tree for which it stood as it began, or for none.
pub record LeavesOfRun (c : Course) (mirror : State) (marks : List Mark) (disk : State) : Type 0 where
  pub served : (first : State) (cmds : List Cmd) (replies : List Reply) (r : RunsDisk first mirror marks cmds replies) → mirror.blocks ≡ first.blocks
      → IsConsistentAlong c disk.blocks (bounds_of r.geom) disk.base disk.log r.mounted cmds replies r.moments
  pub unopened : StandsThroughout mirror → StandsAlong disk

-- The disk.

-- One disk of a mirror: it has as many blocks, and began with the same ones; at each of its moments, those inside a call among them, each of its honest images is one of the mirror at the moment that stands for it; and where it is down, it has counted a fault.
pub record IsSideOf (c : Course) (mirror disk : State) : Type 0 where
  pub blocks : disk.blocks ≡ mirror.blocks
  pub leaves : LeavesAtMoments mirror.blocks mirror.base mirror.log c.times c.live c.end disk.base disk.log
  pub down : c.live ≡ false → has_faults disk ≡ true

-- A disk of a mirror goes back after a run, with its own marks for those of the mirror, or with none where there was no memory for them. These tell its own moments, and crashes leave of it what `LeavesOfRun` says.
pub record GoesBack (known : Bool) (c : Course) (mirror disk : State) (marks own : List Mark) : Type 0 where
  pub side : IsSideOf c mirror disk
  pub along : own ≡ marks_along known c disk marks
  pub told : known ≡ true → map (told_moment (length disk.log)) own ≡ map (λ m. own_moment c (length disk.log) m.moment) marks
  pub points : LeavesOfRun c mirror marks disk
