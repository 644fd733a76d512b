-- How a run over the disk of a recording goes by its log, and by the manner of the disk. It is described in docs/TRACE.md.
use Rattle.std.specs.Prelude.{◌≡◌, ℕ, ◌^◌, ◌<◌, ◌≤◌, true, false, IsTrue, slice_get, List, [], take, Some, None}
use Rattle.disk_contract.specs.declared.event.Event.{Event}
use Rattle.disk_contract.specs.Cell.{cell_of, has_lost}
use Rattle.disk_contract.specs.Manner.{Manner, GoesBy}
use Rattle.layout_geometry.specs.Geometry.{Geometry}
use Rattle.layout_journal.specs.declared.header.Header.{Header}
use Rattle.layout_journal.specs.Formatted.{formatted}
use Rattle.crash_stands.specs.Bounds.{bounds_of}
use Rattle.engine_checkpoint.specs.Serving.{IsNewestAtRest}
use Rattle.engine_blocks.specs.State.{data_blocks}
use Rattle.lang_tree.specs.declared.command.Cmd.{Cmd}
use Rattle.lang_tree.specs.declared.command.Refusal.TheVariants.{Spent}
use Rattle.lang_tree.specs.declared.command.Reply.{Reply}
use Rattle.lang_tree.specs.declared.command.Reply.TheVariants.{Refused}
use Rattle.lang_tree.specs.Step.{start}
use Rattle.fs_session.specs.Lists.{nothing_kept}
use Rattle.fs_session.specs.Serving.{RoomOn}
use Rattle.cmd_session.specs.Pacing.{Pace, PacesBy}
use Rattle.cmd_session.specs.Taking.{nothing_taken}
use Rattle.cmd_host.specs.Behaving.{session_by}
use Rattle.cmd_host.specs.Mounts.{MountsOnce}

-- The newest header at rest after these events starts with the record of this number.
pub record StartsBy (g : Geometry) (front : List Event) (number : ℕ) : Type 0 where
  pub header : Header
  pub newest : IsNewestAtRest g.n (cell_of (formatted g) front) header
  pub is : header.start ≡ number

-- The newest header at rest after these events makes the point sure. On a disk that was formatted, the records have the numbers of their points.
pub record IsSureBy (g : Geometry) (front : List Event) (p : ℕ) : Type 0 where
  pub header : Header
  pub newest : IsNewestAtRest g.n (cell_of (formatted g) front) header
  pub upto : p ≤ header.sure

-- the room of a disk that was just formatted: each data block may be taken, and none waits
abbrev pub room_at_first : Geometry → RoomOn
room_at_first g = record { room = record { weight = 0; held = 0; takeable = data_blocks g; places = λ k. []; kept = nothing_kept }; since = λ b. None }

-- as a mount ends that brought so many events: no poll was made yet, nothing is taken, and the room is that of a formatted disk
abbrev pub pace_at_first : Geometry → ℕ → Pace
pace_at_first g mounted = record { polls = 0; events = mounted; over = false; durable = 0; taken = nothing_taken (start (bounds_of g)); room = room_at_first g }

-- A run went by the manner of its disk: so did each of its commands, and each write is accepted or lost as the manner has it. The first write, which is the mount's, may be accepted, and the mount lost none. No command is refused as spent, of so many as no input has.
pub record RunsBy (g : Geometry) (m : Manner) (log : List Event) (mounted : ℕ) (cmds : List Cmd) (replies : List Reply) (marks : List ℕ) : Type 0 where
  pub writes : GoesBy m log
  pub last : Pace
  pub paces : PacesBy (session_by g mounted) (formatted g) m log (pace_at_first g mounted) cmds replies marks last
  pub opens : IsTrue (m.accepts [])
  -- a wait brings the notice of its own ticket alone
  pub alone : m.waits_alone ≡ true
  pub mounts : has_lost (take mounted log) ≡ false
  -- the mount wrote the new session's header, waited for it, and did nothing else
  pub once : MountsOnce g (take mounted log)
  pub unspent : (i : ℕ) → i < 2 ^ 40 → slice_get replies i ≡ Some (Refused Spent) → ⊥
