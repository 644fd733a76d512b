-- What the trace of a recording is, whole or broken off. It is described in docs/TRACE.md.
use Rattle.std.specs.Prelude.{◌≡◌, ℕ, List, ◌++◌}
use Rattle.disk_contract.specs.declared.event.Event.{Event}
use Rattle.layout_geometry.specs.Geometry.{Geometry, bitmap_blocks}
use Rattle.layout_journal.specs.Formatted.{formatted}
use Rattle.crash_stands.specs.Bounds.{bounds_of}
use Rattle.crash_stands.specs.Stands.{StandsFor}
use Rattle.cmd_trace.specs.Line.{end_line}
use Rattle.cmd_trace.specs.Contents.{Contents, AreLawful, front_of}
use Rattle.lang_tree.specs.declared.command.Cmd.{Cmd}
use Rattle.lang_tree.specs.declared.command.Reply.{Reply}
use Rattle.lang_tree.specs.Step.{Session, start}
use Rattle.lang_tree.specs.Run.{StopsAfterFault}
use Rattle.crash_argument.specs.Counts.{AreAtMost}
use Rattle.fs_session.specs.Room.{Room, IsFirstRoom}
use Rattle.fs_session.specs.DiskRoom.{RunsOn}
use Rattle.cmd_session.specs.Budget.{SpendsByMarks, budget_of}
use Rattle.cmd_session.specs.Crashes.{IsCrashConsistent}
use Rattle.cmd_session.specs.Issued.{IssuesLast}
use Rattle.lang_lines.specs.Lines.{longest, commands_of}
use Rattle.cmd_host.specs.Behaving.{Setting}
use Rattle.cmd_record.specs.Behaving.{RunsBy}

-- what the trace of a run on a disk of this geometry says
abbrev pub says : Geometry → List Event → ℕ → List Cmd → List Reply → List ℕ → Contents
says g log mounted cmds replies marks = record { geometry = g; log = log; mounted = mounted; cmds = cmds; replies = replies; marks = marks }

-- The text begins the trace of a run of these commands on a disk that was formatted with this geometry. Each command is answered in turn as the tree answers it, or refused as the room of that disk says, or for the disk or memory; and every crash, at each moment of the mount and of each command, leaves a sync point. At the mark of each reply before any fault of the disk, all that was issued stands for the last point. The writes keep within what the commands stand for, and up to each mark within what those by then stand for.
pub record Serves (g : Geometry) (cmds : List Cmd) (text : List ℕ) : Type 0 where
  -- all events of the disk, and how many of them are the mount's
  pub log : List Event
  pub mounted : ℕ
  pub replies : List Reply
  -- for each reply, how many events there were when it came
  pub marks : List ℕ
  -- the room at first, and the session and its room at the end
  pub first : Room
  pub after : Session
  pub room : Room
  pub lawful : AreLawful (says g log mounted cmds replies marks)
  pub empty : IsFirstRoom g first
  pub run : RunsOn g (start (bounds_of g)) first cmds replies after room
  pub stops : StopsAfterFault cmds replies
  pub begins : StandsFor g.n (formatted g) (start (bounds_of g)).tree
  pub consistent : IsCrashConsistent g.n (bounds_of g) (formatted g) log mounted cmds replies marks
  pub issued : IssuesLast g.n (formatted g) (start (bounds_of g)) log mounted cmds replies marks
  pub budget : AreAtMost mounted log (budget_of (bitmap_blocks g) (start (bounds_of g)) 0 cmds replies)
  pub spends : SpendsByMarks g (start (bounds_of g)) mounted log cmds replies marks
  pub is : text ≡ front_of (says g log mounted cmds replies marks)

-- what such a text says
abbrev pub contents : (g : Geometry) (cmds : List Cmd) (text : List ℕ) → Serves g cmds text → Contents
contents g cmds text s = says g s.log s.mounted cmds s.replies s.marks

-- Such a run on a disk that behaves so: the disk went by its manner, and each command by the disk's.
pub record ServesBy (set : Setting) (cmds : List Cmd) (text : List ℕ) : Type 0 where
  pub served : Serves set.shape cmds text
  pub goes : RunsBy set.shape set.manner served.log served.mounted cmds served.replies served.marks

-- In what follows, S says of a text that it begins a trace of some commands.

-- The text is the whole trace of the bytes as a script.
pub record IsTrace (S : List Cmd → List ℕ → Type 0) (seen text : List ℕ) : Type 0 where
  pub body : List ℕ
  pub served : S (commands_of longest seen) body
  pub is : text ≡ body ++ end_line

-- The text is a front of one that is P.
abbrev pub IsFront : (List ℕ → Type 0) → List ℕ → Type 0
IsFront P text = (rest : List ℕ) × P (text ++ rest)

-- The text begins the trace of the first of these commands, however many these are.
pub record BeginsFirst (S : List Cmd → List ℕ → Type 0) (cmds : List Cmd) (text : List ℕ) : Type 0 where
  pub asked : List Cmd
  pub later : List Cmd
  pub are : cmds ≡ asked ++ later
  pub rest : List ℕ
  pub served : S asked (text ++ rest)

-- The text breaks off in the trace of the bytes as a script on a disk of this geometry, and as far as it goes the disk behaves so.
pub record IsBrokenOff (set : Setting) (seen text : List ℕ) : Type 0 where
  pub front : IsFront (IsTrace (Serves set.shape) seen) text
  pub begins : BeginsFirst (ServesBy set) (commands_of longest seen) text
