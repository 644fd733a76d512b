-- How far a run has come over a mounted store, and what one command adds. Only private contracts speak of it.
use Rattle.std.specs.Prelude.{◌≡◌, ℕ, ◌+◌, ◌*◌, ◌^◌, ◌<◌, ◌≤◌, true, false, Bool, IsTrue, List, [], ◌∷◌, ◌++◌, length, take, Option, Some, None, ⊤, Result, Ok, Err}
use Rattle.std.specs.Io.KnownBytes.{Appends, Consumes}
use Rattle.base_io.specs.Prefix.{TakesPrefix}
use Rattle.disk_contract.specs.declared.bay.Mark.{Mark}
use Rattle.disk_contract.specs.Cell.{has_lost}
use Rattle.disk_contract.specs.Disk as disk
use Rattle.disk_contract.specs.Disk.{writes_in}
use Rattle.layout_geometry.specs.Geometry.{Geometry}
use Rattle.lang_tree.specs.declared.command.Cmd.{Cmd}
use Rattle.lang_tree.specs.declared.command.Reply.{Reply}
use Rattle.lang_tree.specs.Step.{session_on}
use Rattle.lang_tree.specs.Tree.{Tree}
use Rattle.crash_stands.specs.Bounds.{bounds_of}
use Rattle.crash_argument.specs.Points.{MountedSession}
use Rattle.engine_blocks.specs.State.{State}
use Rattle.fs_session.specs.Room.{Room}
use Rattle.cmd_session.specs.Budget.{KeepsBudget, SpendsByMarks}
use Rattle.cmd_session.specs.Going.{GoesByLog}
use Rattle.cmd_session.specs.Serving.{HasServed}
use Rattle.engine_store.specs.Mounting.{BeginsWith, GoesOnFrom}
use Rattle.lang_script.specs.Text.{text_of_reply}
use Rattle.lang_lines.specs.Reading.{HasGiven, KnowsEnd, ReaderState}
use Rattle.cmd_session.specs.Images.{StandsMounted}
use Rattle.cmd_image.specs.Mounted.{IsMountedOn}
use Rattle.cmd_image.specs.declared.ending.Ending.{Ending}
use Rattle.cmd_image.specs.declared.ending.RunRefusal.{RunRefusal}
use Rattle.cmd_image.specs.declared.ending.RunRefusal.TheVariants.{SinkFault, NoMemory}
use Rattle.cmd_image.specs.declared.running.Stop.{Stop}
use Rattle.cmd_image.specs.declared.running.Stop.TheVariants as stop
use Rattle.cmd_image.specs.Runs.{AreMarks, HaveReasons, HasNumbers, IsRoomAtMount, IsSpentByNumbers, Reads, Streams, Writes, reply_lines}
use Rattle.cmd_image.specs.Serves.{IsMountOf, pace_at_mount}

-- the refusal for a stop
abbrev pub of_stop : Stop → RunRefusal
of_stop stop.NoMemory = NoMemory
of_stop stop.SinkFault = SinkFault

-- the answer of a run that ended so
abbrev pub answer_for : Result Ending Stop → Result Ending RunRefusal
answer_for (Ok ending) = Ok ending
answer_for (Err why) = Err (of_stop why)

-- whether a push failed
abbrev pub stops_pushing : {T : Type 0} → Result T Stop → Bool
stops_pushing (Ok x) = false
stops_pushing (Err stop.NoMemory) = false
stops_pushing (Err stop.SinkFault) = true

-- the mark of the disk under blocks
abbrev pub mark_in : State → Mark
mark_in s = record { moment = length s.crash.log; read_faults = s.counts.read_faults; faults = s.counts.faults }

-- the line of a reply
abbrev pub reply_line : Reply → List ℕ
reply_line reply = text_of_reply reply ++ 10 ∷ []

-- A store that was mounted on such a disk just now.
pub record IsJustMounted (tells : Bool) (first : disk.State) (s : State) : Type 0 where
  pub on : IsMountedOn tells false first s
  pub begins : IsTrue tells → BeginsWith s.books.geom s.map s
  pub numbers : IsTrue tells → GoesOnFrom first s

-- these moments are among so many events
abbrev pub AreWithin : ℕ → List ℕ → Type 0
AreWithin n [] = Unit {0}
AreWithin n (moment ∷ moments) = (moment ≤ n) × AreWithin n moments

-- These commands were answered with these replies, with these marks, since a disk was mounted that began so; and so much is known of the blocks now.
pub record KnownSoFar (first : disk.State) (cmds : List Cmd) (replies : List Reply) (marks : List Mark) (s : State) : Type 0 where
  pub geom : Geometry
  pub tree : Tree
  pub image : StandsMounted first.blocks first.base tree
  pub shape : image.stands.held.header.geom ≡ geom
  pub base : s.crash.base ≡ first.base
  pub mounted : ℕ
  pub moments : List ℕ
  pub served : HasServed geom tree mounted cmds replies moments s
  pub first_room : Room
  pub begins : IsRoomAtMount geom image.stands.map (session_on (bounds_of geom) tree) first_room
  pub mount : MountedSession
  pub is_mount : IsMountOf first geom mounted mount
  pub goes : GoesByLog mount first.base first.manner (pace_at_mount first mounted (session_on (bounds_of geom) tree) first_room) tree cmds replies moments s
  pub mounts : first.manner.waits_alone ≡ true → has_lost (take mounted s.crash.log) ≡ false
  -- no write was owed as the mount ended
  pub budget : KeepsBudget geom tree (writes_in (take mounted s.crash.log)) cmds replies s
  pub spends : SpendsByMarks geom (session_on (bounds_of geom) tree) mounted s.crash.log cmds replies moments
  pub within : mounted ≤ length s.crash.log
  pub marked : AreMarks mounted replies moments marks (mark_in s)
  pub manner : s.counts.ticks.manner ≡ first.manner
  pub among : AreWithin (length s.crash.log) moments
  pub reasons : HaveReasons first.manner s.crash.log replies moments
  pub over : s.books.stopped ≡ true → 0 < s.counts.faults
  pub turns : ℕ
  pub numbers : HasNumbers first turns
  pub rises : s.books.turns ≤ turns + length replies * 2 ^ 20
  pub spent : IsSpentByNumbers turns replies

-- the same where the disk tells; it has as many blocks as it had in any case
pub record SoFar (tells : Bool) (first : disk.State) (cmds : List Cmd) (replies : List Reply) (marks : List Mark) (s : State) : Type 0 where
  pub blocks : s.books.geom.n ≡ first.blocks
  pub known : IsTrue tells → KnownSoFar first cmds replies marks s

-- One command was answered so, whatever came before it.
abbrev pub AnswersNext : Bool → Cmd → Reply → List Mark → State → List Mark → State → Type 0
AnswersNext tells cmd reply marks s marks_now s_now =
    (first : disk.State) (cmds : List Cmd) (replies : List Reply) → SoFar tells first cmds replies marks s → SoFar tells first (cmds ++ cmd ∷ []) (replies ++ reply ∷ []) marks_now s_now

-- A command was answered, and the output took the line of its reply.
pub record ServesNext (tells : Bool) (cmd : Cmd) (marks : List Mark) (s : State) (marks_now : List Mark) (s_now : State) (taken taken_now : Option (List ℕ)) : Type 0 where
  pub reply : Reply
  pub answers : AnswersNext tells cmd reply marks s marks_now s_now
  pub took : Appends taken taken_now (reply_line reply)

-- A command was answered, and the output took a prefix of the line of its reply.
pub record BreaksOff (tells : Bool) (cmd : Cmd) (marks : List Mark) (s : State) (marks_now : List Mark) (s_now : State) (taken taken_now : Option (List ℕ)) : Type 0 where
  pub reply : Reply
  pub answers : AnswersNext tells cmd reply marks s marks_now s_now
  pub took : TakesPrefix taken taken_now (reply_line reply)

-- No command was answered, and the output took nothing.
pub record RestsNow (tells : Bool) (marks : List Mark) (s : State) (marks_now : List Mark) (s_now : State) (taken taken_now : Option (List ℕ)) : Type 0 where
  pub still : (first : disk.State) (cmds : List Cmd) (replies : List Reply) → SoFar tells first cmds replies marks s → SoFar tells first cmds replies marks_now s_now
  pub took : Appends taken taken_now []

-- The commands that the reader has given were answered, and the output took the lines of their replies.
pub record AtCommand (tells : Bool) (first : disk.State) (marks : List Mark) (s : State) (r : ReaderState) (before now : Streams) : Type 0 where
  pub seen : List ℕ
  pub cmds : List Cmd
  pub replies : List Reply
  pub so_far : SoFar tells first cmds replies marks s
  pub given : HasGiven seen cmds r
  pub read : Consumes before.left now.left seen
  pub ends : KnowsEnd r now.left
  pub took : Appends before.taken now.taken (reply_lines replies)

-- So far the run has come as it ends.
pub record RunsTo (tells : Bool) (first : disk.State) (marks : List Mark) (s : State) (answer : Result Ending RunRefusal) (before after : Streams) : Type 0 where
  pub cmds : List Cmd
  pub replies : List Reply
  pub so_far : SoFar tells first cmds replies marks s
  pub reads : Reads answer before after cmds
  pub writes : Writes answer before after replies

-- what comes of one turn: a command was answered, or the run ends
abbrev pub Turns : Bool → disk.State → List Mark → State → ReaderState → Result (Option Ending) Stop → Streams → Streams → Type 0
Turns tells first marks s r (Ok None) before now = AtCommand tells first marks s r before now
Turns tells first marks s r (Ok (Some ending)) before now = RunsTo tells first marks s (Ok ending) before now
Turns tells first marks s r (Err why) before now = RunsTo tells first marks s (Err (of_stop why)) before now

-- what must hold where a command was answered
abbrev pub OnNext : Result (Option Ending) Stop → Type 0 → Type 0
OnNext (Ok None) P = P
OnNext (Ok (Some ending)) P = ⊤
OnNext (Err why) P = ⊤

-- the reader has given one command more
pub record GivesOne (seen : List ℕ) (cmds : List Cmd) (r : ReaderState) : Type 0 where
  pub more : List ℕ
  pub cmd : Cmd
  pub given : HasGiven (seen ++ more) (cmds ++ cmd ∷ []) r
