-- What comes of a run over the image under a name: its commands and their replies, what is read and written, the marks, and what becomes of the bay and of the disk that it handed out. It is described in docs/RUNNING.md.
use Rattle.std.specs.Prelude.{◌≡◌, ◌⊎◌, ℕ, ◌+◌, ◌-◌, ◌*◌, ◌^◌, ◌<◌, ◌≤◌, max, ⊤, Bool, true, false, IsTrue, List, [], ◌∷◌, ◌++◌, length, take, slice_get, Option, Some, Result, Ok, Err}
use Rattle.std.specs.Io.KnownBytes.{Appends, Consumes, IsAtEnd}
use Rattle.base_types.specs.Counts.{after_call, Rose}
use Rattle.base_types.specs.Seal.{Blocks}
use Rattle.base_io.specs.Prefix.{TakesPrefix}
use Rattle.disk_contract.specs.declared.bay.Mark.{Mark}
use Rattle.disk_contract.specs.declared.bay.BayFault.{BayFault}
use Rattle.disk_contract.specs.Bay.{BayState, Opens, Closes, has_faults}
use Rattle.disk_contract.specs.declared.event.Event.{Event}
use Rattle.disk_contract.specs.Cell.{has_lost}
use Rattle.disk_contract.specs.Disk.{State, HasFailed}
use Rattle.disk_contract.specs.Manner.{Manner, HasFailedBy}
use Rattle.layout_geometry.specs.Geometry.{Geometry, bitmap_blocks}
use Rattle.crash_stands.specs.Bounds.{bounds_of}
use Rattle.engine_recover.specs.Search.{last_number}
use Rattle.engine_mount.specs.Mount.{FoundDisk, IsFoundOn, IsUsedUp}
use Rattle.lang_tree.specs.declared.command.Cmd.{Cmd}
use Rattle.lang_tree.specs.declared.command.Refusal.TheVariants as because
use Rattle.lang_tree.specs.declared.command.Reply.{Reply}
use Rattle.lang_tree.specs.declared.command.Reply.TheVariants.{Refused}
use Rattle.lang_tree.specs.Step.{Session, session_on}
use Rattle.lang_tree.specs.Tree.{Tree}
use Rattle.crash_argument.specs.Counts.{AreAtMost}
use Rattle.crash_argument.specs.Points.{MountedSession}
use Rattle.fs_files.specs.Calls.{places_of}
use Rattle.fs_session.specs.DiskRoom.{IsRoomOf, RunsOn}
use Rattle.fs_session.specs.Room.{Room, left_in}
use Rattle.fs_session.specs.Snapshots.{kept_lists}
use Rattle.cmd_session.specs.Budget.{SpendsByMarks, budget_of}
use Rattle.cmd_session.specs.Ending.{HasRun}
use Rattle.cmd_session.specs.Pacing.{Pace, PacesBy}
use Rattle.lang_script.specs.Text.{text_of_reply}
use Rattle.lang_lines.specs.Lines.{longest, commands_of, whole_commands}
use Rattle.cmd_session.specs.Images.{HasDamage, StandsForNone, StandsMounted}
use Rattle.cmd_image.specs.Shows.{CountsFault, FailedByManner, HandsOutNone, MayFailToOpen, SpendsAtMost, StandsThroughout}
use Rattle.cmd_image.specs.declared.ending.Ending.{Ending}
use Rattle.cmd_image.specs.declared.ending.Ending.TheVariants.{End, SourceFault, LongInput}
use Rattle.cmd_image.specs.declared.ending.RunRefusal.{RunRefusal}
use Rattle.cmd_image.specs.declared.ending.RunRefusal.TheVariants.{Fault, Damaged, Spent, SinkFault, NoMemory}
use Rattle.cmd_image.specs.Refusals.{is_failed, is_run_fault, is_unread, run_answer_of, run_fails_pushing}
use Rattle.cmd_image.specs.Serves.{IsMountOf, pace_at_mount}

-- The input and the output.

-- what is known of an input and of an output: the bytes that are left of the one and that the other took, and their counts of faults
pub record Streams : Type 0 where
  pub left : Option (List ℕ)
  pub source_faults : ℕ
  pub taken : Option (List ℕ)
  pub sink_faults : ℕ

-- the lines of replies, in order
abbrev pub reply_lines : List Reply → List ℕ
reply_lines [] = []
reply_lines (reply ∷ replies) = (text_of_reply reply ++ 10 ∷ []) ++ reply_lines replies

-- The commands are the first ones of an input that begins with these bytes: of all its bytes where it is over, and else whatever bytes come behind.
abbrev pub AreFirst : Option (List ℕ) → List ℕ → List Cmd → Type 0
AreFirst left seen cmds =
    (IsAtEnd left × ((later : List Cmd) × (commands_of longest seen ≡ cmds ++ later))) ⊎ ((rest : List ℕ) → (later : List Cmd) × (commands_of longest (seen ++ rest) ≡ cmds ++ later))

-- Which commands are those of the input, by how the run ended: all of an input that was read to its end; those of the whole lines that came before a fault of the source, or with as many bytes as an input may have; and else the first ones.
abbrev pub Reads : Result Ending RunRefusal → Streams → Streams → List Cmd → Type 0
Reads (Ok End) old new cmds = (seen : List ℕ) × Consumes old.left new.left seen × IsAtEnd new.left × (cmds ≡ commands_of longest seen)
Reads (Ok SourceFault) old new cmds = (seen : List ℕ) × Consumes old.left new.left seen × Rose old.source_faults new.source_faults × (cmds ≡ whole_commands longest seen)
Reads (Ok LongInput) old new cmds = (seen : List ℕ) × (next : ℕ) × Consumes old.left new.left (seen ++ next ∷ []) × (length seen ≡ 2 ^ 30) × (cmds ≡ whole_commands longest seen)
Reads (Err why) old new cmds = (seen : List ℕ) × Consumes old.left new.left seen × AreFirst new.left seen cmds

-- the output took the lines of all replies, or a prefix of them
abbrev pub Writes : Result Ending RunRefusal → Streams → Streams → List Reply → Type 0
Writes (Ok ending) old new replies = Appends old.taken new.taken (reply_lines replies)
Writes (Err why) old new replies = TakesPrefix old.taken new.taken (reply_lines replies)

-- the counts of faults never fall, and that of the output rises by one where a push failed, and else stays
pub record CountsFaults (result : Result Ending RunRefusal) (old new : Streams) : Type 0 where
  pub source : old.source_faults ≤ new.source_faults
  pub rises : old.sink_faults ≤ new.sink_faults
  pub sink : new.sink_faults ≡ after_call (run_fails_pushing result) old.sink_faults

-- The marks.

-- The mark of a reply that was given at this moment, behind the mark before it: a failed read was counted once where the reply is ReadFault, and another call that failed once where it is DiskFault; and none else was. A command is refused as stopped only behind such a call.
pub record Marks (before : Mark) (reply : Reply) (at : ℕ) (mark : Mark) : Type 0 where
  pub moment : mark.moment ≡ at
  pub read_faults : mark.read_faults ≡ after_call (is_unread reply) before.read_faults
  pub faults : mark.faults ≡ after_call (is_failed reply) before.faults
  pub stopped : reply ≡ Refused because.Stopped → 0 < before.faults

-- each reply has its mark, in order, from one mark to another
abbrev pub MarksGo : Mark → List Reply → List ℕ → List Mark → Mark → Type 0
MarksGo before [] [] [] now = now ≡ before
MarksGo before (reply ∷ replies) (moment ∷ moments) (mark ∷ marks) now = Marks before reply moment mark × MarksGo mark replies moments marks now
MarksGo before _ _ _ now = ⊥

-- the mark of a disk now
abbrev pub mark_on : State → Mark
mark_on d = record { moment = length d.log; read_faults = d.read_faults; faults = d.faults }

-- A refusal for the disk has its reason in the disk's manner, where these are the events by then: a read fails only where reads may, and another call has failed for a reason that the manner has.
pub record HasReason (m : Manner) (log : List Event) (reply : Reply) : Type 0 where
  pub reads : reply ≡ Refused because.ReadFault → m.reads_fail ≡ true
  pub fails : reply ≡ Refused because.DiskFault → ∥ HasFailedBy m log ∥₁

-- so has each reply, by the events up to its mark
abbrev pub HaveReasons : Manner → List Event → List Reply → List ℕ → Type 0
HaveReasons m log [] [] = Unit {0}
HaveReasons m log (reply ∷ replies) (moment ∷ moments) = HasReason m (take moment log) reply × HaveReasons m log replies moments
HaveReasons m log _ _ = ⊥

-- The marks of a run: the first one is the end of the mount, by which no call of the disk had failed; then comes one for each reply; and the last one is that of the disk as it is now.
pub record AreMarks (mounted : ℕ) (replies : List Reply) (moments : List ℕ) (marks : List Mark) (now : Mark) : Type 0 where
  pub later : List Mark
  pub is : marks ≡ record { moment = mounted; read_faults = 0; faults = 0 } ∷ later
  pub go : MarksGo (record { moment = mounted; read_faults = 0; faults = 0 }) replies moments later now

-- The run.

-- The room in which a session begins that was mounted with a map: nothing is weighed or held, each node has its blocks of the map, in order, snapshots keep those that they keep in the map, and as many data blocks may be taken as the tree leaves.
pub record IsRoomAtMount (g : Geometry) (map : Blocks) (f : Session) (r : Room) : Type 0 where
  pub weight : r.weight ≡ 0
  pub held : r.held ≡ 0
  pub is_room : IsRoomOf g f r
  pub places : (k : ℕ) → r.places k ≡ places_of g map k
  pub kept : (name : List ℕ) (k : ℕ) → r.kept name k ≡ kept_lists g map name k
  pub all : length r.takeable ≡ left_in g f r

-- The journal's numbers after a mount of this disk: at most two above the turn of the newest header there, or at most one above the number of the last record of its run.
pub record HasNumbers (d : State) (turns : ℕ) : Type 0 where
  pub found : FoundDisk
  pub is_found : IsFoundOn d found
  pub most : turns ≤ max (found.run.header.turn + 2) (last_number found.run.header (length found.run.records) + 1)

-- a command is refused as spent only where the numbers may be used up, which rise by at most 2^20 with each command
abbrev pub IsSpentByNumbers : ℕ → List Reply → Type 0
IsSpentByNumbers turns replies = (i : ℕ) → slice_get replies i ≡ Some (Refused because.Spent) → 2 ^ 63 - 8 ≤ turns + i * 2 ^ 20

-- Commands were run over a disk that can be mounted and stands for a tree: each was answered in turn as the tree answers it in the session's room, or refused for a reason of the disk or for want of memory, and none was done after a fault of the disk; each did on the disk what the log tells (`PacesBy`); crashes leave points, and all that was issued is the last one (`HasRun`); the writes are within the budget, up to each mark within that of the commands by then; each reply has its mark; and a refusal for a call of the disk that failed has its reason in the disk's manner.
pub record RunsDisk (first last : State) (marks : List Mark) (cmds : List Cmd) (replies : List Reply) : Type 0 where
  pub geom : Geometry
  pub tree : Tree
  pub image : StandsMounted first.blocks first.base tree
  pub shape : image.stands.held.header.geom ≡ geom
  pub base : last.base ≡ first.base
  pub mounted : ℕ
  pub moments : List ℕ
  pub run : HasRun geom tree last.base last.log mounted cmds replies moments
  pub first_room : Room
  pub begins : IsRoomAtMount geom image.stands.map (session_on (bounds_of geom) tree) first_room
  pub end : Pace
  pub rooms : RunsOn geom (session_on (bounds_of geom) tree) first_room cmds replies end.taken.session end.room.room
  pub mount : MountedSession
  pub is_mount : IsMountOf first geom mounted mount
  pub serves : PacesBy mount first.base first.manner last.log (pace_at_mount first mounted (session_on (bounds_of geom) tree) first_room) cmds replies moments end
  -- the mount loses no write
  pub mounts : first.manner.waits_alone ≡ true → has_lost (take mounted last.log) ≡ false
  pub writes : AreAtMost mounted last.log (budget_of (bitmap_blocks geom) (session_on (bounds_of geom) tree) 0 cmds replies)
  pub spends : SpendsByMarks geom (session_on (bounds_of geom) tree) mounted last.log cmds replies moments
  pub marked : AreMarks mounted replies moments marks (mark_on last)
  pub manner : last.manner ≡ first.manner
  pub reasons : HaveReasons first.manner last.log replies moments
  pub turns : ℕ
  pub numbers : HasNumbers first turns
  pub spent : IsSpentByNumbers turns replies

-- The disk.

-- Commands were run over the disk: those of the input, as far as it was read, and the output took the lines of their replies.
pub record IsRun (tells : Bool) (first last : State) (marks : List Mark) (answer : Result Ending RunRefusal) (before after : Streams) : Type 0 where
  pub cmds : List Cmd
  pub replies : List Reply
  pub blocks : last.blocks ≡ first.blocks
  pub reads : Reads answer before after cmds
  pub writes : Writes answer before after replies
  pub runs : IsTrue tells → RunsDisk first last marks cmds replies

-- what a refusal says of the image before a command was run
abbrev pub RefusesImage : RunRefusal → ℕ → Blocks → Type 0
RefusesImage Fault n at = ⊤
RefusesImage (Damaged damage) n at = HasDamage n at damage × StandsForNone n at
RefusesImage Spent n at = IsUsedUp n at
RefusesImage SinkFault n at = ⊥
RefusesImage NoMemory n at = ⊤

-- No file system was opened on the disk: nothing was read or written, no mark goes along, and a call of the disk failed exactly where that is the answer, another than a read for a reason that the disk's manner has. Each honest image of each moment stands for the tree for which its image stood, or for none.
pub record IsUnopened (tells : Bool) (first last : State) (marks : List Mark) (why : RunRefusal) (before after : Streams) : Type 0 where
  pub spends : SpendsAtMost tells first last
  pub faults : has_faults last ≡ is_run_fault why
  pub cause : IsTrue tells → 0 < last.faults → HasFailed last
  pub crash : IsTrue tells → StandsThroughout last
  pub none : marks ≡ []
  pub says : IsTrue tells → RefusesImage why first.blocks first.base
  pub same : after ≡ before

-- what came of a disk that was just opened, by the answer with which it goes back
abbrev pub ComesOfDisk : Bool → State → State → List Mark → Result Ending RunRefusal → Streams → Streams → Type 0
ComesOfDisk tells first last marks (Ok ending) before after = IsRun tells first last marks (Ok ending) before after
ComesOfDisk tells first last marks (Err Fault) before after = IsUnopened tells first last marks Fault before after
ComesOfDisk tells first last marks (Err (Damaged damage)) before after = IsUnopened tells first last marks (Damaged damage) before after
ComesOfDisk tells first last marks (Err Spent) before after = IsUnopened tells first last marks Spent before after
ComesOfDisk tells first last marks (Err SinkFault) before after = IsRun tells first last marks (Err SinkFault) before after
ComesOfDisk tells first last marks (Err NoMemory) before after = IsUnopened tells first last marks NoMemory before after ⊎ IsRun tells first last marks (Err NoMemory) before after

-- The bay.

-- No disk was handed out, by a fault that the bay has counted or for want of memory: nothing was read or written.
pub record IsUnlent (tells : Bool) (result : Result Ending RunRefusal) (old new : BayState) (before after : Streams) : Type 0 where
  pub none : HandsOutNone tells old new
  pub same : after ≡ before
  pub answer : (result ≡ Err Fault) ⊎ (result ≡ Err NoMemory)

-- A disk was handed out under the name, and the same disk was handed back once, with these marks; `answer` is how the run over it ended, and `back` what the bay answered to its return.
pub record RunHandsBack (tells : Bool) (name : List ℕ) (result : Result Ending RunRefusal) (old new : BayState) (before after : Streams) : Type 0 where
  pub first : State
  pub last : State
  pub marks : List Mark
  pub between : BayState
  pub answer : Result Ending RunRefusal
  pub back : Result (Unit {0}) BayFault
  pub opens : Opens tells (λ (d : State). d) name (Ok first) old between
  pub comes : ComesOfDisk tells first last marks answer before after
  pub closes : Closes tells name last marks back between new
  pub answered : result ≡ run_answer_of answer back

-- what comes of a run: no disk was handed out, or one was, which went back
abbrev pub ComesOf : Bool → List ℕ → Result Ending RunRefusal → BayState → BayState → Streams → Streams → Type 0
ComesOf tells name result old new before after = IsUnlent tells result old new before after ⊎ RunHandsBack tells name result old new before after

-- A fault is answered only where one was counted, by the bay or by the disk; where the image is refused no call of the disk failed. A call of the disk that failed in a command has no answer but the command's reply.
abbrev pub HasRunCause : Result Ending RunRefusal → BayState → BayState → Type 0
HasRunCause (Ok ending) old new = ⊤
HasRunCause (Err Fault) old new = CountsFault old new
HasRunCause (Err (Damaged damage)) old new = new.disk_faults ≡ old.disk_faults
HasRunCause (Err Spent) old new = new.disk_faults ≡ old.disk_faults
HasRunCause (Err SinkFault) old new = ⊤
HasRunCause (Err NoMemory) old new = ⊤

-- what a fault comes of, where the bay tells: calls of the bay may fail, or nothing is under the name; or a disk was handed out under the name and handed back, and a call of it had failed as its manner lets it
abbrev pub HasRunReason : Bool → List ℕ → Result Ending RunRefusal → BayState → BayState → Streams → Streams → Type 0
HasRunReason tells name result old new before after = MayFailToOpen name old ⊎ ((b : RunHandsBack tells name result old new before after) × FailedByManner b.last)
