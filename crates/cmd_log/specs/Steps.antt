-- How far a log has come over a mounted store, and what one call adds. Only private contracts speak of it.
use Rattle.std.specs.Prelude.{◌≡◌, ◌⊎◌, ℕ, ◌<◌, ◌≤◌, Bool, true, false, if◌then◌else◌, IsTrue, List, [], ◌∷◌, ◌++◌, length, Option, Some, None, ⊤, Result, Ok, Err}
use Rattle.std.specs.Io.KnownBytes.{Appends, Consumes}
use Rattle.base_io.specs.Prefix.{TakesPrefix}
use Rattle.disk_contract.specs.declared.bay.Mark.{Mark}
use Rattle.disk_contract.specs.Disk as disk
use Rattle.disk_contract.specs.Manner.{HasFailedBy}
use Rattle.lang_tree.specs.declared.command.Refusal.{Refusal}
use Rattle.lang_tree.specs.declared.command.Refusal.TheVariants as because
use Rattle.lang_tree.specs.Tree.{Tree}
use Rattle.lang_log.specs.declared.call.LogCall.{LogCall}
use Rattle.lang_log.specs.declared.call.LogReply.{LogReply}
use Rattle.lang_log.specs.declared.call.LogReply.TheVariants.{Refused}
use Rattle.lang_log.specs.Log.{Log, IsLogOf}
use Rattle.lang_log_lines.specs.Reading.{HasGivenCalls}
use Rattle.lang_lines.specs.Reading.{KnowsEnd, ReaderState}
use Rattle.layout_geometry.specs.Geometry.{Geometry}
use Rattle.engine_blocks.specs.State.{State}
use Rattle.fs_session.specs.Memory.{room_of}
use Rattle.fs_session.specs.Sessions.{IsSession}
use Rattle.fs_log.specs.Keeping.{Keeps}
use Rattle.fs_log.specs.declared.refusal.OpenRefusal.{OpenRefusal}
use Rattle.fs_log.specs.declared.refusal.OpenRefusal.TheVariants as open_by
use Rattle.cmd_session.specs.Images.{StandsMounted}
use Rattle.cmd_session.specs.Serving.{HasServed}
use Rattle.cmd_image.specs.declared.ending.Ending.{Ending}
use Rattle.cmd_image.specs.declared.ending.RunRefusal.{RunRefusal}
use Rattle.cmd_image.specs.declared.ending.RunRefusal.TheVariants as run
use Rattle.cmd_image.specs.declared.running.Stop.{Stop}
use Rattle.cmd_image.specs.declared.running.Stop.TheVariants as stop
use Rattle.cmd_image.specs.Runs.{Streams}
use Rattle.cmd_image.specs.Steps.{AreWithin, mark_in}
use Rattle.cmd_log.specs.Causes.{HasCauses, IsAtMount, Situation}
use Rattle.cmd_log.specs.Logs.{AreLogMarks, HaveLogReasons, ReadsCalls, SaysNoRoom, WritesReplies, log_reply_line, log_reply_lines}
use Rattle.cmd_log.specs.Serving.{HasLogged}
use Rattle.cmd_log.specs.declared.refusal.LogRunRefusal.{LogRunRefusal}
use Rattle.cmd_log.specs.declared.refusal.LogRunRefusal.TheVariants.{BadLog, NoRoom, Run}

-- The refusals.

-- the refusal for a call of the disk, where one failed that was counted
abbrev pub if_counted : Bool → RunRefusal
if_counted counted = if counted then run.Fault else run.NoMemory

-- the refusal where the file system refuses so to open a log, over a disk that has counted a call that failed, or none
abbrev pub log_refusal_of_fs : Bool → Refusal → LogRunRefusal
log_refusal_of_fs counted because.NoNode = NoRoom because.NoNode
log_refusal_of_fs counted (because.Full need left) = NoRoom (because.Full need left)
log_refusal_of_fs counted (because.Scattered runs) = NoRoom (because.Scattered runs)
log_refusal_of_fs counted because.Spent = Run run.Spent
log_refusal_of_fs counted because.NoMemory = Run run.NoMemory
log_refusal_of_fs counted _ = Run (if_counted counted)

-- the refusal where the opening of a log is refused so
abbrev pub log_refusal_of : Bool → OpenRefusal → LogRunRefusal
log_refusal_of counted (open_by.Fs why) = log_refusal_of_fs counted why
log_refusal_of counted open_by.BadLog = BadLog

-- the refusal for a stop
abbrev pub of_stop : Stop → LogRunRefusal
of_stop stop.NoMemory = Run run.NoMemory
of_stop stop.SinkFault = Run run.SinkFault

-- the answer of a log that ended so
abbrev pub answer_for : Result Ending Stop → Result Ending LogRunRefusal
answer_for (Ok ending) = Ok ending
answer_for (Err why) = Err (of_stop why)

-- Where a log wasn't opened for this reason, the answer is it, and the output took the line of a refusal for the room; or that line stopped.
abbrev pub Said : LogRunRefusal → LogRunRefusal → Option (List ℕ) → Option (List ℕ) → Type 0
Said why result before after =
    ((result ≡ why) × SaysNoRoom why before after)
    ⊎ ((refusal : Refusal) × (why ≡ NoRoom refusal)
    × (((result ≡ Run run.NoMemory) × (after ≡ before)) ⊎ ((result ≡ Run run.SinkFault) × TakesPrefix before after (log_reply_line (Refused refusal)))))

-- The store.

-- The file system over these blocks has come to this.
pub record IsAt (s : State) (at : Situation) : Type 0 where
  pub session : IsSession s at.session
  pub room : at.room ≡ room_of s
  pub numbers : s.books.turns ≤ at.numbers

-- The disk under the blocks keeps to its manner: a read has failed only where reads may, and where the blocks have stopped, another call failed last, for a reason that the manner has.
pub record KeepsToManner (s : State) : Type 0 where
  pub reads : 0 < s.counts.read_faults → s.counts.ticks.manner.reads_fail ≡ true
  pub fails : s.books.stopped ≡ true → ∥ HasFailedBy s.counts.ticks.manner s.crash.log ∥₁

-- A file system was opened on such a disk just now: the image stands for a tree, and a run of no command begins.
pub record KnownOpened (first : disk.State) (s : State) : Type 0 where
  pub tree : Tree
  pub image : StandsMounted first.blocks first.base tree
  pub shape : image.stands.held.header.geom ≡ s.books.geom
  pub blocks : s.books.geom.n ≡ first.blocks
  pub base : s.crash.base ≡ first.base
  pub manner : s.counts.ticks.manner ≡ first.manner
  pub weight : s.books.running.weight ≡ 0
  pub going : s.books.stopped ≡ false
  pub served : HasServed s.books.geom tree (length s.crash.log) [] [] [] s
  pub mounted : Situation
  pub at_mount : IsAtMount first s.books.geom image.stands.map tree mounted
  pub at : IsAt s mounted
  pub over : s.books.stopped ≡ true → 0 < s.counts.faults

-- the same where the disk tells
abbrev pub IsJustOpened : Bool → disk.State → State → Type 0
IsJustOpened tells first s = IsTrue tells → KnownOpened first s

-- These calls were answered with these replies, with these marks, since a log was opened on a disk that began so; and so much is known of the blocks now.
pub record KnownSoFar (first : disk.State) (calls : List LogCall) (replies : List LogReply) (marks : List Mark) (s : State) : Type 0 where
  pub geom : Geometry
  pub tree : Tree
  pub image : StandsMounted first.blocks first.base tree
  pub shape : image.stands.held.header.geom ≡ geom
  pub blocks : geom.n ≡ first.blocks
  pub base : s.crash.base ≡ first.base
  pub opened : Log
  pub is_log : IsLogOf tree opened
  pub begun : ℕ
  pub moments : List ℕ
  pub logged : HasLogged geom begun opened calls replies moments s
  pub marked : AreLogMarks begun replies moments marks (mark_in s)
  pub manner : s.counts.ticks.manner ≡ first.manner
  pub among : AreWithin (length s.crash.log) moments
  pub reasons : HaveLogReasons first.manner s.crash.log replies moments
  pub causes : HasCauses first geom image.stands.map tree opened calls replies
  pub at : IsAt s causes.end
  pub keeps : Keeps causes.last s
  pub over : s.books.stopped ≡ true → 0 < s.counts.faults

-- the same where the disk tells
abbrev pub SoFar : Bool → disk.State → List LogCall → List LogReply → List Mark → State → Type 0
SoFar tells first calls replies marks s = IsTrue tells → KnownSoFar first calls replies marks s

-- One call was answered so, whatever came before it.
abbrev pub AnswersNext : Bool → LogCall → LogReply → List Mark → State → List Mark → State → Type 0
AnswersNext tells call reply marks s marks_now s_now =
    (first : disk.State) (calls : List LogCall) (replies : List LogReply) → SoFar tells first calls replies marks s → SoFar tells first (calls ++ call ∷ []) (replies ++ reply ∷ []) marks_now s_now

-- A call was answered, and the output took the line of its reply.
pub record ServesNext (tells : Bool) (call : LogCall) (marks : List Mark) (s : State) (marks_now : List Mark) (s_now : State) (taken taken_now : Option (List ℕ)) : Type 0 where
  pub reply : LogReply
  pub answers : AnswersNext tells call reply marks s marks_now s_now
  pub took : Appends taken taken_now (log_reply_line reply)

-- A call was answered, and the output took a prefix of the line of its reply.
pub record BreaksOff (tells : Bool) (call : LogCall) (marks : List Mark) (s : State) (marks_now : List Mark) (s_now : State) (taken taken_now : Option (List ℕ)) : Type 0 where
  pub reply : LogReply
  pub answers : AnswersNext tells call reply marks s marks_now s_now
  pub took : TakesPrefix taken taken_now (log_reply_line reply)

-- No call was answered, and the output took nothing.
pub record RestsNow (tells : Bool) (marks : List Mark) (s : State) (marks_now : List Mark) (s_now : State) (taken taken_now : Option (List ℕ)) : Type 0 where
  pub still : (first : disk.State) (calls : List LogCall) (replies : List LogReply) → SoFar tells first calls replies marks s → SoFar tells first calls replies marks_now s_now
  pub took : Appends taken taken_now []

-- The calls that the reader has given were answered, and the output took the lines of their replies.
pub record AtCall (tells : Bool) (first : disk.State) (marks : List Mark) (s : State) (r : ReaderState) (before now : Streams) : Type 0 where
  pub seen : List ℕ
  pub calls : List LogCall
  pub replies : List LogReply
  pub so_far : SoFar tells first calls replies marks s
  pub given : HasGivenCalls seen calls r
  pub read : Consumes before.left now.left seen
  pub ends : KnowsEnd r now.left
  pub took : Appends before.taken now.taken (log_reply_lines replies)

-- So far the log has come as it ends.
pub record RunsTo (tells : Bool) (first : disk.State) (marks : List Mark) (s : State) (answer : Result Ending LogRunRefusal) (before after : Streams) : Type 0 where
  pub calls : List LogCall
  pub replies : List LogReply
  pub so_far : SoFar tells first calls replies marks s
  pub reads : ReadsCalls answer before after calls
  pub writes : WritesReplies answer before after replies

-- what comes of one turn: a call was answered, or the log ends
abbrev pub Turns : Bool → disk.State → List Mark → State → ReaderState → Result (Option Ending) Stop → Streams → Streams → Type 0
Turns tells first marks s r (Ok None) before now = AtCall tells first marks s r before now
Turns tells first marks s r (Ok (Some ending)) before now = RunsTo tells first marks s (Ok ending) before now
Turns tells first marks s r (Err why) before now = RunsTo tells first marks s (Err (of_stop why)) before now

-- what must hold where a call was answered
abbrev pub OnNext : Result (Option Ending) Stop → Type 0 → Type 0
OnNext (Ok None) P = P
OnNext (Ok (Some ending)) P = ⊤
OnNext (Err why) P = ⊤

-- the reader has given one call more
pub record GivesOne (seen : List ℕ) (calls : List LogCall) (r : ReaderState) : Type 0 where
  pub more : List ℕ
  pub call : LogCall
  pub given : HasGivenCalls (seen ++ more) (calls ++ call ∷ []) r
