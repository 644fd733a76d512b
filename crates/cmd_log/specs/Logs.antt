-- What comes of a log that is kept over the image under a name: its calls and their replies, what is read and written, the marks, and what becomes of the bay and of the disk that it handed out. It is described in docs/LOG.md.
use Rattle.std.specs.Prelude.{◌≡◌, ◌⊎◌, ℕ, ◌^◌, ◌<◌, ◌≤◌, ⊤, Bool, true, false, IsTrue, List, [], ◌∷◌, ◌++◌, length, take, Option, None, Result, Ok, Err}
use Rattle.std.specs.FinMap.{get}
use Rattle.std.specs.Io.KnownBytes.{Appends, Consumes, IsAtEnd}
use Rattle.base_types.specs.Counts.{after_call, Rose}
use Rattle.base_types.specs.Seal.{Blocks}
use Rattle.base_io.specs.Prefix.{TakesPrefix}
use Rattle.disk_contract.specs.declared.bay.Mark.{Mark}
use Rattle.disk_contract.specs.declared.bay.BayFault.{BayFault}
use Rattle.disk_contract.specs.Bay.{BayState, Opens, Closes}
use Rattle.disk_contract.specs.declared.event.Event.{Event}
use Rattle.disk_contract.specs.Crash.{IsHonest}
use Rattle.disk_contract.specs.Disk.{State}
use Rattle.disk_contract.specs.Manner.{Manner, HasFailedBy}
use Rattle.layout_geometry.specs.Geometry.{Geometry}
use Rattle.lang_tree.specs.declared.command.Refusal.{Refusal}
use Rattle.lang_tree.specs.declared.command.Refusal.TheVariants as because
use Rattle.lang_tree.specs.Tree.{Tree}
use Rattle.lang_log.specs.declared.call.LogCall.{LogCall}
use Rattle.lang_log.specs.declared.call.LogReply.{LogReply}
use Rattle.lang_log.specs.declared.call.LogReply.TheVariants.{Refused}
use Rattle.lang_log.specs.History.{History, opened_with}
use Rattle.lang_log.specs.Log.{Log, IsLogOf, HasNoLog}
use Rattle.lang_log.specs.Names.{log_path}
use Rattle.crash_stands.specs.Stands.{StandsFor}
use Rattle.lang_lines.specs.Lines.{longest}
use Rattle.lang_log_lines.specs.Grammar.{calls_of, whole_calls}
use Rattle.lang_log_lines.specs.Text.{text_of_log_reply}
use Rattle.fs_log.specs.Opening.{is_of_room}
use Rattle.cmd_trace.specs.Trace.{Ascend}
use Rattle.cmd_session.specs.Images.{StandsMounted}
use Rattle.cmd_image.specs.declared.ending.Ending.{Ending}
use Rattle.cmd_image.specs.declared.ending.Ending.TheVariants.{End, SourceFault, LongInput}
use Rattle.cmd_image.specs.declared.ending.RunRefusal.{RunRefusal}
use Rattle.cmd_image.specs.declared.ending.RunRefusal.TheVariants as run
use Rattle.cmd_image.specs.Refusals.{opens_nothing, run_fails_pushing, run_refusal_of_bay}
use Rattle.cmd_image.specs.Runs.{IsUnlent, IsUnopened, Streams, mark_on}
use Rattle.cmd_image.specs.Shows.{CountsFault, FailedByManner, MayFailToOpen}
use Rattle.cmd_log.specs.Causes.{HasCauses, HasRoomCause}
use Rattle.cmd_log.specs.Serving.{LeavesAt, ServesAll}
use Rattle.cmd_log.specs.declared.refusal.LogRunRefusal.{LogRunRefusal}
use Rattle.cmd_log.specs.declared.refusal.LogRunRefusal.TheVariants.{BadLog, NoRoom, Run}

-- The answer.

-- The answer where the bay answered so to the disk's return: a fault of it counts only behind the end of the input.
abbrev pub log_answer_of : Result Ending LogRunRefusal → Result (Unit {0}) BayFault → Result Ending LogRunRefusal
log_answer_of (Err why) back = Err why
log_answer_of (Ok SourceFault) back = Ok SourceFault
log_answer_of (Ok LongInput) back = Ok LongInput
log_answer_of (Ok End) (Ok y) = Ok End
log_answer_of (Ok End) (Err fault) = Err (Run (run_refusal_of_bay fault))

-- whether a push failed
abbrev pub log_fails_pushing : Result Ending LogRunRefusal → Bool
log_fails_pushing (Ok ending) = false
log_fails_pushing (Err BadLog) = false
log_fails_pushing (Err (NoRoom why)) = false
log_fails_pushing (Err (Run why)) = run_fails_pushing (Err why)

-- a refusal for what is on the image, by which nothing was written
abbrev pub log_says_nothing : Result Ending LogRunRefusal → Bool
log_says_nothing (Ok ending) = false
log_says_nothing (Err BadLog) = true
log_says_nothing (Err (NoRoom why)) = false
log_says_nothing (Err (Run why)) = opens_nothing (Err why)

-- a refusal by which no log was opened, so that nothing was read: one for what is on the image, or for the room in it
abbrev pub log_opens_nothing : Result Ending LogRunRefusal → Bool
log_opens_nothing (Ok ending) = false
log_opens_nothing (Err BadLog) = true
log_opens_nothing (Err (NoRoom why)) = true
log_opens_nothing (Err (Run why)) = opens_nothing (Err why)

-- The input and the output.

-- the line of a reply
abbrev pub log_reply_line : LogReply → List ℕ
log_reply_line reply = text_of_log_reply reply ++ 10 ∷ []

-- the lines of replies, in order
abbrev pub log_reply_lines : List LogReply → List ℕ
log_reply_lines [] = []
log_reply_lines (reply ∷ replies) = log_reply_line reply ++ log_reply_lines replies

-- The calls are the first ones of an input that begins with these bytes: of all its bytes where it is over, and else whatever bytes come behind.
abbrev pub AreFirstCalls : Option (List ℕ) → List ℕ → List LogCall → Type 0
AreFirstCalls left seen calls =
    (IsAtEnd left × ((later : List LogCall) × (calls_of longest seen ≡ calls ++ later))) ⊎ ((rest : List ℕ) → (later : List LogCall) × (calls_of longest (seen ++ rest) ≡ calls ++ later))

-- Which calls are those of the input, by how the reading ended: all of an input that was read to its end; those of the whole lines that came before a fault of the source, or with as many bytes as an input may have; and else the first ones.
abbrev pub ReadsCalls : Result Ending LogRunRefusal → Streams → Streams → List LogCall → Type 0
ReadsCalls (Ok End) old new calls = (seen : List ℕ) × Consumes old.left new.left seen × IsAtEnd new.left × (calls ≡ calls_of longest seen)
ReadsCalls (Ok SourceFault) old new calls = (seen : List ℕ) × Consumes old.left new.left seen × Rose old.source_faults new.source_faults × (calls ≡ whole_calls longest seen)
ReadsCalls (Ok LongInput) old new calls = (seen : List ℕ) × (next : ℕ) × Consumes old.left new.left (seen ++ next ∷ []) × (length seen ≡ 2 ^ 30) × (calls ≡ whole_calls longest seen)
ReadsCalls (Err why) old new calls = (seen : List ℕ) × Consumes old.left new.left seen × AreFirstCalls new.left seen calls

-- the output took the lines of all replies, or a prefix of them
abbrev pub WritesReplies : Result Ending LogRunRefusal → Streams → Streams → List LogReply → Type 0
WritesReplies (Ok ending) old new replies = Appends old.taken new.taken (log_reply_lines replies)
WritesReplies (Err why) old new replies = TakesPrefix old.taken new.taken (log_reply_lines replies)

-- the counts of faults never fall, and that of the output rises by one where a push failed, and else stays
pub record CountsLogFaults (result : Result Ending LogRunRefusal) (old new : Streams) : Type 0 where
  pub source : old.source_faults ≤ new.source_faults
  pub rises : old.sink_faults ≤ new.sink_faults
  pub sink : new.sink_faults ≡ after_call (log_fails_pushing result) old.sink_faults

-- The marks.

-- The mark of a reply that was given at this moment: where the reply is ReadFault a failed read is counted by then, and where it is DiskFault or Stopped another call that failed.
pub record MarksReply (reply : LogReply) (at : ℕ) (mark : Mark) : Type 0 where
  pub moment : mark.moment ≡ at
  pub read_faults : reply ≡ Refused because.ReadFault → 0 < mark.read_faults
  pub faults : reply ≡ Refused because.DiskFault → 0 < mark.faults
  pub stopped : reply ≡ Refused because.Stopped → 0 < mark.faults

-- each reply has its mark, in order, from one mark to another
abbrev pub LogMarksGo : Mark → List LogReply → List ℕ → List Mark → Mark → Type 0
LogMarksGo before [] [] [] now = now ≡ before
LogMarksGo before (reply ∷ replies) (moment ∷ moments) (mark ∷ marks) now = MarksReply reply moment mark × LogMarksGo mark replies moments marks now
LogMarksGo before _ _ _ now = ⊥

-- The marks of a log: the first one is the moment at which the log was open; then comes one for each reply; and the last one is that of the disk as it is now.
pub record AreLogMarks (opened : ℕ) (replies : List LogReply) (moments : List ℕ) (marks : List Mark) (now : Mark) : Type 0 where
  pub first : Mark
  pub later : List Mark
  pub moment : first.moment ≡ opened
  pub is : marks ≡ first ∷ later
  pub go : LogMarksGo first replies moments later now

-- A refusal for the disk has its reason in the disk's manner, where these are the events by then: a read fails only where reads may, and where another call failed, at this reply or an earlier one, it was for a reason that the manner has.
abbrev pub HasLogReason : Manner → List Event → LogReply → Type 0
HasLogReason m log (Refused because.ReadFault) = m.reads_fail ≡ true
HasLogReason m log (Refused because.DiskFault) = ∥ HasFailedBy m log ∥₁
HasLogReason m log (Refused because.Stopped) = ∥ HasFailedBy m log ∥₁
HasLogReason m log _ = ⊤

-- so has each reply, by the events up to its mark
abbrev pub HaveLogReasons : Manner → List Event → List LogReply → List ℕ → Type 0
HaveLogReasons m log [] [] = Unit {0}
HaveLogReasons m log (reply ∷ replies) (moment ∷ moments) = HasLogReason m (take moment log) reply × HaveLogReasons m log replies moments
HaveLogReasons m log _ _ = ⊥

-- The disk.

-- A log was kept over a disk that can be mounted and stands for a tree: it was opened with the log of that tree, which each crash leaves until then (`opening`); each call was answered as the log answers it, or refused for a reason of the file system, and each crash leaves the log as it is at that moment or as it was since the last sync that was answered by then (`serves`); each reply has its mark; a refusal for a call of the disk that failed has its reason in the disk's manner; and each refusal of the file system is that of a command which the call asks, in a room that goes on from the mount's (`causes`).
pub record LogsDisk (first last : State) (marks : List Mark) (calls : List LogCall) (replies : List LogReply) : Type 0 where
  pub geom : Geometry
  pub tree : Tree
  pub image : StandsMounted first.blocks first.base tree
  pub shape : image.stands.held.header.geom ≡ geom
  pub size : geom.n ≡ first.blocks
  pub blocks : last.blocks ≡ first.blocks
  pub base : last.base ≡ first.base
  pub opened : Log
  pub is_log : IsLogOf tree opened
  pub begun : ℕ
  pub moments : List ℕ
  pub ascend : Ascend begun moments (length last.log)
  pub opening : (moment : ℕ) → moment ≤ begun → LeavesAt geom.n last.base last.log moment (opened_with opened) (opened_with opened)
  pub end : History
  pub serves : ServesAll geom.n last.base last.log begun (opened_with opened) calls replies moments end
  pub marked : AreLogMarks begun replies moments marks (mark_on last)
  pub manner : last.manner ≡ first.manner
  pub reasons : HaveLogReasons first.manner last.log replies moments
  pub causes : HasCauses first geom image.stands.map tree opened calls replies

-- A log was opened on the disk and asked the calls of the input, as far as it was read, and the output took the lines of its replies.
pub record IsLogRun (tells : Bool) (first last : State) (marks : List Mark) (answer : Result Ending LogRunRefusal) (before after : Streams) : Type 0 where
  pub calls : List LogCall
  pub replies : List LogReply
  pub reads : ReadsCalls answer before after calls
  pub writes : WritesReplies answer before after replies
  pub logs : IsTrue tells → LogsDisk first last marks calls replies

-- what the output took where no log was opened: the line of a refusal for the room, or a prefix of it where a push failed; and else nothing
abbrev pub SaysNoRoom : LogRunRefusal → Option (List ℕ) → Option (List ℕ) → Type 0
SaysNoRoom (NoRoom why) before after = Appends before after (log_reply_line (Refused why))
SaysNoRoom (Run run.SinkFault) before after = (why : Refusal) × (is_of_room why ≡ true) × TakesPrefix before after (log_reply_line (Refused why))
SaysNoRoom _ before after = after ≡ before

-- what a refusal to open a log says of the tree for which the disk's image stands, and of the disk as it goes back: the tree has none; or nothing is at `/log` and there is no room for a directory; or a call of the disk failed, as its manner lets it
abbrev pub RefusesLog : LogRunRefusal → Tree → State → Type 0
RefusesLog BadLog t last = HasNoLog t
RefusesLog (NoRoom why) t last = (is_of_room why ≡ true) × (get t.names log_path ≡ None)
RefusesLog (Run run.Fault) t last = ∥ FailedByManner last ∥₁
RefusesLog (Run (run.Damaged damage)) t last = ⊥
RefusesLog (Run run.Spent) t last = ⊤
RefusesLog (Run run.SinkFault) t last = ⊤
RefusesLog (Run run.NoMemory) t last = ⊤

-- The image of the disk can be mounted and stands for a tree, and each honest image of each moment stands for that tree still. Where there was no room for a log, the file system refused its directory so (`room`).
pub record StandsUnlogged (first last : State) (why : LogRunRefusal) : Type 0 where
  pub tree : Tree
  pub image : StandsMounted first.blocks first.base tree
  pub blocks : last.blocks ≡ first.blocks
  pub base : last.base ≡ first.base
  pub manner : last.manner ≡ first.manner
  pub crash : (k : ℕ) (img : Blocks) → k ≤ length last.log → IsHonest last.blocks last.base (take k last.log) img → ∥ StandsFor last.blocks img tree ∥₁
  pub says : RefusesLog why tree last
  pub room : HasRoomCause first image.stands.held.header.geom image.stands.map tree why

-- A file system was opened on the disk, and no log in it: nothing was read of the input, the output took no more than the line of a refusal for the room, no mark goes along, and the image stands for its tree still.
pub record IsUnlogged (tells : Bool) (first last : State) (marks : List Mark) (why : LogRunRefusal) (before after : Streams) : Type 0 where
  pub none : marks ≡ []
  pub left : after.left ≡ before.left
  pub source : after.source_faults ≡ before.source_faults
  pub took : SaysNoRoom why before.taken after.taken
  pub stands : IsTrue tells → StandsUnlogged first last why

-- what came of a disk that was just opened, by the answer with which it goes back
abbrev pub ComesOfLogDisk : Bool → State → State → List Mark → Result Ending LogRunRefusal → Streams → Streams → Type 0
ComesOfLogDisk tells first last marks (Ok ending) before after = IsLogRun tells first last marks (Ok ending) before after
ComesOfLogDisk tells first last marks (Err BadLog) before after = IsUnlogged tells first last marks BadLog before after
ComesOfLogDisk tells first last marks (Err (NoRoom why)) before after = IsUnlogged tells first last marks (NoRoom why) before after
ComesOfLogDisk tells first last marks (Err (Run run.Fault)) before after = IsUnopened tells first last marks run.Fault before after ⊎ IsUnlogged tells first last marks (Run run.Fault) before after
ComesOfLogDisk tells first last marks (Err (Run (run.Damaged damage))) before after = IsUnopened tells first last marks (run.Damaged damage) before after
ComesOfLogDisk tells first last marks (Err (Run run.Spent)) before after = IsUnopened tells first last marks run.Spent before after ⊎ IsUnlogged tells first last marks (Run run.Spent) before after
ComesOfLogDisk tells first last marks (Err (Run run.SinkFault)) before after =
    IsUnlogged tells first last marks (Run run.SinkFault) before after ⊎ IsLogRun tells first last marks (Err (Run run.SinkFault)) before after
ComesOfLogDisk tells first last marks (Err (Run run.NoMemory)) before after =
    IsUnopened tells first last marks run.NoMemory before after ⊎ (IsUnlogged tells first last marks (Run run.NoMemory) before after ⊎ IsLogRun tells first last marks (Err (Run run.NoMemory)) before after)

-- The bay.

-- No disk was handed out, by a fault that the bay has counted or for want of memory: nothing was read or written.
pub record LendsNoLog (tells : Bool) (result : Result Ending LogRunRefusal) (old new : BayState) (before after : Streams) : Type 0 where
  pub why : RunRefusal
  pub unlent : IsUnlent tells (Err why) old new before after
  pub answered : result ≡ Err (Run why)

-- A disk was handed out under the name, and the same disk was handed back once, with these marks; `answer` is how the log over it ended, and `back` what the bay answered to its return.
pub record LogHandsBack (tells : Bool) (name : List ℕ) (result : Result Ending LogRunRefusal) (old new : BayState) (before after : Streams) : Type 0 where
  pub first : State
  pub last : State
  pub marks : List Mark
  pub between : BayState
  pub answer : Result Ending LogRunRefusal
  pub back : Result (Unit {0}) BayFault
  pub opens : Opens tells (λ (d : State). d) name (Ok first) old between
  pub comes : ComesOfLogDisk tells first last marks answer before after
  pub closes : Closes tells name last marks back between new
  pub answered : result ≡ log_answer_of answer back

-- what comes of a log that is kept over an image: no disk was handed out, or one was, which went back
abbrev pub ComesOfLog : Bool → List ℕ → Result Ending LogRunRefusal → BayState → BayState → Streams → Streams → Type 0
ComesOfLog tells name result old new before after = LendsNoLog tells result old new before after ⊎ LogHandsBack tells name result old new before after

-- A fault is answered only where one was counted, by the bay or by the disk; it is said where the bay tells. Where the image is refused as damaged no call of the disk failed. A call of the disk that failed in a call of the log has no answer but the call's reply.
abbrev pub HasLogRunCause : Bool → Result Ending LogRunRefusal → BayState → BayState → Type 0
HasLogRunCause tells (Ok ending) old new = ⊤
HasLogRunCause tells (Err BadLog) old new = ⊤
HasLogRunCause tells (Err (NoRoom why)) old new = ⊤
HasLogRunCause tells (Err (Run run.Fault)) old new = IsTrue tells → CountsFault old new
HasLogRunCause tells (Err (Run (run.Damaged damage))) old new = new.disk_faults ≡ old.disk_faults
HasLogRunCause tells (Err (Run run.Spent)) old new = ⊤
HasLogRunCause tells (Err (Run run.SinkFault)) old new = ⊤
HasLogRunCause tells (Err (Run run.NoMemory)) old new = ⊤

-- what a fault comes of, where the bay tells: calls of the bay may fail, or nothing is under the name; or a disk was handed out under the name and handed back, and a call of it had failed as its manner lets it
abbrev pub HasLogRunReason : Bool → List ℕ → Result Ending LogRunRefusal → BayState → BayState → Streams → Streams → Type 0
HasLogRunReason tells name result old new before after = MayFailToOpen name old ⊎ ((b : LogHandsBack tells name result old new before after) × ∥ FailedByManner b.last ∥₁)
