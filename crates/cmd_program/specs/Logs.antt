-- What an image keeps as the log of an application: that there is none, or no room for one, and what a run over one leaves that ended as it should. It is described in docs/LOG.md.
use Rattle.std.specs.Prelude.{◌≡◌, ℕ, ◌≤◌, ⊤, true, List, ◌∷◌, ◌++◌, length, map, take, Option, None, Some}
use Rattle.std.specs.FinMap.{get}
use Rattle.std.specs.Io.KnownBytes.{Appends, Consumes, IsAtEnd}
use Rattle.base_types.specs.Seal.{Blocks, blocks_of}
use Rattle.disk_contract.specs.declared.bay.Mark.{Mark}
use Rattle.disk_contract.specs.declared.event.Event.{Event}
use Rattle.disk_contract.specs.Bay.{Kept}
use Rattle.disk_contract.specs.Crash.{IsHonest}
use Rattle.lang_tree.specs.declared.command.Refusal.{Refusal}
use Rattle.lang_tree.specs.Tree.{Tree}
use Rattle.lang_log.specs.declared.call.LogCall.{LogCall}
use Rattle.lang_log.specs.declared.call.LogReply.{LogReply}
use Rattle.lang_log.specs.declared.call.LogReply.TheVariants.{Refused}
use Rattle.lang_log.specs.History.{History, opened_with}
use Rattle.lang_log.specs.Log.{HasNoLog, IsLogOf, Log}
use Rattle.lang_log.specs.Names.{log_path}
use Rattle.lang_lines.specs.Lines.{longest}
use Rattle.lang_log_lines.specs.Grammar.{calls_of}
use Rattle.crash_stands.specs.Stands.{StandsFor}
use Rattle.cmd_trace.specs.Trace.{Ascend}
use Rattle.cmd_log.specs.Moments.{StandsForRun, answered_by, appends_by}
use Rattle.cmd_log.specs.Serving.{LeavesAt, ServesAll}
use Rattle.fs_log.specs.Opening.{is_of_room}
use Rattle.cmd_log.specs.Logs.{log_reply_line, log_reply_lines}
use Rattle.cmd_program.specs.Endings.{Met, room_line}
use Rattle.cmd_program.specs.declared.status.Status.{Status}
use Rattle.cmd_program.specs.declared.status.Status.TheVariants.{BadLog, DiskFault, NoMemory, SinkFault, Spent}

-- The image stands for a tree that has no log.
pub record KeepsNoLog (n : ℕ) (img : Blocks) : Type 0 where
  pub tree : Tree
  pub stands : StandsFor n img tree
  pub none : HasNoLog tree

-- how a log may end whose image has none: that is said; or a call failed, the journal's numbers are used up, or memory ran out
abbrev pub EndsWithoutLog : Status → Type 0
EndsWithoutLog BadLog = ⊤
EndsWithoutLog NoMemory = ⊤
EndsWithoutLog DiskFault = ⊤
EndsWithoutLog SinkFault = ⊤
EndsWithoutLog Spent = ⊤
EndsWithoutLog _ = ⊥

-- The image stands for a tree that has nothing at `/log`, and the output took the line of a refusal for the room, and then that of the status.
pub record LacksRoom (before now : Option (List ℕ)) (n : ℕ) (img : Blocks) : Type 0 where
  pub tree : Tree
  pub stands : StandsFor n img tree
  pub none : get tree.names log_path ≡ None
  pub why : Refusal
  pub room : is_of_room why ≡ true
  pub wrote : Appends before now (log_reply_line (Refused why) ++ room_line)

-- A log that was opened as this one was asked these calls on a disk, with these replies, and crashes of the disk leave former logs by its own marks: the first one tells when the log was open, and then there is one for each reply. Until the log was open each crash leaves it as it was opened, and from then on as it is at that moment, or as it was since the last sync that was answered by then.
pub record LeavesByMarks (n : ℕ) (opened : Log) (calls : List LogCall) (replies : List LogReply) (base : Blocks) (log : List Event) (marks : List Mark) : Type 0 where
  pub begun : ℕ
  pub moments : List ℕ
  pub told : map (λ (m : Mark). m.moment) marks ≡ begun ∷ moments
  pub ascend : Ascend begun moments (length log)
  pub opening : (moment : ℕ) → moment ≤ begun → LeavesAt n base log moment (opened_with opened) (opened_with opened)
  pub end : History
  pub serves : ServesAll n base log begun (opened_with opened) calls replies moments end
  -- so each honest image of each moment has a run of the appends, with all that the last sync by then had, but what was trimmed
  pub runs : (moment : ℕ) (img : Blocks) → moment ≤ length log → IsHonest n base (take moment log) img → ∥ StandsForRun n img (appends_by opened calls replies (answered_by moment moments)) ∥₁

-- The image under a name stood for a tree with a log. The calls of the whole input were answered by it, and the output took the lines of their replies; and now there is what a disk left that began with the image, whose crashes leave former logs.
pub record LeavesLogs (image : List ℕ) (m : Met) : Type 0 where
  pub old : Kept
  pub is_old : m.bay.kept image ≡ Some old
  pub tree : Tree
  pub stands : StandsFor (length old.image) (blocks_of old.image) tree
  pub opened : Log
  pub is_log : IsLogOf tree opened
  pub seen : List ℕ
  pub read : Consumes m.left m.left_now seen
  pub all : IsAtEnd m.left_now
  pub replies : List LogReply
  pub wrote : Appends m.taken m.taken_now (log_reply_lines replies)
  pub new : Kept
  pub is_new : m.bay_now.kept image ≡ Some new
  pub began : new.base ≡ blocks_of old.image
  pub leaves : LeavesByMarks (length old.image) opened (calls_of longest seen) replies new.base new.log new.marks
