-- Why single calls of a log are refused: by which commands of the file system, each answered in the room of a session, which goes on from call to call, from the mount on. It is described in docs/LOG.md.
use Rattle.std.specs.Prelude.{◌≡◌, ◌⊎◌, ⊤, ℕ, ◌+◌, ◌*◌, ◌^◌, ◌<◌, false, List, [], ◌∷◌, ◌++◌, length, map}
use Rattle.std.specs.List.{AllByRecursion}
use Rattle.base_types.specs.Seal.{Blocks}
use Rattle.disk_contract.specs.Disk.{State}
use Rattle.layout_geometry.specs.Geometry.{Geometry}
use Rattle.lang_tree.specs.declared.command.Cmd.{Cmd}
use Rattle.lang_tree.specs.declared.command.Cmd.TheVariants.{Dsync, Osync}
use Rattle.lang_tree.specs.declared.command.Refusal.{Refusal}
use Rattle.lang_tree.specs.declared.command.Refusal.TheVariants.{NoMemory}
use Rattle.lang_tree.specs.declared.command.Reply.{Reply}
use Rattle.lang_tree.specs.declared.command.Reply.TheVariants as reply
use Rattle.lang_tree.specs.Step.{Session, session_on}
use Rattle.lang_tree.specs.Tree.{Tree}
use Rattle.lang_log.specs.declared.call.LogCall.{LogCall}
use Rattle.lang_log.specs.declared.call.LogCall.TheVariants.{Append, Order, Sync, Trim}
use Rattle.lang_log.specs.declared.call.LogReply.{LogReply}
use Rattle.lang_log.specs.Answers.{AnswersLog}
use Rattle.lang_log.specs.History.{History, opened_with}
use Rattle.lang_log.specs.Log.{IsLogOf, Log, next_of}
use Rattle.lang_log.specs.Segments.{Segment}
use Rattle.crash_stands.specs.Bounds.{bounds_of}
use Rattle.fs_session.specs.DiskRoom.{ComesBack, RunsOn}
use Rattle.fs_session.specs.Room.{Room, figures_in, left_in}
use Rattle.fs_log.specs.Causes.{IsOfLog, RemovesSegments, WritesAppend, is_too_big}
use Rattle.fs_log.specs.Open.{size_of}
use Rattle.fs_log.specs.Opening.{AsksToOpen}
use Rattle.fs_log.specs.Ways.{IsQuestion}
use Rattle.cmd_image.specs.Runs.{HasNumbers, IsRoomAtMount, IsSpentByNumbers}
use Rattle.cmd_log.specs.Answering.{IfRefused}
use Rattle.cmd_log.specs.declared.refusal.LogRunRefusal.{LogRunRefusal}
use Rattle.cmd_log.specs.declared.refusal.LogRunRefusal.TheVariants.{NoRoom}

-- What a file system has come to between two calls: its session, the room, and how great the journal's numbers are at most.
pub record Situation : Type 0 where
  pub session : Session
  pub room : Room
  pub numbers : ℕ

-- Commands, each one of these or a question, were answered in turn: in the session's room, which goes on from one to the next; each raised the numbers by 2^20 at most, and one was refused as Spent only where they may be used up.
pub record Ran (g : Geometry) (cmds : Cmd → Type 0) (old new : Situation) : Type 0 where
  pub asked : List Cmd
  pub replies : List Reply
  pub are : AllByRecursion (λ cmd. cmds cmd ⊎ IsQuestion cmd) asked
  pub rooms : RunsOn g old.session old.room asked replies new.session new.room
  pub numbers : new.numbers ≡ old.numbers + length asked * 2 ^ 20
  pub spent : IsSpentByNumbers old.numbers replies

-- the last of these replies is the refusal
abbrev pub EndsRefused : List Reply → Refusal → Type 0
EndsRefused all why = (before : List Reply) × (all ≡ before ++ reply.Refused why ∷ [])

-- The calls.

-- the numbers with which segments begin
abbrev pub firsts_of : List Segment → List ℕ
firsts_of segments = map (λ s. s.first) segments

-- The commands that a call of the log in this tree may ask, besides questions: an append, to write it into the last segment where that comes to have so many bytes at most, and else into a new one; a trim, to remove segments that have nothing from its number on; an order and a sync, their sync point.
abbrev pub MayAsk : ℕ → Tree → LogCall → Cmd → Type 0
MayAsk most t (Append bytes) cmd = (l : Log) × (is : IsLogOf t l) × WritesAppend most (firsts_of is.segments) (size_of is.segments) (next_of l) bytes cmd
MayAsk most t (Trim number) cmd = (l : Log) × (is : IsLogOf t l) × RemovesSegments (firsts_of is.segments) number cmd
MayAsk most t Order cmd = cmd ≡ Osync
MayAsk most t Sync cmd = cmd ≡ Dsync
MayAsk most t _ cmd = ⊥

-- A call was answered so by commands that it may ask. Where the file system refused it, the last of them was refused so, or no memory was found; and it is no reason of a tree but that each node number is used, and never that a command doesn't fit one record of the journal.
pub record AnswersBy (g : Geometry) (most : ℕ) (call : LogCall) (reply : LogReply) (old new : Situation) : Type 0 where
  pub ran : Ran g (MayAsk most old.session.tree call) old new
  pub cause : IfRefused reply (λ why. (why ≡ NoMemory) ⊎ EndsRefused ran.replies why)
  pub late : IfRefused reply (λ why. IsOfLog why × (is_too_big why ≡ false))

-- So were these calls, one after the other, each as the log answers it; and behind each the tree has the log as it is then.
abbrev pub CallsGo : Geometry → ℕ → Situation → History → List LogCall → List LogReply → Situation → History → Type 0
CallsGo g most at h [] [] end k = (end ≡ at) × (k ≡ h)
CallsGo g most at h (call ∷ calls) (reply ∷ replies) end k =
    (next : Situation) × (mid : History) × AnswersBy g most call reply at next × AnswersLog h call reply mid × IsLogOf next.session.tree mid.now × CallsGo g most next mid calls replies end k
CallsGo g most at h _ _ end k = ⊥

-- In the room that came back to a session that had come to this room, such a command, or a question, needs more blocks than are left: so many of so many.
pub record LacksIn (g : Geometry) (cmds : Cmd → Type 0) (need left : ℕ) (f : Session) (r : Room) : Type 0 where
  pub room : Room
  pub back : ComesBack g f r room
  pub cmd : Cmd
  pub is : cmds cmd ⊎ IsQuestion cmd
  pub needs : need ≡ (figures_in g f room cmd).need
  pub has : left ≡ left_in g f room
  pub few : left < need

-- From a situation on commands were answered in turn, and then such a command lacked blocks so.
pub record LacksBlocks (g : Geometry) (cmds : Cmd → Type 0) (old : Situation) (need left : ℕ) : Type 0 where
  pub asked : List Cmd
  pub replies : List Reply
  pub session : Session
  pub before : Room
  pub runs : RunsOn g old.session old.room asked replies session before
  pub lacks : LacksIn g cmds need left session before

-- The run.

-- The situation as this disk was mounted with a map in which the tree stands.
pub record IsAtMount (first : State) (g : Geometry) (map : Blocks) (t : Tree) (at : Situation) : Type 0 where
  pub session : at.session ≡ session_on (bounds_of g) t
  pub room : IsRoomAtMount g map (session_on (bounds_of g) t) at.room
  pub numbers : HasNumbers first at.numbers

-- From the situation at the mount on, a log was opened by commands of an opening, and then each call was answered by its own. A segment comes to have 1,048,576 bytes at most.
pub record HasCauses (first : State) (g : Geometry) (map : Blocks) (t : Tree) (opened : Log) (calls : List LogCall) (replies : List LogReply) : Type 0 where
  pub mounted : Situation
  pub at_mount : IsAtMount first g map t mounted
  pub begun : Situation
  pub opening : Ran g AsksToOpen mounted begun
  pub is_log : IsLogOf begun.session.tree opened
  pub end : Situation
  pub last : History
  pub goes : CallsGo g 1048576 begun (opened_with opened) calls replies end last

-- Where there was no room for the directory of a log, the last command of the opening was refused so, in the room at the mount.
pub record RefusesRoom (first : State) (g : Geometry) (map : Blocks) (t : Tree) (why : Refusal) : Type 0 where
  pub mounted : Situation
  pub at_mount : IsAtMount first g map t mounted
  pub end : Situation
  pub opening : Ran g AsksToOpen mounted end
  pub refused : EndsRefused opening.replies why

abbrev pub HasRoomCause : State → Geometry → Blocks → Tree → LogRunRefusal → Type 0
HasRoomCause first g map t (NoRoom why) = RefusesRoom first g map t why
HasRoomCause first g map t _ = ⊤
