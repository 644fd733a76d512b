-- A run of commands on the disk of a recording, as far as it has come. Only proofs and private contracts speak of it.
use Rattle.std.specs.Prelude.{◌≡◌, ℕ, ◌+◌, ◌*◌, ◌^◌, ◌<◌, ◌≤◌, true, false, IsTrue, slice_get, Some, List, [], ◌∷◌, ◌++◌, length, take, Option}
use Rattle.std.specs.Io.KnownBytes.{Appends}
use Rattle.base_types.specs.Seal.{Blocks}
use Rattle.disk_contract.specs.declared.event.Event.{Event}
use Rattle.disk_contract.specs.Cell.{has_lost}
use Rattle.disk_contract.specs.Disk.{Grows, writes_in}
use Rattle.disk_contract.specs.Manner.{Manner, GoesBy}
use Rattle.disk_contract.specs.Lawful.{IsLogOf}
use Rattle.layout_geometry.specs.Geometry.{Geometry, IsGeometry, geometry_fits, bitmap_blocks}
use Rattle.layout_journal.specs.Formatted.{formatted}
use Rattle.lang_script.specs.Text.{command_text}
use Rattle.lang_script.specs.Values.{IsCommand, IsReply}
use Rattle.cmd_trace.specs.Contents.{Each, front_of}
use Rattle.cmd_trace.specs.Line.{command_line}
use Rattle.crash_argument.specs.Points.{MountedSession}
use Rattle.lang_tree.specs.declared.command.Cmd.{Cmd}
use Rattle.lang_tree.specs.declared.command.Refusal.TheVariants.{Spent}
use Rattle.lang_tree.specs.declared.command.Reply.{Reply}
use Rattle.lang_tree.specs.declared.command.Reply.TheVariants.{Refused}
use Rattle.lang_tree.specs.Step.{Session, session_on, start}
use Rattle.lang_tree.specs.Tree.{Tree}
use Rattle.crash_stands.specs.Bounds.{bounds_of}
use Rattle.crash_stands.specs.Stands.{StandsFor}
use Rattle.crash_argument.specs.Counts.{AreAtMost}
use Rattle.engine_blocks.specs.State.{State}
use Rattle.fs_session.specs.Memory.{room_of}
use Rattle.fs_session.specs.Room.{Room, IsFirstRoom}
use Rattle.fs_session.specs.DiskRoom.{AnswersOn, IsRoomOf, RunsOn}
use Rattle.fs_session.specs.Applying.{is_spent}
use Rattle.fs_session.specs.Sessions.{IsSession}
use Rattle.cmd_session.specs.Budget.{KeepsBudget, SpendsByMarks, budget_of}
use Rattle.cmd_session.specs.Ending.{HasRun, ending_marks, ending_replies}
use Rattle.cmd_session.specs.Going.{BeginsByLog, GoesByLog, pace_of, session_at}
use Rattle.cmd_session.specs.Pacing.{Pace}
use Rattle.cmd_session.specs.Serving.{HasServed}
use Rattle.cmd_session.specs.Taking.{nothing_taken}
use Rattle.cmd_host.specs.Behaving.{session_by, Setting}
use Rattle.cmd_record.specs.Behaving.{pace_at_first}
use Rattle.cmd_host.specs.Mounts.{MountsOnce}
use Rattle.cmd_record.specs.Traces.{BeginsFirst, Serves, ServesBy, says}

-- These commands were answered with these replies, at these marks, since a disk that was formatted with this geometry was mounted; and so much is known of the blocks now.
pub record Ran (g : Geometry) (mounted : ℕ) (cmds : List Cmd) (replies : List Reply) (marks : List ℕ) (s : State) : Type 0 where
  pub served : HasServed g (start (bounds_of g)).tree mounted cmds replies marks s
  pub first : Room
  pub empty : IsFirstRoom g first
  pub after : Session
  pub session : IsSession s after
  pub rooms : RunsOn g (start (bounds_of g)) first cmds replies after (room_of s)
  -- no write was owed as the mount ended
  pub budget : KeepsBudget g (start (bounds_of g)).tree (writes_in (take mounted s.crash.log)) cmds replies s
  pub spends : SpendsByMarks g (start (bounds_of g)) mounted s.crash.log cmds replies marks
  pub base : (b : ℕ) → b < g.n → s.crash.base b ≡ formatted g b
  pub fits : geometry_fits g ≡ true
  pub lawful : IsLogOf g.n s.crash.log
  pub events : length s.crash.log < 2 ^ 64
  pub answers : Each IsReply replies

-- What other crates say of the formatted disk, of images, and of runs that end.
pub record RunLaws (g : Geometry) : Type 0 where
  pub root : StandsFor g.n (formatted g) (start (bounds_of g)).tree
  pub one : (n : ℕ) (img : Blocks) (t u : Tree) → StandsFor n img t → StandsFor n img u → t ≡ u
  pub alike : (n : ℕ) (img other : Blocks) (t : Tree) → ((b : ℕ) → b < n → img b ≡ other b) → StandsFor n img t → StandsFor n other t
  pub budget : (cmds : List Cmd) (replies : List Reply) (more : List Cmd) (later : List Reply) → length cmds ≡ length replies
      → budget_of (bitmap_blocks g) (start (bounds_of g)) 0 cmds replies ≤ budget_of (bitmap_blocks g) (start (bounds_of g)) 0 (cmds ++ more) (replies ++ later)
  pub spends : (log : List Event) → SpendsByMarks g (start (bounds_of g)) (length log) log [] [] []
  pub limits : IsGeometry g

-- What is known of a run over blocks, as one on a disk, and of one that ends behind it.
pub record KnownRun (g : Geometry) (s : State) (mounted : ℕ) (cmds : List Cmd) (replies : List Reply) (marks : List ℕ) : Type 0 where
  pub most : AreAtMost mounted s.crash.log (budget_of (bitmap_blocks g) (start (bounds_of g)) 0 cmds replies)
  pub room : (f : Session) → IsSession s f → IsRoomOf g f (room_of s)
  pub ends : (more : List Cmd) → HasRun g (start (bounds_of g)).tree s.crash.base s.crash.log mounted (cmds ++ more) (replies ++ ending_replies s.books.stopped more) (marks ++ ending_marks (length s.crash.log) more)
  pub spends : (more : List Cmd) → SpendsByMarks g (start (bounds_of g)) mounted s.crash.log (cmds ++ more) (replies ++ ending_replies s.books.stopped more) (marks ++ ending_marks (length s.crash.log) more)

-- These commands were answered so on a disk of this geometry and manner, and so far have they come.
pub record PacedRun (g : Geometry) (m : Manner) (mounted : ℕ) (cmds : List Cmd) (replies : List Reply) (marks : List ℕ) (s : State) : Type 0 where
  pub writes : GoesBy m s.crash.log
  pub goes : GoesByLog (session_by g mounted) (formatted g) m (pace_at_first g mounted) (start (bounds_of g)).tree cmds replies marks s
  pub opens : IsTrue (m.accepts [])
  pub alone : m.waits_alone ≡ true
  -- the mount lost no write
  pub mounts : has_lost (take mounted s.crash.log) ≡ false
  pub once : MountsOnce g (take mounted s.crash.log)
  -- the journal's numbers rise little with each command, so that none is spent
  pub turns : s.books.turns ≤ 3 + length replies * 2 ^ 20
  pub unspent : (i : ℕ) → i < 2 ^ 40 → slice_get replies i ≡ Some (Refused Spent) → ⊥

-- As the mount ends, a run goes by the log of its disk.
abbrev pub BeginsSo : State → Type 0
BeginsSo s = (mount : MountedSession) (base : Blocks) (m : Manner) (t : Tree) → BeginsByLog mount base m s → GoesByLog mount base m (pace_of (nothing_taken (session_at mount t)) s) t [] [] [] s

-- how a command was answered, and what came with it
pub record IsAnswered (cmd : Cmd) (reply : Reply) (old new : State) : Type 0 where
  pub serves : (g : Geometry) (t : Tree) (mounted : ℕ) (cmds : List Cmd) (replies : List Reply) (marks : List ℕ) → HasServed g t mounted cmds replies marks old → HasServed g t mounted (cmds ++ cmd ∷ []) (replies ++ reply ∷ []) (marks ++ length new.crash.log ∷ []) new
  pub budget : (g : Geometry) (t : Tree) (mounted begun : ℕ) (cmds : List Cmd) (replies : List Reply) (marks : List ℕ) → HasServed g t mounted cmds replies marks old → KeepsBudget g t begun cmds replies old → KeepsBudget g t begun (cmds ++ cmd ∷ []) (replies ++ reply ∷ []) new
  pub spends : (g : Geometry) (t : Tree) (mounted : ℕ) (cmds : List Cmd) (replies : List Reply) (marks : List ℕ) → HasServed g t mounted cmds replies marks old → KeepsBudget g t (writes_in (take mounted new.crash.log)) (cmds ++ cmd ∷ []) (replies ++ reply ∷ []) new
      → SpendsByMarks g (session_on (bounds_of g) t) mounted old.crash.log cmds replies marks → SpendsByMarks g (session_on (bounds_of g) t) mounted new.crash.log (cmds ++ cmd ∷ []) (replies ++ reply ∷ []) (marks ++ length new.crash.log ∷ [])
  pub room : (f : Session) → IsSession old f → (next : Session) × IsSession new next × (new.books.geom ≡ old.books.geom) × AnswersOn old.books.geom f (room_of old) cmd reply next (room_of new)
  pub base : new.crash.base ≡ old.crash.base
  pub grows : Grows old.crash.log new.crash.log
  pub lawful : IsLogOf new.books.geom.n new.crash.log
  pub events : length new.crash.log < 2 ^ 64
  pub writes : GoesBy new.counts.ticks.manner new.crash.log
  pub turns : new.books.turns ≤ old.books.turns + 2 ^ 20
  pub spent : (f : Session) → IsSession old f → reply ≡ Refused Spent → is_spent old.books ≡ true
  -- a run that goes by the log of its disk does so with this command more
  pub goes : (mount : MountedSession) (base : Blocks) (m : Manner) (first : Pace) (t : Tree) (cmds : List Cmd) (replies : List Reply) (marks : List ℕ) → HasServed mount.geom t mount.mounted cmds replies marks old → GoesByLog mount base m first t cmds replies marks old → GoesByLog mount base m first t (cmds ++ cmd ∷ []) (replies ++ reply ∷ []) (marks ++ length new.crash.log ∷ []) new

-- However the commands go on behind these, with such a command first, the text and that command's line begin the trace of some run.
pub record GoesOnWith (g : Geometry) (cmds : List Cmd) (text : List ℕ) (cmd : Cmd) (more : List Cmd) : Type 0 where
  pub rest : List ℕ
  pub served : Each IsCommand (cmds ++ cmd ∷ more) → Serves g (cmds ++ cmd ∷ more) ((text ++ command_line (command_text cmd)) ++ rest)

-- These commands were answered so far, and this text begins their trace.
pub record Records (set : Setting) (cmds : List Cmd) (text : List ℕ) (s : State) : Type 0 where
  pub mounted : ℕ
  pub replies : List Reply
  pub marks : List ℕ
  pub ran : Ran set.shape mounted cmds replies marks s
  pub paced : PacedRun set.shape set.manner mounted cmds replies marks s
  pub is : text ≡ front_of (says set.shape s.crash.log mounted cmds replies marks)
  pub served : Each IsCommand cmds → ServesBy set cmds text
  pub ends : (cmd : Cmd) (more : List Cmd) → GoesOnWith set.shape cmds text cmd more

-- More was answered, and the sink took the text that came with it.
pub record RecordsOn (set : Setting) (cmds : List Cmd) (text : List ℕ) (s : State) (before after : Option (List ℕ)) : Type 0 where
  pub piece : List ℕ
  pub told : Appends before after piece
  pub records : Records set cmds (text ++ piece) s

-- The sink took some text more, with which the trace of some run of these commands begins; and that of the first of them begins with it.
pub record BreaksOff (set : Setting) (cmds : List Cmd) (text : List ℕ) (before after : Option (List ℕ)) : Type 0 where
  pub piece : List ℕ
  pub rest : List ℕ
  pub told : Appends before after piece
  pub served : Each IsCommand cmds → Serves set.shape cmds ((text ++ piece) ++ rest)
  pub begins : Each IsCommand cmds → BeginsFirst (ServesBy set) cmds (text ++ piece)

-- these commands are answered behind those that were, whatever they are
abbrev pub ServesFrom : List Cmd → State → State → Option (List ℕ) → Option (List ℕ) → Type 0
ServesFrom cmds old new before after = (set : Setting) (past : List Cmd) (text : List ℕ) → Records set past text old → RecordsOn set (past ++ cmds) text new before after

-- the recording breaks off in these commands, whatever comes behind them
abbrev pub TriesFrom : List Cmd → State → Option (List ℕ) → Option (List ℕ) → Type 0
TriesFrom cmds old before after = (set : Setting) (past more : List Cmd) (text : List ℕ) → Records set past text old → BreaksOff set ((past ++ cmds) ++ more) text before after
