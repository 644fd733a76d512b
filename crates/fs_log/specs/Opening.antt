-- What opening a log leaves of the blocks, of what it speaks, and why it is refused.
use Rattle.std.specs.Prelude.{◌≡◌, ◌⊎◌, ℕ, ⊤, Bool, true, false, IsTrue, ◌&&◌, ◌==◌, nat_le, if◌then◌else◌, None}
use Rattle.std.specs.FinMap.{get}
use Rattle.lang_tree.specs.declared.command.Cmd.{Cmd}
use Rattle.lang_tree.specs.declared.command.Cmd.TheVariants.{List as ListNames, Mkdir, Stat}
use Rattle.lang_tree.specs.declared.command.Refusal.{Refusal}
use Rattle.lang_tree.specs.declared.command.Refusal.TheVariants.{Full, NoNode, Scattered}
use Rattle.lang_tree.specs.declared.command.Reply.TheVariants.{Refused}
use Rattle.lang_tree.specs.Step.{Session}
use Rattle.lang_tree.specs.Tree.{Tree}
use Rattle.lang_log.specs.Names.{log_path, segment_path}
use Rattle.lang_log.specs.Log.{IsLogOf, Log, next_of}
use Rattle.crash_stands.specs.Stands.{IsTreeOf}
use Rattle.engine_blocks.specs.Crashes.{Advances, HasMapOfPoint}
use Rattle.engine_blocks.specs.State.{Bookkeeping, State}
use Rattle.fs_session.specs.Sessions.{IsSession}
use Rattle.fs_log.specs.declared.refusal.OpenRefusal.{OpenRefusal}
use Rattle.fs_log.specs.declared.refusal.OpenRefusal.TheVariants.{BadLog, Fs as FsRefused}
use Rattle.fs_log.specs.Causes.{HasLogCause, ReadsSegment, WasAnswered}

-- the blocks stand for the tree
abbrev pub StandsIn : State → Tree → Type 0
StandsIn s t = IsTreeOf s.books.geom s.map t

-- The blocks stand for the tree of their mount: no sync point was made since, and they have the map of point 0.
pub record StandsAsMounted (s : State) (t : Tree) : Type 0 where
  pub point : s.books.point ≡ 0
  pub only : HasMapOfPoint s 0
  pub stands : StandsIn s t

-- Time went on, of the same disk, and no sync point came.
pub record MakesNoPoint (old new : State) : Type 0 where
  pub advances : Advances old new
  pub geom : new.books.geom ≡ old.books.geom
  pub manner : new.counts.ticks.manner ≡ old.counts.ticks.manner
  pub point : new.books.point ≡ old.books.point

-- The tree and its sync points are as they were: the blocks are those of each session of which they were, and time went on without a point more.
pub record KeepsTree (old new : State) : Type 0 where
  pub session : (f : Session) → IsSession old f → IsSession new f
  pub time : MakesNoPoint old new

-- The tree has a log that begins with this number, and its next append has that one.
pub record HasRange (t : Tree) (begins behind : ℕ) : Type 0 where
  pub log : Log
  pub is : IsLogOf t log
  pub low : begins ≡ log.low
  pub next : behind ≡ next_of log

-- all is on the disk: nothing changed since the last sync point, and that is there
abbrev pub is_settled : Bookkeeping → Bool
is_settled k = (k.running.weight == 0) && nat_le k.point k.floor

-- below which number all appends of an opened log are on the disk: all of them, where all is; and else it isn't known of any
abbrev pub kept_by : Bookkeeping → ℕ → ℕ
kept_by k behind = if is_settled k then behind else 0

-- what opening a log asks: what is at `/log`, to make a directory there, its names, and what is at each segment's name and in its file
abbrev pub AsksToOpen : Cmd → Type 0
AsksToOpen cmd =
    (cmd ≡ Stat log_path)
    ⊎ ((cmd ≡ Mkdir log_path)
    ⊎ ((cmd ≡ ListNames log_path)
    ⊎ ((first : ℕ) × ((cmd ≡ Stat (segment_path first)) ⊎ ReadsSegment first cmd))))

-- whether a command was refused for want of room: each node number is used, or too few blocks are left, or they lie in too many stretches
abbrev pub is_of_room : Refusal → Bool
is_of_room NoNode = true
is_of_room (Full need left) = true
is_of_room (Scattered runs) = true
is_of_room _ = false

module _ {S : Type 0} (tells : Bool) (state : S → State) where
  -- The making of `/log` was refused so, where nothing is.
  pub record WasNotMade (why : Refusal) (old new : S) : Type 0 where
    pub asked : WasAnswered tells state (λ cmd. cmd ≡ Mkdir log_path) (Refused why) old new
    pub free : (t : Tree) → StandsIn (state old) t → get t.names log_path ≡ None

  -- Opening a log is refused for this reason of the file system: the last one of its commands was refused so, or no memory was found. Where the blocks tell, want of room comes of the making of `/log` alone.
  pub record HasOpenCause (why : Refusal) (old new : S) : Type 0 where
    pub cause : HasLogCause tells state AsksToOpen why old new
    pub room : IsTrue tells → is_of_room why ≡ true → WasNotMade why old new

  -- why a log isn't opened: for a reason of the file system, or since there is none
  abbrev pub IsNotOpened : OpenRefusal → S → S → Type 0
  IsNotOpened (FsRefused why) old new = HasOpenCause why old new
  IsNotOpened BadLog old new = ⊤
