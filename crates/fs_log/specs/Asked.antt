-- Single commands of a log, and what they make of it. They add no meaning to the promises of the calls.
use Rattle.std.specs.Prelude.{◌≡◌, ◌≢◌, ◌⊎◌, ℕ, ◌+◌, ◌-◌, ◌^◌, ◌≤◌, Bool, true, false, IsTrue, List, [], ◌∷◌, ◌++◌, length}
use Rattle.lang_tree.specs.declared.command.Cmd.{Cmd}
use Rattle.lang_tree.specs.declared.command.Cmd.TheVariants.{Create, Osync, Write}
use Rattle.lang_tree.specs.declared.command.Reply.{Reply}
use Rattle.lang_tree.specs.declared.command.Reply.TheVariants.{Bytes, DurableAt, Ok as Done, Refused, Synced}
use Rattle.lang_tree.specs.Points.{made_by}
use Rattle.lang_tree.specs.Run.{Answers, is_of_disk}
use Rattle.lang_tree.specs.Step.{Session}
use Rattle.lang_tree.specs.Tree.{Tree, IsSound}
use Rattle.lang_log.specs.Names.{segment_name, segment_path}
use Rattle.lang_log.specs.Spelling.{IsShort, spelling, spellings}
use Rattle.lang_log.specs.Segments.{OneIsNamed, Segment}
use Rattle.lang_log.specs.Log.{Log, IsLogOf, next_of}
use Rattle.lang_log.specs.History.{History, MayBeLeft}
use Rattle.crash_stands.specs.Stands.{IsTreeOf}
use Rattle.engine_blocks.specs.Crashes.{Advances}
use Rattle.engine_blocks.specs.State.{State}
use Rattle.fs_session.specs.Applying.{Applies}
use Rattle.fs_session.specs.Points.{TellsPoints}
use Rattle.fs_session.specs.Sessions.{IsSession}
use Rattle.fs_log.specs.Causes.{IsOfLog, is_too_big}
use Rattle.fs_log.specs.Keeping.{Goes, HoldsLog, Keeps, Rests, TakesLog}

-- whether a command was refused since it doesn't fit one record of the journal with what changed before
abbrev pub is_past_room : Reply → Bool
is_past_room (Refused why) = is_too_big why
is_past_room _ = false

-- whether a sync point was made that is not waited for, and whether one was waited for
abbrev pub is_synced : Reply → Bool
is_synced (Synced point) = true
is_synced _ = false

abbrev pub is_durable : Reply → Bool
is_durable (DurableAt point) = true
is_durable _ = false

-- whether bytes were read
abbrev pub is_bytes : Reply → Bool
is_bytes (Bytes bytes) = true
is_bytes _ = false

-- The reply refuses a command for a reason that may come of a log: of the tree it is one alone, and the command fits.
abbrev pub IsLate : Reply → Type 0
IsLate (Refused why) = IsOfLog why × (is_too_big why ≡ false)
IsLate _ = ⊥

-- One history may become the other while no more is promised: what may be left of the one may be left of the other.
abbrev pub MayBecome : History → History → Type 0
MayBecome h k = (l : Log) → MayBeLeft h l → MayBeLeft k l

-- A command that was answered so takes a session to the next one, and its log to the later history. Where nothing is changed since the last point then, and no point was made, nothing was changed before, and the log is the same.
pub record Steps (h k : History) (f next : Session) (cmd : Cmd) (reply : Reply) : Type 0 where
  pub log : IsLogOf next.tree k.now
  pub calm : next.changed ≡ false → length (made_by f cmd reply 0) ≡ 0 → (f.changed ≡ false) × (k.now ≡ h.now)

module _ {S : Type 0} (tells : Bool) (state : S → State) where
  -- A command was answered: the blocks are those of a session after it, and where the log goes on in that, it goes on in the blocks.
  pub record Asked (cmd : Cmd) (reply : Reply) (f : Session) (old new : S) : Type 0 where
    pub next : Session
    pub answers : Answers is_of_disk f cmd reply next
    pub session : IsSession (state new) next
    pub only : (t : Tree) → IsTreeOf (state new).books.geom (state new).map t → t ≡ next.tree
    pub sound : IsSound next.limit.nodes next.tree
    pub points : TellsPoints f cmd reply 0 (state old) (state new)
    pub time : Advances (state old) (state new)
    pub goes : (h k : History) → Keeps h (state old) → MayBecome h k → Steps h k f next cmd reply → Goes h k (state old) (state new)

  -- so it was for each session that the blocks are one of
  abbrev pub AskedOf : Cmd → Reply → S → S → Type 0
  AskedOf cmd reply old new = (f : Session) → IsSession (state old) f → Asked cmd reply f old new

  -- A command was answered so: by what is applied to the blocks, and where they tell, for each session of theirs.
  pub record IsAnswered (cmd : Cmd) (reply : Reply) (old new : S) : Type 0 where
    pub applies : Applies tells state cmd reply old new
    pub asked : IsTrue tells → AskedOf cmd reply old new
    pub session : IsTrue tells → (f : Session) × IsSession (state old) f

  -- A command didn't fit one record of the journal with what changed before, and an osync came behind it.
  pub record TriedFirst (cmd : Cmd) (other : Reply) (old end : S) : Type 0 where
    pub first : Reply
    pub big : is_past_room first ≡ true
    pub mid : S
    pub tried : IsAnswered cmd first old mid
    pub ordered : IsAnswered Osync other mid end

  -- A command that changes the files of a log was answered so in the end: at once, and it fitted; or once more, behind a sync point; or so that sync was answered, which made none.
  abbrev pub Changed : Cmd → Reply → S → S → Type 0
  Changed cmd reply old new =
      ((is_past_room reply ≡ false) × IsAnswered cmd reply old new)
      ⊎ (((other : Reply) × (end : S) × (is_synced other ≡ true) × TriedFirst cmd other old end × IsAnswered cmd reply end new)
      ⊎ ((is_synced reply ≡ false) × TriedFirst cmd reply old new))

-- What comes of such a command: where it is done, the log changes so, and the blocks hold this one by these segments, the node of a new one among them; and else it was refused, and the log is as it was.
pub record Comes {S : Type 0} (state : S → State) (change : History → History) (segments : ℕ → List Segment) (l : Log) (reply : Reply) (old new : S) : Type 0 where
  pub holds : reply ≡ Done → (node : ℕ) × HoldsLog (segments node) l (state new)
  pub goes : reply ≡ Done → TakesLog change (state old) (state new)
  pub rests : reply ≢ Done → Rests (state old) (state new)
  pub late : reply ≢ Done → IsLate reply

-- The command writes an append behind the last one of the last segment, which has no more bytes then than a file may have. Numbers are left.
pub record MayWrite (l : Log) (s : Segment) (bytes : List ℕ) (cmd : Cmd) : Type 0 where
  pub is : cmd ≡ Write (segment_path s.first) (length (spellings s.appends)) (spelling bytes)
  pub short : IsShort bytes
  pub fits : length (spellings s.appends) + length (spelling bytes) ≤ 1073741824
  pub left : next_of l + 1 ≤ 2 ^ 32 - 1

-- The command makes a segment that begins with the next number, a name that no segment has.
pub record MayMake (segments : List Segment) (l : Log) (cmd : Cmd) : Type 0 where
  pub is : cmd ≡ Create (segment_path (next_of l))
  pub free : OneIsNamed segments (segment_name (next_of l)) → ⊥
