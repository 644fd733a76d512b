-- Why a call of a log is refused: which command of its list was, and over which blocks; and these lists.
use Rattle.std.specs.Prelude.{◌≡◌, ◌⊎◌, ℕ, ◌+◌, ◌-◌, ◌≤◌, nat_lt, nat_le, ◌&&◌, Bool, true, false, IsTrue, List, [], ◌∷◌, ◌++◌, length, slice_get, Some}
use Rattle.lang_tree.specs.declared.command.Cmd.{Cmd}
use Rattle.lang_tree.specs.declared.command.Cmd.TheVariants.{Create, Dsync, Osync, Read, Unlink, Write}
use Rattle.lang_tree.specs.declared.command.Refusal.{Refusal}
use Rattle.lang_tree.specs.declared.command.Refusal.TheVariants.{NoMemory, TooBig}
use Rattle.lang_tree.specs.declared.command.Reply.{Reply}
use Rattle.lang_tree.specs.declared.command.Reply.TheVariants.{Refused}
use Rattle.lang_tree.specs.Points.{is_refusal}
use Rattle.lang_tree.specs.Refusals.{refusal_number}
use Rattle.lang_tree.specs.Step.{Session}
use Rattle.lang_log.specs.Names.{segment_path}
use Rattle.lang_log.specs.Spelling.{spelling}
use Rattle.engine_blocks.specs.Crashes.{Advances}
use Rattle.engine_blocks.specs.State.{State}
use Rattle.fs_session.specs.Applying.{Applies}
use Rattle.fs_session.specs.Sessions.{IsSession}
use Rattle.fs_log.specs.declared.refusal.LogRefusal.{LogRefusal}
use Rattle.fs_log.specs.declared.refusal.LogRefusal.TheVariants.{BadLog, Fs as FsRefused}
use Rattle.fs_log.specs.Open.{Open}
use Rattle.fs_log.specs.Reading.{IsLastUpto}
use Rattle.fs_log.specs.Ways.{Way, WayTo}

-- whether a command doesn't fit one record of the journal with what changed before
abbrev pub is_too_big : Refusal → Bool
is_too_big (TooBig weight cost room) = true
is_too_big _ = false

-- a reason for which the file system may refuse a command of a log: each node number is used, 9, or it is one from outside the tree, up to want of memory, 17
abbrev pub IsOfLog : Refusal → Type 0
IsOfLog why = (9 ≤ refusal_number why) × (refusal_number why ≤ 17)

module _ {S : Type 0} (tells : Bool) (state : S → State) where
  -- On the way from the old blocks one of these commands was answered so, and that left the new blocks. Where the blocks tell, those before it are of a session, and all that was asked is known.
  pub record WasAnswered (cmds : Cmd → Type 0) (reply : Reply) (old new : S) : Type 0 where
    pub cmd : Cmd
    pub is : cmds cmd
    pub before : S
    pub answered : Applies tells state cmd reply before new
    pub begins : IsTrue tells → Advances (state old) (state before)
    pub session : IsTrue tells → (f : Session) × IsSession (state before) f
    pub way : IsTrue tells → WayTo tells state cmds reply old new

  -- Where the blocks tell, all that was asked is known: some of these commands, and questions.
  abbrev pub HasAsked : (Cmd → Type 0) → S → S → Type 0
  HasAsked cmds old new = IsTrue tells → Way tells state cmds old new

  -- A call that asks these commands is refused for this reason of the file system: the last one of them was refused so, or no memory was found. Where the blocks tell, it is no reason of a tree but that each node number is used (`late`), and it isn't that a command doesn't fit one record of the journal.
  pub record HasLogCause (cmds : Cmd → Type 0) (why : Refusal) (old new : S) : Type 0 where
    pub cause : ((why ≡ NoMemory) × HasAsked cmds old new) ⊎ WasAnswered cmds (Refused why) old new
    pub late : IsTrue tells → IsOfLog why
    pub fits : IsTrue tells → is_too_big why ≡ false

  -- the last of these commands wasn't refused
  abbrev pub WasNotRefused : (Cmd → Type 0) → S → S → Type 0
  WasNotRefused cmds old new = (reply : Reply) × (is_refusal reply ≡ false) × WasAnswered cmds reply old new

  -- Why a call that asks these commands of a log is refused: for a reason of the file system; or since the last one of them was answered as none of a log is, and then the blocks don't tell; or for one of these reasons of the log's own.
  abbrev pub HasCallCause : (LogRefusal → Bool) → (Cmd → Type 0) → LogRefusal → S → S → Type 0
  HasCallCause own cmds (FsRefused why) old new = HasLogCause cmds why old new
  HasCallCause own cmds BadLog old new = (IsTrue tells → ⊥) × WasNotRefused cmds old new
  HasCallCause own cmds why old new = IsTrue (own why) × HasAsked cmds old new

-- Which commands each call asks.

-- reads of the segment that begins with a number
abbrev pub ReadsSegment : ℕ → Cmd → Type 0
ReadsSegment first cmd = (offset : ℕ) × (cmd ≡ Read (segment_path first) offset 65540)

-- By what a log keeps in memory: how many bytes a segment comes to have at most, the numbers with which segments begin, the bytes of the last one, and the number of the next append.

-- whether there is a last segment that has room for so many bytes
abbrev pub has_room_for : ℕ → List ℕ → ℕ → ℕ → Bool
has_room_for most firsts size count = nat_lt 0 (length firsts) && nat_le (size + count) most

-- A write of the append behind the last one of the last segment.
pub record WritesLast (firsts : List ℕ) (size : ℕ) (bytes : List ℕ) (cmd : Cmd) : Type 0 where
  pub first : ℕ
  pub last : slice_get firsts (length firsts - 1) ≡ Some first
  pub is : cmd ≡ Write (segment_path first) size (spelling bytes)

-- the making of a segment that begins with the next number, or a write of the append at its front
abbrev pub WritesNew : ℕ → List ℕ → Cmd → Type 0
WritesNew next bytes cmd = (cmd ≡ Create (segment_path next)) ⊎ (cmd ≡ Write (segment_path next) 0 (spelling bytes))

-- an append: what writes it, into the last segment where that has room, and else into a new one; and a sync point where a command doesn't fit what changed before
abbrev pub WritesAppend : ℕ → List ℕ → ℕ → ℕ → List ℕ → Cmd → Type 0
WritesAppend most firsts size next bytes cmd =
    ((has_room_for most firsts size (4 + length bytes) ≡ true) × WritesLast firsts size bytes cmd)
    ⊎ (((has_room_for most firsts size (4 + length bytes) ≡ false) × WritesNew next bytes cmd)
    ⊎ (cmd ≡ Osync))

-- The removal of a segment that has no append from this number on, and isn't the last: the one behind it begins with that number or a lower one.
pub record RemovesBelow (firsts : List ℕ) (number : ℕ) (cmd : Cmd) : Type 0 where
  pub at : ℕ
  pub first : ℕ
  pub second : ℕ
  pub there : slice_get firsts at ≡ Some first
  pub next : slice_get firsts (at + 1) ≡ Some second
  pub low : second ≤ number
  pub is : cmd ≡ Unlink (segment_path first)

-- a trim: such removals, and a sync point where one of them doesn't fit what changed before
abbrev pub RemovesSegments : List ℕ → ℕ → Cmd → Type 0
RemovesSegments firsts number cmd = RemovesBelow firsts number cmd ⊎ (cmd ≡ Osync)

module _ {S : Type 0} where
  -- the calls of a log that keeps these in memory: an append, a look at an append, which reads the last segment that begins with its number or a lower one, and a trim
  abbrev pub AsksToAppend : Open S → List ℕ → Cmd → Type 0
  AsksToAppend l bytes cmd = WritesAppend l.most l.firsts l.size l.next bytes cmd

  abbrev pub AsksToGet : Open S → ℕ → Cmd → Type 0
  AsksToGet l number cmd = (first : ℕ) × IsLastUpto number l.firsts first × ReadsSegment first cmd

  abbrev pub AsksToTrim : Open S → ℕ → Cmd → Type 0
  AsksToTrim l number cmd = RemovesSegments l.firsts number cmd

  -- Parts of these calls. They add no meaning to the promises of the calls.

  -- the last segment has room for so many bytes
  abbrev pub has_room : Open S → ℕ → Bool
  has_room l count = has_room_for l.most l.firsts l.size count

  -- a new segment is made
  abbrev pub AsksToMake : Open S → Cmd → Type 0
  AsksToMake l cmd = (cmd ≡ Create (segment_path l.next)) ⊎ (cmd ≡ Osync)

  -- so it is where the last segment hasn't room for so many bytes
  abbrev pub AsksForRoom : Open S → ℕ → Cmd → Type 0
  AsksForRoom l count cmd = (has_room l count ≡ false) × AsksToMake l cmd

  -- an append is written into the last segment
  abbrev pub AsksToWrite : Open S → List ℕ → Cmd → Type 0
  AsksToWrite l bytes cmd = WritesLast l.firsts l.size bytes cmd ⊎ (cmd ≡ Osync)

  -- the first segment is removed
  abbrev pub AsksToRemove : Open S → Cmd → Type 0
  AsksToRemove l cmd = ((first : ℕ) × (slice_get l.firsts 0 ≡ Some first) × (cmd ≡ Unlink (segment_path first))) ⊎ (cmd ≡ Osync)

  -- The last segment has room for so many bytes now: it had, and nothing changed; or a new one came behind it.
  abbrev pub MakesRoom : ℕ → Open S → Open S → Type 0
  MakesRoom count old new =
      ((has_room old count ≡ true) × (new.firsts ≡ old.firsts) × (new.size ≡ old.size))
      ⊎ ((has_room old count ≡ false) × (new.firsts ≡ old.firsts ++ old.next ∷ []) × (new.size ≡ 0))

-- a sync that only orders, and one that waits
abbrev pub AsksToOrder : Cmd → Type 0
AsksToOrder cmd = cmd ≡ Osync

abbrev pub AsksToSync : Cmd → Type 0
AsksToSync cmd = cmd ≡ Dsync
