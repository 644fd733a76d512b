-- The room of a session over any map of blocks, as over a disk, and how commands are answered in it: as in memory, in a room that came back, or refused by the disk. It is described in docs/SPACE.md.
use Rattle.std.specs.Prelude.{◌≡◌, ◌⊎◌, ℕ, ◌<◌, ◌≤◌, ◌==◌, true, false, if◌then◌else◌, List, [], ◌∷◌, length}
use Rattle.std.specs.List.{filter}
use Rattle.layout_geometry.specs.Geometry.{Geometry}
use Rattle.lang_tree.specs.declared.command.Cmd.{Cmd}
use Rattle.lang_tree.specs.declared.command.Cmd.TheVariants as cmds
use Rattle.lang_tree.specs.declared.command.Refusal.TheVariants.{ReadFault, DiskFault, Stopped, Spent, NoMemory}
use Rattle.lang_tree.specs.declared.command.Reply.{Reply}
use Rattle.lang_tree.specs.declared.command.Reply.TheVariants.{Refused}
use Rattle.lang_tree.specs.Step.{Session, step}
use Rattle.engine_blocks.specs.Running.{has}
use Rattle.engine_blocks.specs.State.{data_blocks}
use Rattle.fs_session.specs.Commands.{is_on_tree}
use Rattle.fs_session.specs.Room.{AnswersIn, HoldsTree, RefusesIn, Room, is_in_use, left_in, most_weight}

-- The room is one of this session: each node has as many blocks as its content needs, and the transaction fits. The blocks that may be taken are data blocks, ascending, that are in no list, and no more than are left.
pub record IsRoomOf (g : Geometry) (f : Session) (r : Room) : Type 0 where
  pub holds : HoldsTree g f.tree r
  pub fits : r.weight ≤ most_weight g
  pub takeable : r.takeable ≡ filter (has r.takeable) (data_blocks g)
  pub apart : (b : ℕ) → is_in_use g f.tree r b ≡ true → has r.takeable b ≡ false
  pub upto : length r.takeable ≤ left_in g f r

-- Each list stays, and what might be taken still may. Blocks that waited may be taken again by themselves.
pub record KeepsRoom (old new : Room) : Type 0 where
  pub places : new.places ≡ old.places
  pub kept : new.kept ≡ old.kept
  pub takeable : (b : ℕ) → has old.takeable b ≡ true → has new.takeable b ≡ true

-- The session's room came back: the transaction is as it was, and it has what it had of blocks, and perhaps some that waited.
pub record ComesBack (g : Geometry) (f : Session) (old new : Room) : Type 0 where
  pub weight : new.weight ≡ old.weight
  pub held : new.held ≡ old.held
  pub keeps : KeepsRoom old new
  pub is_room : IsRoomOf g f new

-- A sync: nothing is weighed any more. What was held where something was weighed isn't held any more, and waits or may be taken.
pub record ClearsRoom (old new : Room) : Type 0 where
  pub weight : new.weight ≡ 0
  pub held : new.held ≡ (if old.weight == 0 then old.held else 0)
  pub keeps : KeepsRoom old new

-- A sync is done; it was out of memory where something was weighed, and all is as it was; or the disk failed, and the session is as it was.
abbrev pub SyncsOver : Session → Room → Cmd → Reply → Session → Room → Type 0
SyncsOver f r cmd reply next room =
    ((step f cmd ≡ (next, reply)) × ClearsRoom r room)
    ⊎ (RefusesIn (λ why. (why ≡ NoMemory) × (0 < r.weight)) f r reply next room
    ⊎ ((reply ≡ Refused DiskFault) × (next ≡ f) × KeepsRoom r room))

-- How a command that began is answered, in the room that came back: a sync so, and any other as in memory, or it is refused by the disk. A read can fail of a command on the tree alone.
abbrev pub AnswersOver : Geometry → Session → Room → Cmd → Reply → Session → Room → Type 0
AnswersOver g f r cmds.Osync reply next room = SyncsOver f r cmds.Osync reply next room
AnswersOver g f r cmds.Dsync reply next room = SyncsOver f r cmds.Dsync reply next room
AnswersOver g f r cmd reply next room = AnswersIn g f r cmd reply next room ⊎ RefusesIn (λ why. (why ≡ DiskFault) ⊎ ((is_on_tree cmd ≡ true) × (why ≡ ReadFault))) f r reply next room

-- A command that began was answered in a room that came back, and leaves one of the session that follows.
pub record BeginsOver (g : Geometry) (f : Session) (r : Room) (cmd : Cmd) (reply : Reply) (next : Session) (room : Room) : Type 0 where
  pub back : Room
  pub comes_back : ComesBack g f r back
  pub answers : AnswersOver g f back cmd reply next room
  pub is_room : IsRoomOf g next room

-- How a command is answered: a bad line as it is; any other, where the disk failed before or the journal's numbers are used up, by that, and all is as it was; else once it began.
abbrev pub AnswersOn : Geometry → Session → Room → Cmd → Reply → Session → Room → Type 0
AnswersOn g f r cmds.Bad reply next room = AnswersIn g f r cmds.Bad reply next room
AnswersOn g f r cmd reply next room = RefusesIn (λ why. (why ≡ Stopped) ⊎ (why ≡ Spent)) f r reply next room ⊎ BeginsOver g f r cmd reply next room

-- The commands in order, each with its reply, lead from one session and its room to another.
abbrev pub RunsOn : Geometry → Session → Room → List Cmd → List Reply → Session → Room → Type 0
RunsOn g f r [] [] end room = (end ≡ f) × (room ≡ r)
RunsOn g f r (cmd ∷ cmds) (reply ∷ replies) end room = (next : Session) × (after : Room) × AnswersOn g f r cmd reply next after × RunsOn g next after cmds replies end room
RunsOn g f r _ _ end room = ⊥

-- What a command may be answered where no memory is found: what takes none is answered as the tree answers it, and any other is refused.
abbrev pub without_memory : Session → Room → Cmd → Session × Reply
without_memory f r cmds.Bad = step f cmds.Bad
without_memory f r cmds.Poll = step f cmds.Poll
without_memory f r cmds.Durable = step f cmds.Durable
without_memory f r (cmds.Dwait n) = step f (cmds.Dwait n)
without_memory f r cmds.Osync = if r.weight == 0 then step f cmds.Osync else (f, Refused NoMemory)
without_memory f r cmds.Dsync = if r.weight == 0 then step f cmds.Dsync else (f, Refused NoMemory)
without_memory f r _ = (f, Refused NoMemory)
