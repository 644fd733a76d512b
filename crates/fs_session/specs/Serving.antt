-- When freed data blocks may be taken again: the room of a session with what waits, and what each command does with it over any map of blocks. It is described in docs/SPACE.md.
use Rattle.std.specs.Prelude.{◌≡◌, ◌≢◌, ◌↔◌, ◌⊎◌, ℕ, ◌<◌, ◌≤◌, Bool, true, false, not, ◌||◌, length, Option, None, Some, is_some}
use Rattle.std.specs.List.{filter}
use Rattle.disk_contract.specs.Cell.{is_accepted}
use Rattle.disk_contract.specs.Disk.{GrowsByWrites, PollsThenWrites, writes_in}
use Rattle.layout_geometry.specs.Geometry.{Geometry}
use Rattle.lang_tree.specs.declared.command.Cmd.{Cmd}
use Rattle.lang_tree.specs.declared.command.Cmd.TheVariants as cmds
use Rattle.lang_tree.specs.declared.command.Refusal.{Refusal}
use Rattle.lang_tree.specs.declared.command.Refusal.TheVariants.{DiskFault, Stopped, Spent, NoMemory}
use Rattle.lang_tree.specs.declared.command.Reply.{Reply}
use Rattle.lang_tree.specs.declared.command.Reply.TheVariants.{Refused}
use Rattle.lang_tree.specs.Points.{is_refusal, is_sync}
use Rattle.lang_tree.specs.Step.{Session}
use Rattle.lang_tree.specs.Tree.{Tree}
use Rattle.engine_blocks.specs.Running.{has}
use Rattle.engine_blocks.specs.State.{State, data_blocks}
use Rattle.engine_blocks.specs.Puts.{IsData}
use Rattle.engine_blocks.specs.Crashes.{Advances, HearsRecords, HearsUpTo}
use Rattle.engine_blocks.specs.Effects.{FitsRing, OrdersAtOnce, RingIsTold, WritesItsRecord}
use Rattle.engine_blocks.specs.Serving.{is_sure_in, rests_in}
use Rattle.fs_session.specs.Applying.{is_spent}
use Rattle.fs_session.specs.DiskRoom.{AnswersOver, BeginsOver, ComesBack, IsRoomOf}
use Rattle.fs_session.specs.Memory.{room_of}
use Rattle.fs_session.specs.Room.{AnswersIn, RefusesIn, Room, figures_in, is_in_use, left_in, most_weight}
use Rattle.fs_session.specs.Space.{FailsToFit}

-- What a session has of room, and of each data block that waits to be taken again the point whose transaction freed it.
pub record RoomOn : Type 0 where
  pub room : Room
  pub since : ℕ → Option ℕ

-- What is known of a disk at a moment: whether its waits bring the notice of their own ticket alone, which points are sure, on which blocks nothing is pending, and whether the ring has places for the record of what the transaction has.
pub record Moment : Type 1 where
  pub alone : Bool
  pub sure : ℕ → Type 0
  pub rests : ℕ → Type 0
  pub fits : Type 0

-- the room that blocks show with what waits, and the moment at which they are
abbrev pub room_on : State → RoomOn
room_on s = record { room = room_of s; since = s.books.since }

abbrev pub moment_of : State → Moment
moment_of s = record { alone = s.counts.ticks.manner.waits_alone; sure = λ p. is_sure_in s p; rests = λ b. rests_in s b; fits = FitsRing s.books }

-- Another moment says of what serves the same as this one, and no more of ring places.
pub record SaysNoMore (at other : Moment) : Type 0 where
  pub alone : other.alone ≡ at.alone
  pub sure : (p : ℕ) → other.sure p ↔ at.sure p
  pub rests : (b : ℕ) → other.rests b ↔ at.rests b
  pub fits : other.fits → at.fits

-- What waits.

-- the same blocks may be taken, and the same ones wait
pub record SameWait (g : Geometry) (old new : RoomOn) : Type 0 where
  pub takeable : new.room.takeable ≡ old.room.takeable
  pub since : (b : ℕ) → IsData g b → new.since b ≡ old.since b

-- the room where all that waited may be taken
abbrev pub with_all_serving : Geometry → RoomOn → RoomOn
with_all_serving g r = record { room = record r.room { takeable = filter (λ b. has r.room.takeable b || is_some (r.since b)) (data_blocks g) }; since = λ b. None }

-- Of the blocks that waited just those may be taken whose point is sure and on which nothing is pending. The others wait on, and what may be taken else is as before.
pub record ServesRoom (g : Geometry) (at : Moment) (old new : RoomOn) : Type 0 where
  pub serves : (b p : ℕ) → IsData g b → old.since b ≡ Some p → (has new.room.takeable b ≡ true) ↔ (at.sure p × at.rests b)
  pub others : (b : ℕ) → IsData g b → old.since b ≡ None → has new.room.takeable b ≡ has old.room.takeable b
  pub serving : (b : ℕ) → IsData g b → has new.room.takeable b ≡ true → new.since b ≡ None
  pub waiting : (b : ℕ) → IsData g b → has new.room.takeable b ≡ false → new.since b ≡ old.since b

-- The steps of a command.

-- A tick brings the room back, and serves just those blocks, where waits bring no other notice.
pub record TicksRoom (g : Geometry) (at : Moment) (f : Session) (old new : RoomOn) : Type 0 where
  pub back : ComesBack g f old.room new.room
  pub serves : at.alone ≡ true → ServesRoom g at old new

-- A command that needs so many blocks: where as many may be taken, the same ones wait; else these still wait, or all that waited may be taken.
pub record SettlesRoom (g : Geometry) (f : Session) (need : ℕ) (old new : RoomOn) : Type 0 where
  pub back : ComesBack g f old.room new.room
  pub rests : need ≤ length old.room.takeable → SameWait g old new
  pub serves : SameWait g old new ⊎ SameWait g (with_all_serving g old) new

-- the transaction freed the block: it is in no list, it may not be taken, and it doesn't wait
abbrev pub is_held_in : Geometry → Tree → RoomOn → ℕ → Bool
is_held_in g t r b = not (is_in_use g t r.room b || (has r.room.takeable b || is_some (r.since b)))

-- A block that was held waits for this point, or may be taken at once where the point is sure as the command ends.
abbrev pub WaitsFor : Moment → ℕ → RoomOn → ℕ → Type 0
WaitsFor end point new b = ((has new.room.takeable b ≡ false) × (new.since b ≡ Some point)) ⊎ (end.sure point × (has new.room.takeable b ≡ true) × (new.since b ≡ None))

-- So it is of each block that was held, and of all others the same is known.
pub record LetsGoIn (g : Geometry) (end : Moment) (t : Tree) (point : ℕ) (old new : RoomOn) : Type 0 where
  pub held : (b : ℕ) → IsData g b → is_held_in g t old b ≡ true → WaitsFor end point new b
  pub takeable : (b : ℕ) → IsData g b → is_held_in g t old b ≡ false → has new.room.takeable b ≡ has old.room.takeable b
  pub since : (b : ℕ) → IsData g b → is_held_in g t old b ≡ false → new.since b ≡ old.since b

-- After a sync that is done: with nothing to commit the same blocks wait. Else what the transaction freed waits for the last point. The others wait on, or all of them may be taken; where the record fits the ring, they wait on.
pub record SyncsRoomOn (g : Geometry) (at end : Moment) (t : Tree) (point : ℕ) (old new : RoomOn) : Type 0 where
  pub idle : old.room.weight ≡ 0 → SameWait g old new
  pub some : 0 < old.room.weight → LetsGoIn g end t point old new ⊎ LetsGoIn g end t point (with_all_serving g old) new
  pub fits : 0 < old.room.weight → at.fits → LetsGoIn g end t point old new

-- A sync is done so, or it was out of memory and the same blocks wait.
abbrev pub EndsSync : Geometry → Moment → Moment → Reply → Session → RoomOn → RoomOn → Type 0
EndsSync g at end reply next old new = SyncsRoomOn g at end next.tree next.points old new ⊎ ((reply ≡ Refused NoMemory) × SameWait g old new)

-- What a command leaves waiting, with the blocks that it needs: a sync so, and any other what waited.
abbrev pub LeavesWaiting : Geometry → Moment → Moment → Cmd → Reply → Session → RoomOn → RoomOn → Type 0
LeavesWaiting g at end cmds.Osync reply next old new = EndsSync g at end reply next old new
LeavesWaiting g at end cmds.Dsync reply next old new = EndsSync g at end reply next old new
LeavesWaiting g at end cmd reply next old new = (b : ℕ) → IsData g b → new.since b ≡ old.since b

-- A command that began and that the disk didn't fail: its tick brings the room back, it has the blocks that it needs, and it is answered in that room.
pub record BeginsAt (g : Geometry) (at end : Moment) (f : Session) (old : RoomOn) (cmd : Cmd) (reply : Reply) (next : Session) (new : RoomOn) : Type 0 where
  pub back : RoomOn
  pub ticks : TicksRoom g at f old back
  pub ready : RoomOn
  pub settles : SettlesRoom g f (figures_in g f back.room cmd).need back ready
  -- nothing settles for what is refused for want of room
  pub full : (why : Refusal) → reply ≡ Refused why → FailsToFit (left_in g f back.room) back.room.weight (most_weight g) (figures_in g f back.room cmd) why → SameWait g back ready
  pub answers : AnswersOver g f ready.room cmd reply next new.room
  pub leaves : LeavesWaiting g at end cmd reply next ready new
  pub is_room : IsRoomOf g next new.room

-- refused at once, and all is as it was; failed by the disk, and it isn't said what serves; or begun
abbrev pub AnyAt : Geometry → Moment → Moment → Session → RoomOn → Cmd → Reply → Session → RoomOn → Type 0
AnyAt g at end f old cmd reply next new =
    (RefusesIn (λ why. (why ≡ Stopped) ⊎ (why ≡ Spent)) f old.room reply next new.room × (new.since ≡ old.since))
    ⊎ (((reply ≡ Refused DiskFault) × BeginsOver g f old.room cmd reply next new.room) ⊎ BeginsAt g at end f old cmd reply next new)

-- How a command is answered, at one moment behind its tick and one as it ends: a bad line as it is; any other, where the disk failed before or the journal's numbers are used up, by that; else once it began, unless the disk fails it.
abbrev pub AnswersAt : Geometry → Moment → Moment → Session → RoomOn → Cmd → Reply → Session → RoomOn → Type 0
AnswersAt g at end f old cmds.Bad reply next new = AnswersIn g f old.room cmds.Bad reply next new.room × (new.since ≡ old.since)
AnswersAt g at end f old cmd reply next new = AnyAt g at end f old cmd reply next new

-- Over blocks.

-- A sync did this behind its tick. Where its record fits the free ring places, or there is nothing to commit, one that only orders adds writes alone, and one that waits does so for records' writes alone. Done, it wrote its record, and out of memory nothing.
pub record SyncsBehind (cmd : Cmd) (reply : Reply) (behind new : State) : Type 0 where
  pub orders : cmd ≡ cmds.Osync → OrdersAtOnce behind.books → GrowsByWrites behind.crash.log new.crash.log
  pub hears : behind.counts.ticks.manner.waits_alone ≡ true → OrdersAtOnce behind.books → HearsRecords behind new
  pub written : is_refusal reply ≡ false → WritesItsRecord behind new
  pub unwritten : reply ≡ Refused NoMemory → new.crash.log ≡ behind.crash.log

-- A wait for point n did this behind its tick: no write came, and each notice that came is of a ticket for which one of the points 1 to n waited. Where the point was durable then, or isn't there, no event came.
pub record WaitsBehind (n : ℕ) (behind new : State) : Type 0 where
  pub hears : behind.counts.ticks.manner.waits_alone ≡ true → HearsUpTo n behind new
  pub still : writes_in new.crash.log ≡ writes_in behind.crash.log
  pub rests : (n ≤ behind.books.floor) ⊎ (behind.books.point < n) → new.crash.log ≡ behind.crash.log

module _ {S : Type 0} (state : S → State) where
  -- A command of a session is answered so, in what the blocks showed. The moment is that behind its tick, which takes no ring places; or it didn't begin, and nothing happens. The tick leaves the transaction and makes no point, and the log tells the records of the ring behind it, unless the tick was all.
  pub record ServesCommand (f : Session) (cmd : Cmd) (reply : Reply) (next : Session) (old new : S) : Type 0 where
    pub behind : S
    pub begins : Advances (state old) (state behind)
    pub goes_on : Advances (state behind) (state new)
    pub manner : (state behind).counts.ticks.manner ≡ (state old).counts.ticks.manner
    pub fits : FitsRing (state old).books → FitsRing (state behind).books
    pub geom : (state behind).books.geom ≡ (state old).books.geom
    pub running : (state behind).books.running ≡ (state old).books.running
    pub point : (state behind).books.point ≡ (state old).books.point
    pub ring : cmd ≢ cmds.Bad → (state old).books.stopped ≡ false → is_spent (state old).books ≡ false → (state old).counts.ticks.manner.waits_alone ≡ true → RingIsTold (state behind) ⊎ ((new ≡ behind) × (reply ≡ Refused DiskFault))
    pub sync : is_sync cmd ≡ true → (state old).books.stopped ≡ false → is_spent (state old).books ≡ false → SyncsBehind cmd reply (state behind) (state new)
    pub wait : (n : ℕ) → cmd ≡ cmds.Dwait n → (state old).books.stopped ≡ false → is_spent (state old).books ≡ false → WaitsBehind n (state behind) (state new)
    -- the tick makes no point wait
    pub still : (p t : ℕ) → (state behind).crash.awaits p t → (state old).crash.awaits p t
    -- a point that is waited for since is a new one, and waits for a write behind the tick
    pub awaits : (p t : ℕ) → (state new).crash.awaits p t → (state old).crash.awaits p t ⊎ (((state old).books.point < p) × (is_accepted t (state behind).crash.log ≡ false))
    pub ticks : cmd ≢ cmds.Bad → (state old).books.stopped ≡ false → is_spent (state old).books ≡ false
        → PollsThenWrites (state old).counts.ticks.manner 64 (state old).counts.ticks.polls (state old).crash.log (state behind).counts.ticks.polls (state behind).crash.log
    pub answers : AnswersAt (state old).books.geom (moment_of (state behind)) (moment_of (state new)) f (room_on (state old)) cmd reply next (room_on (state new))
