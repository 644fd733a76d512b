-- What each command of a run does on its disk, by the disk's manner and its log: which notices come and when, what it waits for, which writes come and are lost, when freed blocks may be taken again, and when a reply is a refusal for the disk. It is described in docs/TRACE.md.
use Rattle.std.specs.Prelude.{◌≡◌, ◌≢◌, ◌⊎◌, ⊤, ℕ, ◌+◌, ◌||◌, ◌<◌, ◌≤◌, if◌then◌else◌, Bool, true, false, IsTrue, slice_get, List, [], ◌∷◌, ◌++◌, length, take, drop, Some}
use Rattle.base_types.specs.Seal.{Blocks}
use Rattle.disk_contract.specs.declared.event.Event.{Event}
use Rattle.disk_contract.specs.Cell.{cell_of, has_lost, IsNoticed}
use Rattle.disk_contract.specs.Disk.{PollsFirst, PollsThenWrites, writes_in}
use Rattle.disk_contract.specs.Manner.{Manner, LosesLast, Polled, after_polls}
use Rattle.layout_journal.specs.declared.header.Header.{Header}
use Rattle.layout_journal.specs.declared.record.Commit.{Commit}
use Rattle.layout_journal.specs.Run.{places_from, places_told, writes_told}
use Rattle.crash_argument.specs.Points.{MountedSession, records_told}
use Rattle.engine_checkpoint.specs.Serving.{IsNewestAtRest}
use Rattle.lang_tree.specs.declared.command.Cmd.{Cmd}
use Rattle.lang_tree.specs.declared.command.Cmd.TheVariants.{Osync, Dsync, Durable, Dwait, Poll, Bad}
use Rattle.lang_tree.specs.declared.command.Refusal.TheVariants.{ReadFault, DiskFault, Stopped, Spent, NoMemory}
use Rattle.lang_tree.specs.declared.command.Reply.{Reply}
use Rattle.lang_tree.specs.declared.command.Reply.TheVariants.{Known, Refused}
use Rattle.lang_tree.specs.Points.{is_refusal, is_sync, promised_by}
use Rattle.engine_store.specs.SessionView.{IsSure}
use Rattle.fs_session.specs.Room.{Room, figures_in}
use Rattle.fs_session.specs.Serving.{AnswersAt, Moment, RoomOn}
use Rattle.cmd_session.specs.Budget.{sync_places}
use Rattle.cmd_session.specs.Places.{LiesAt}
use Rattle.cmd_session.specs.Records.{own_records}
use Rattle.cmd_session.specs.Taking.{CameIn, Span, Taken, is_done_sync, places_wanted, taken_by}

-- In what follows, the session was mounted on a disk that had the blocks `base` when it began.

-- This is the newest header at rest, and so many places fit the ring beside the records from its start on.
pub record FitsUnder (s : MountedSession) (base : Blocks) (behind : List Event) (wanted : ℕ) (header : Header) : Type 0 where
  pub newest : IsNewestAtRest s.geom.n (cell_of base behind) header
  pub fits : places_from header.start (records_told s behind) + wanted ≤ s.geom.j

-- a sync finds so many ring places behind its tick
abbrev pub FindsPlaces : MountedSession → Blocks → List Event → ℕ → Type 0
FindsPlaces s base behind wanted = ∥ ((header : Header) × FitsUnder s base behind wanted header) ∥₁

-- with a transaction of this weight it needs none, as there is nothing to commit, or it finds them
abbrev pub OrdersAtOnce : MountedSession → Blocks → List Event → ℕ → ℕ → Type 0
OrdersAtOnce s base behind w wanted = (w ≡ 0) ⊎ FindsPlaces s base behind wanted

-- The command has no reason to wait for the disk, in the room before it, where all points up to one are known to be durable, and where it wants so many ring places behind its tick: one that only orders needs none or finds them; one on the tree finds that as many blocks may be taken as it needs; one that waits for a point finds that it is known to be durable, or isn't there; and any other needs nothing. A dsync always has a reason.
abbrev pub FindsRoom : MountedSession → Blocks → List Event → Taken → Room → ℕ → ℕ → Cmd → Type 0
FindsRoom s base behind t r known wanted Osync = OrdersAtOnce s base behind r.weight wanted
FindsRoom s base behind t r known wanted Dsync = ⊥
FindsRoom s base behind t r known wanted Durable = ⊤
FindsRoom s base behind t r known wanted (Dwait n) = (n ≤ known) ⊎ (t.session.points < n)
FindsRoom s base behind t r known wanted Poll = ⊤
FindsRoom s base behind t r known wanted Bad = ⊤
FindsRoom s base behind t r known wanted cmd = (figures_in s.geom t.session r cmd).need ≤ length r.takeable

-- each notice of the log is one of those before, or that of a write which came in one of these spans
abbrev pub HearsIn : List Span → List Event → List Event → Type 0
HearsIn spans before log = (t : ℕ) → IsNoticed t log → IsNoticed t before ⊎ ∥ ((k : ℕ) × (span : Span) × (slice_get spans k ≡ Some span) × CameIn log span t) ∥₁

-- Where point n isn't the last one, a write of the next one's record has no notice yet. So no later point is known to be durable.
pub record KnowsUpTo (spans : List Span) (log : List Event) (n : ℕ) : Type 0 where
  pub next : n < length spans → ∥ ((span : Span) × (t : ℕ) × (slice_get spans n ≡ Some span) × CameIn log span t × ¬ IsNoticed t log) ∥₁

-- what is known of the disk after these events, and this of the ring's places: a point is sure where the newest header at rest makes it so
abbrev pub moment_by : MountedSession → Blocks → Manner → List Event → Type 0 → Moment
moment_by s base m front fits = record {
  alone = m.waits_alone;
  sure = λ p. ∥ IsSure s base front p ∥₁;
  rests = λ b. (cell_of base front b).pending ≡ [];
  fits = fits;
}

-- how far a run has come on its disk: how often the disk was polled, how many events there are, whether a call of the disk, other than a read, has failed in a command, up to which point all are known to be durable, what was taken, and the room of the session with what waits
pub record Pace : Type 0 where
  pub polls : ℕ
  pub events : ℕ
  pub over : Bool
  pub durable : ℕ
  pub taken : Taken
  pub room : RoomOn

-- a command was refused since a call of the disk failed
abbrev pub is_fault : Reply → Bool
is_fault (Refused DiskFault) = true
is_fault _ = false

-- a sync that is done, with something to commit, finds ring places behind so many events, while no call of the disk has failed
pub record DoneInRing (s : MountedSession) (base : Blocks) (m : Manner) (log : List Event) (cmd : Cmd) (reply : Reply) (old : Pace) (behind mark : ℕ) : Type 0 where
  pub done : is_done_sync cmd reply ≡ true
  pub some : 0 < old.room.room.weight
  pub going : old.over ≡ false
  pub alone : m.waits_alone ≡ true
  pub finds : FindsPlaces s base (take behind log) (places_wanted reply old.room.room.weight (own_records s log behind mark))

-- One command is answered in the room that the disk's log gives. Behind the notices of its tick, and writes, just those freed blocks may be taken again whose point the newest header at rest makes sure, and on which nothing is pending.
pub record AnswersBy (s : MountedSession) (base : Blocks) (m : Manner) (log : List Event) (cmd : Cmd) (reply : Reply) (old new : Pace) : Type 0 where
  -- so many events there are behind the tick, and so many polls
  pub behind : ℕ
  pub from : old.events ≤ behind
  pub upto : behind ≤ new.events
  pub polls : ℕ
  pub ticks : cmd ≢ Bad → old.over ≡ false → reply ≢ Refused Spent → PollsThenWrites m 64 old.polls (take old.events log) polls (take behind log)
  pub answers : AnswersAt s.geom (moment_by s base m (take behind log) (DoneInRing s base m log cmd reply old behind new.events)) (moment_by s base m (take new.events log) ⊥) old.taken.session old.room cmd reply new.taken.session new.room

-- A sync that is done wrote one record, which the log tells, and which takes no more places than one of this weight may. Its own writes are the last up to the mark: those behind `begun` events, as many as a record of its size has. Where it finds ring places, and a wait brings the notice of its own ticket alone, nothing else came behind the tick.
pub record WritesRecordBy (s : MountedSession) (base : Blocks) (m : Manner) (log : List Event) (weight behind begun mark : ℕ) : Type 0 where
  pub commit : Commit
  pub own : own_records s log behind mark ≡ commit ∷ []
  pub size : places_told commit ≤ sync_places weight
  pub upto : begun ≤ mark
  pub writes : writes_in (take mark log) ≤ writes_in (take begun log) + writes_told commit
  pub fits : m.waits_alone ≡ true → FindsPlaces s base (take behind log) (places_told commit) → begun ≡ behind

-- the last event is a write that was lost so, and it came behind the first `from` events
pub record LosesSince (m : Manner) (from : ℕ) (log : List Event) : Type 0 where
  pub last : LosesLast m log
  pub since : from ≤ length last.before

-- a call other than a read has failed with this log behind it, as `HasFailedBy` has it, and a write that is lost came behind the first `from` events
abbrev pub FailsSince : Manner → ℕ → List Event → Type 0
FailsSince m from log = LosesSince m from log ⊎ (IsTrue (m.refuses log) ⊎ IsTrue m.stalls)

-- Behind a tick the log tells the records of the syncs that are done, and no others; and a header is at rest.
pub record TellsRing (s : MountedSession) (base : Blocks) (behind : List Event) (records : List Commit) : Type 0 where
  pub told : records_told s behind ≡ records
  pub header : ∥ ((header : Header) × IsNewestAtRest s.geom.n (cell_of base behind) header) ∥₁

-- What one command does behind its tick, by the log. With no reason to wait no notice comes. A dsync that needs no ring places, or finds them, waits for the writes of records alone, where a wait brings the notice of its own ticket alone; one that fails may have written of its own. A dwait writes nothing, and waits for the writes of its points' records alone.
pub record DoesBehind (s : MountedSession) (base : Blocks) (m : Manner) (log : List Event) (cmd : Cmd) (reply : Reply) (old new : Pace) (behind : ℕ) : Type 0 where
  -- the writes of its record come behind so many events
  pub begun : ℕ
  pub from : behind ≤ begun
  pub taken : new.taken ≡ taken_by old.taken old.room.room.weight cmd reply (own_records s log behind new.events) (record { begun = begun; mark = new.events })
  -- unless the disk failed the tick, which was all then
  pub ring : cmd ≢ Bad → old.over ≡ false → reply ≢ Refused Spent → m.waits_alone ≡ true → TellsRing s base (take behind log) old.taken.records ⊎ ((new.events ≡ behind) × (reply ≡ Refused DiskFault))
  -- a sync that is done writes its record, one of nothing writes nothing, and to one that finds no memory nothing happens
  pub written : is_done_sync cmd reply ≡ true → old.over ≡ false → 0 < old.room.room.weight → WritesRecordBy s base m log old.room.room.weight behind begun new.events
  pub idle : is_done_sync cmd reply ≡ true → old.over ≡ false → old.room.room.weight ≡ 0 → writes_in (take new.events log) ≡ writes_in (take behind log)
  pub unwritten : is_sync cmd ≡ true → old.over ≡ false → reply ≡ Refused NoMemory → new.events ≡ behind
  pub calm : cmd ≢ Bad → old.over ≡ false → reply ≢ Refused Spent → m.waits_alone ≡ true → FindsRoom s base (take behind log) old.taken old.room.room old.durable (places_wanted reply old.room.room.weight (own_records s log behind new.events)) cmd → PollsThenWrites m 64 old.polls (take old.events log) new.polls (take new.events log)
  pub waits : cmd ≡ Dsync → old.over ≡ false → reply ≢ Refused Spent → m.waits_alone ≡ true → OrdersAtOnce s base (take behind log) old.room.room.weight (places_wanted reply old.room.room.weight (own_records s log behind new.events)) → (p : Polled) → after_polls m 64 old.polls (take old.events log) ≡ Some p
      → HearsIn (new.taken.spans ++ (if is_refusal reply then record { begun = behind; mark = new.events } ∷ [] else [])) p.log (take new.events log)
  pub waits_upto : (n : ℕ) → cmd ≡ Dwait n → old.over ≡ false → reply ≢ Refused Spent → m.waits_alone ≡ true → (p : Polled) → after_polls m 64 old.polls (take old.events log) ≡ Some p → HearsIn (take n old.taken.spans) p.log (take new.events log)
  pub quiet : (n : ℕ) → cmd ≡ Dwait n → old.over ≡ false → reply ≢ Refused Spent → writes_in (take new.events log) ≡ writes_in (take behind log)

-- One command of a run on a disk of this manner. A line that is none brings no event, nothing does once a call of the disk has failed, and no command that is refused as spent does. Any other command begins with the notices of its tick: those of 64 polls, or of the polls up to the first that has none; and there is no other poll. A command is refused as stopped just then. It is refused for a failed read only where reads may fail. Where no write was lost before it, it is refused for another failed call only where its own last event is a lost write, or the disk's manner lets a call fail here. Where a wait brings the notice of its own ticket alone that needn't be known, and where a write was lost among the command's events it is refused so.
pub record StepsBy (s : MountedSession) (base : Blocks) (m : Manner) (log : List Event) (cmd : Cmd) (reply : Reply) (old new : Pace) : Type 0 where
  pub over : new.over ≡ (old.over || is_fault reply)
  pub room : AnswersBy s base m log cmd reply old new
  pub does : DoesBehind s base m log cmd reply old new room.behind
  -- the writes since the mount are at most those for which the records stand, this one's included
  pub spends : writes_in (take new.events log) ≤ writes_in (take s.mounted log) + new.taken.budget
  pub rests : (cmd ≡ Bad) ⊎ ((old.over ≡ true) ⊎ (reply ≡ Refused Spent)) → (new.polls ≡ old.polls) × (new.events ≡ old.events)
  pub ticks : cmd ≢ Bad → old.over ≡ false → reply ≢ Refused Spent → PollsFirst m 64 old.polls (take old.events log) new.polls (take new.events log)
  -- `durable` is answered by no earlier point than is known, where a wait brings the notice of its own ticket alone; and what it is answered by never falls
  pub known : (n : ℕ) → cmd ≡ Durable → reply ≡ Known n → m.waits_alone ≡ true → KnowsUpTo old.taken.spans (take new.events log) n
  pub told : (n : ℕ) → cmd ≡ Durable → reply ≡ Known n → n ≡ new.durable
  -- what a reply promises is known to be durable
  pub promised : promised_by reply ≤ new.durable
  pub rises : old.durable ≤ new.durable
  pub stops : reply ≡ Refused Stopped → old.over ≡ true
  pub halts : cmd ≢ Bad → old.over ≡ true → reply ≡ Refused Stopped
  pub reads : reply ≡ Refused ReadFault → m.reads_fail ≡ true
  pub fails : (m.waits_alone ≡ true) ⊎ (has_lost (take old.events log) ≡ false) → reply ≡ Refused DiskFault → ∥ FailsSince m old.events (take new.events log) ∥₁
  pub loses : m.waits_alone ≡ true → has_lost (drop old.events (take new.events log)) ≡ true → reply ≡ Refused DiskFault
  -- where nothing changed since the last point, as behind a sync that is done, each node's blocks lie where the room says, in the image that has all that was issued
  pub lies : new.over ≡ false → new.taken.session.changed ≡ false → ∥ LiesAt s.geom base (take new.events log) new.room.room.places ∥₁

-- these commands, one after the other, each with its reply and its mark
abbrev pub PacesBy : MountedSession → Blocks → Manner → List Event → Pace → List Cmd → List Reply → List ℕ → Pace → Type 0
PacesBy s base m log p [] [] [] end = end ≡ p
PacesBy s base m log p (cmd ∷ cmds) (reply ∷ replies) (mark ∷ marks) end = (next : Pace) × (next.events ≡ mark) × StepsBy s base m log cmd reply p next × PacesBy s base m log next cmds replies marks end
PacesBy s base m log p _ _ _ end = ⊥
