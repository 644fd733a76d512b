-- What one command did over blocks on a disk, as the file system and the disk say it of any blocks; and laws of other crates, gathered. Only proofs speak of it.
use Rattle.std.specs.Prelude.{◌≡◌, ◌≢◌, ◌⊎◌, ℕ, ◌+◌, ◌≤◌, ◌<◌, ◌||◌, nat_lt, Bool, false, true, List, [], ◌∷◌, ◌++◌, length, take, Some}
use Rattle.std.specs.FinMap.{get}
use Rattle.base_types.specs.Seal.{Blocks}
use Rattle.disk_contract.specs.declared.event.Event.{Event}
use Rattle.disk_contract.specs.Cell.{cell_of, has_lost, is_accepted, IsNoticed}
use Rattle.disk_contract.specs.Disk.{Grows, GrowsByWrites, PollsFirst, PollsThenWrites, writes_in}
use Rattle.disk_contract.specs.Manner.{HasFailedBy}
use Rattle.layout_geometry.specs.Geometry.{Geometry, IsGeometry}
use Rattle.layout_journal.specs.declared.header.Header.{Header}
use Rattle.layout_journal.specs.declared.record.Commit.{Commit}
use Rattle.layout_journal.specs.Layout.{descriptor_count}
use Rattle.layout_journal.specs.Run.{HeldIs, Newest, places_from, writes_told}
use Rattle.lang_tree.specs.declared.command.Cmd.{Cmd}
use Rattle.lang_tree.specs.declared.command.Cmd.TheVariants.{Bad, Durable, Dwait, Osync}
use Rattle.lang_tree.specs.declared.command.Refusal.{Refusal}
use Rattle.lang_tree.specs.declared.command.Refusal.TheVariants.{DiskFault, NoMemory, ReadFault, Spent, Stopped}
use Rattle.lang_tree.specs.declared.command.Reply.{Reply}
use Rattle.lang_tree.specs.declared.command.Reply.TheVariants.{Known, Refused}
use Rattle.lang_tree.specs.Conditions.{is_snapshot}
use Rattle.lang_tree.specs.Figures.{figures}
use Rattle.lang_tree.specs.Points.{after_reply, is_refusal, is_sync}
use Rattle.lang_tree.specs.Run.{Answers}
use Rattle.lang_tree.specs.Sharing.{BlocksAlone, SharedNodes, figures_over}
use Rattle.lang_tree.specs.Step.{Session, step}
use Rattle.lang_tree.specs.Tree.{Kept, Snapshots, Tree, IsSound}
use Rattle.crash_stands.specs.Stands.{IsTreeOf}
use Rattle.engine_blocks.specs.Calls.{commit_places, commit_writes}
use Rattle.engine_blocks.specs.Crashes.{AwaitsSince, MayAwait, StandsForLast, StillAwaits, WritesAtMost}
use Rattle.engine_blocks.specs.Running.{fresh_blocks, payloads}
use Rattle.engine_blocks.specs.State.{State}
use Rattle.fs_session.specs.Applying.{NeedsNoWait, PassesTime}
use Rattle.fs_session.specs.DiskRoom.{IsRoomOf}
use Rattle.fs_session.specs.Memory.{room_of}
use Rattle.fs_session.specs.Serving.{AnswersAt, Moment, room_on}
use Rattle.fs_session.specs.Sessions.{IsSession}
use Rattle.cmd_session.specs.Budget.{sync_budget, sync_places, writes_of}
use Rattle.cmd_session.specs.Going.{KeepsPlaces}
use Rattle.cmd_session.specs.Places.{LiesAt}
use Rattle.cmd_session.specs.Serving.{IsDrawn}

-- What other crates say of trees that stand in blocks, of images that are alike, of replies, of numbers of snapshots, and of what costs nothing.
pub record PlaceLaws (g : Geometry) : Type 0 where
  pub limits : IsGeometry g
  pub sound : (k : Geometry) (m : Blocks) (t : Tree) → IsTreeOf k m t → IsSound k.i t
  pub alike : (n : ℕ) (img other m : Blocks) → ((b : ℕ) → b < n → img b ≡ other b) → HeldIs n img m → HeldIs n other m
  pub newest : (n : ℕ) (img : Blocks) (s t : ℕ) (h k : Header) → Newest n img s h → Newest n img t k → (s ≡ t) × (h ≡ k)
  pub replies : (outside : Refusal → Bool) (old new : Session) (cmd : Cmd) (reply : Reply) → Answers outside old cmd reply new → new ≡ after_reply old cmd reply
  pub numbers : (m : Snapshots) (n : ℕ) → is_snapshot m n ≡ true → (name : List ℕ) × (k : Kept) × (get m name ≡ Some k) × (k.number ≡ n)
  pub changes : (bitmap : ℕ) (s : Session) (cmd : Cmd) → is_sync cmd ≡ false → (step s cmd).0.changed ≡ (s.changed || nat_lt 0 (figures bitmap s cmd).cost)
  pub shared : (bitmap : ℕ) (shared : SharedNodes) (alone : BlocksAlone) (s : Session) (cmd : Cmd) → nat_lt 0 (figures_over bitmap shared alone s cmd).cost ≡ nat_lt 0 (figures bitmap s cmd).cost

-- what the disk did for one command
pub record StepsOn (cmd : Cmd) (reply : Reply) (old new : State) : Type 0 where
  pub manner : new.counts.ticks.manner ≡ old.counts.ticks.manner
  pub rests : (cmd ≡ Bad) ⊎ (old.books.stopped ≡ true) → (new.counts.ticks.polls ≡ old.counts.ticks.polls) × ((new.crash.log ≡ old.crash.log) × (new.books.stopped ≡ old.books.stopped))
  pub idles : (f : Session) → IsSession old f → reply ≡ Refused Spent → (new.counts.ticks.polls ≡ old.counts.ticks.polls) × (new.crash.log ≡ old.crash.log)
  pub ticks : cmd ≢ Bad → old.books.stopped ≡ false → reply ≢ Refused Spent → PollsFirst old.counts.ticks.manner 64 old.counts.ticks.polls old.crash.log new.counts.ticks.polls new.crash.log
  pub stops : (f : Session) → IsSession old f → reply ≡ Refused Stopped → old.books.stopped ≡ true
  pub halts : cmd ≢ Bad → old.books.stopped ≡ true → reply ≡ Refused Stopped
  pub reads : (f : Session) → IsSession old f → reply ≡ Refused ReadFault → new.counts.ticks.manner.reads_fail ≡ true
  pub fails : new.books.stopped ≡ true → ∥ HasFailedBy new.counts.ticks.manner new.crash.log ∥₁
  pub first : reply ≡ Refused DiskFault → old.books.stopped ≡ false
  pub uncounted : new.books.stopped ≡ false → new.counts.faults ≡ old.counts.faults
  pub unlost : new.counts.ticks.manner.waits_alone ≡ true → new.counts.faults ≡ 0 → has_lost new.crash.log ≡ false

-- what one command waited for, and what the points wait for after it
pub record WaitsOn (cmd : Cmd) (reply : Reply) (old new : State) : Type 0 where
  pub calm : cmd ≢ Bad → old.books.stopped ≡ false → reply ≢ Refused Spent → (f : Session) → IsSession old f → NeedsNoWait old f cmd → PollsThenWrites old.counts.ticks.manner 64 old.counts.ticks.polls old.crash.log new.counts.ticks.polls new.crash.log
  pub fits : commit_places old.books ≤ sync_places old.books.running.weight
  pub few : commit_writes old.books ≤ sync_budget old.books.running.weight
  pub writes : WritesAtMost (writes_of cmd reply old.books) old new
  pub floor : old.books.floor ≤ new.books.floor
  pub rests : old.books.stopped ≡ true → new.books.owed ≡ old.books.owed
  pub room : (f : Session) → IsSession old f → IsRoomOf old.books.geom f (room_of old)
  pub awaits : (p t : ℕ) → new.crash.awaits p t → old.crash.awaits p t ⊎ AwaitsSince old p t
  pub may : (p t : ℕ) → new.crash.awaits p t → MayAwait new p t
  pub known : (n : ℕ) → cmd ≡ Durable → reply ≡ Known n → (n ≡ new.books.floor) × (new.books.stopped ≡ false) × (new.books.point ≡ old.books.point)
  pub still : new.books.stopped ≡ false → new.books.floor < new.books.point → ∥ StillAwaits new (new.books.floor + 1) ∥₁

-- What one command leaves of the sync points: time goes on, all that was issued is the last point while no call of the disk failed, and the view of crashes is the disk's.
pub record PassesPoints (old new : State) : Type 0 where
  pub time : PassesTime old new
  pub last : new.books.stopped ≡ false → StandsForLast new
  pub drawn : IsDrawn new

-- what is known of the disk under these blocks after such events, and this of the ring's places
abbrev pub moment_over : State → List Event → Type 0 → Moment
moment_over s front fits = record { alone = s.counts.ticks.manner.waits_alone; sure = λ p. s.crash.sure front p; rests = λ b. (cell_of s.crash.base front b).pending ≡ []; fits = fits }

-- what a sync would commit needs no ring place to come back, where so many are free
abbrev pub FitsAmong : State → ℕ → Type 0
FitsAmong s free = (commit_places s.books ≤ free) ⊎ (s.books.running.weight ≡ 0)

-- These are the records of the ring behind these events, one for each point, and so many of its places are free.
pub record FreesAmong (s : State) (behind : List Event) (free : ℕ) (told : List Commit) : Type 0 where
  pub one : length told ≡ s.books.point
  pub starts : ∥ ((number : ℕ) × s.crash.records.starts behind number) ∥₁
  pub places : (number : ℕ) → s.crash.records.starts behind number → s.books.geom.j ≡ free + places_from number told

-- behind these events, which tell the records of the ring, so many of its places are free
abbrev pub FreesBy : State → List Event → ℕ → Type 0
FreesBy s behind free = (told : List Commit) → s.crash.records.told behind ≡ Some told → FreesAmong s behind free told

-- A record of the transaction before was written, and its writes are the last ones: those behind so many events.
pub record WritesIn (old : State) (behind : List Event) (free : ℕ) (new : State) : Type 0 where
  pub begun : ℕ
  pub from : length behind ≤ begun
  pub upto : begun ≤ length new.crash.log
  pub commit : Commit
  pub payloads : commit.payloads ≡ payloads old.books.geom old.books.running
  pub fresh : commit.fresh ≡ fresh_blocks old.books.geom old.books.running
  pub descriptors : commit.descriptors ≡ descriptor_count (commit.payloads + commit.fresh)
  pub told : (before : List Commit) → old.crash.records.told behind ≡ Some before → old.crash.records.told new.crash.log ≡ Some (before ++ commit ∷ [])
  pub writes : writes_in new.crash.log ≤ writes_in (take begun new.crash.log) + writes_told commit
  pub awaits : (t : ℕ) → new.crash.awaits new.books.point t → is_accepted t (take begun new.crash.log) ≡ false
  pub fits : commit_places old.books ≤ free → begun ≡ length behind

-- What a sync did behind these events, with so many ring places free: what it waited for, and its record.
pub record SyncsIn (cmd : Cmd) (reply : Reply) (old : State) (behind : List Event) (free : ℕ) (new : State) : Type 0 where
  pub orders : cmd ≡ Osync → FitsAmong old free → GrowsByWrites behind new.crash.log
  pub hears : old.counts.ticks.manner.waits_alone ≡ true → FitsAmong old free → (t : ℕ) → IsNoticed t new.crash.log → IsNoticed t behind ⊎ (∥ ((q : ℕ) × old.crash.awaits q t) ∥₁ ⊎ (is_accepted t behind ≡ false))
  pub written : is_refusal reply ≡ false → 0 < old.books.running.weight → WritesIn old behind free new
  pub idle : is_refusal reply ≡ false → old.books.running.weight ≡ 0 → (old.crash.records.told new.crash.log ≡ old.crash.records.told behind) × (writes_in new.crash.log ≡ writes_in behind)
  pub unwritten : reply ≡ Refused NoMemory → new.crash.log ≡ behind

-- What a wait for point n did behind these events: no write came, and each notice that came is of a ticket for which one of the points 1 to n waited.
pub record WaitsIn (n : ℕ) (old : State) (behind : List Event) (new : State) : Type 0 where
  pub hears : old.counts.ticks.manner.waits_alone ≡ true → (t : ℕ) → IsNoticed t new.crash.log → IsNoticed t behind ⊎ ∥ ((q : ℕ) × (1 ≤ q) × (q ≤ n) × old.crash.awaits q t) ∥₁
  pub still : writes_in new.crash.log ≡ writes_in behind

-- A command was answered in the room of its session with what waits: with these events behind its tick, where so many ring places are free.
pub record AnsweredIn (f : Session) (cmd : Cmd) (reply : Reply) (next : Session) (old new : State) : Type 0 where
  pub behind : List Event
  pub begins : Grows old.crash.log behind
  pub goes_on : Grows behind new.crash.log
  pub polls : ℕ
  pub ticks : cmd ≢ Bad → old.books.stopped ≡ false → reply ≢ Refused Spent → PollsThenWrites old.counts.ticks.manner 64 old.counts.ticks.polls old.crash.log polls behind
  -- a point that is waited for since is a new one, and waits for a write behind the tick
  pub awaits : (p t : ℕ) → new.crash.awaits p t → old.crash.awaits p t ⊎ ((old.books.point < p) × (is_accepted t behind ≡ false))
  pub free : ℕ
  -- as the log tells it, unless the tick was all
  pub ring : cmd ≢ Bad → old.books.stopped ≡ false → reply ≢ Refused Spent → old.counts.ticks.manner.waits_alone ≡ true → FreesBy old behind free ⊎ ((new.crash.log ≡ behind) × (reply ≡ Refused DiskFault))
  pub sync : is_sync cmd ≡ true → old.books.stopped ≡ false → reply ≢ Refused Spent → SyncsIn cmd reply old behind free new
  pub wait : (n : ℕ) → cmd ≡ Dwait n → old.books.stopped ≡ false → reply ≢ Refused Spent → WaitsIn n old behind new
  pub answers : AnswersAt old.books.geom (moment_over old behind (commit_places old.books ≤ free)) (moment_over old new.crash.log ⊥) f (room_on old) cmd reply next (room_on new)

-- While no call of the disk failed and nothing changed since the last point, each node has its blocks where the room says, in that point's map, and in one that the image with all that was issued holds.
pub record StaysPlaced (g : Geometry) (base : Blocks) (f : Session) (s : State) : Type 0 where
  pub keeps : KeepsPlaces g f s
  pub lies : s.books.stopped ≡ false → f.changed ≡ false → ∥ LiesAt g base s.crash.log (room_of s).places ∥₁
