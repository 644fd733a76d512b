-- What a sync, or a wait for a sync point, leaves of a map of blocks and of its session. It is described in docs/FILE-SYSTEM.md.
use Rattle.std.specs.Prelude.{◌≡◌, ◌⊎◌, ◌+◌, ◌^◌, ◌<◌, ◌≤◌, nat_le, if◌then◌else◌, ℕ, Bool, false, true, IsTrue, IfOk, IfErr, OnOk, OnErr, Result, Err}
use Rattle.disk_contract.specs.Disk.{GrowsByWrites, writes_in}
use Rattle.lang_tree.specs.declared.command.Cmd.{Cmd}
use Rattle.lang_tree.specs.declared.command.Cmd.TheVariants.{Dsync, Dwait}
use Rattle.lang_tree.specs.declared.command.Refusal.{Refusal}
use Rattle.lang_tree.specs.declared.command.Refusal.TheVariants as because
use Rattle.lang_tree.specs.declared.command.Reply.{Reply}
use Rattle.lang_tree.specs.declared.command.Reply.TheVariants.{Synced, DurableAt, Refused}
use Rattle.lang_tree.specs.Step.{Session, step}
use Rattle.engine_blocks.specs.declared.refusals.SyncRefusal.{SyncRefusal}
use Rattle.engine_blocks.specs.declared.refusals.SyncRefusal.TheVariants as sync
use Rattle.engine_blocks.specs.Running.{nothing_running}
use Rattle.engine_blocks.specs.State.{Bookkeeping, State, IsReusable}
use Rattle.engine_blocks.specs.Calls.{HasTurns, UsesDisk, commit_places, commit_writes, if_changed}
use Rattle.engine_blocks.specs.Crashes.{Advances, HearsRecords, HearsUpTo, MakesPoint, WritesAtMost}
use Rattle.engine_blocks.specs.Effects.{ChangesNothing, OrdersAtOnce, RunsPipeline, WritesItsRecord}
use Rattle.engine_blocks.specs.Serving.{EndsFrees, SameFreed}
use Rattle.fs_files.specs.Finish.{MayGoOn}
use Rattle.fs_session.specs.Commands.{is_disk_fault}
use Rattle.fs_session.specs.Sessions.{IsSession}

-- a sync may be called
pub record MaySyncNow (k : Bookkeeping) : Type 0 where
  pub going : k.stopped ≡ false
  pub turns : HasTurns k
  pub goes_on : MayGoOn k

abbrev pub refusal_of_sync : SyncRefusal → Refusal
refusal_of_sync sync.DiskFault = because.DiskFault
refusal_of_sync sync.NoMemory = because.NoMemory

-- the reply to a sync that is done, by the last point
abbrev pub reply_of_sync : Cmd → ℕ → Reply
reply_of_sync Dsync point = DurableAt point
reply_of_sync cmd point = Synced point

-- The sync is done as the session does it, or refused by the disk or out of memory, and then the session is as it was. Time goes on; where a point came, the map is its, and the writes are those of its record.
-- Where the record fits the free ring places, or there is nothing to commit, one that only orders doesn't wait, and one that waits does so for records' writes alone.
pub record SyncsSession (tells orders : Bool) (cmd : Cmd) (result : Result Reply Refusal) (old new : State) : Type 0 where
  pub done : IsTrue tells → IfOk result (λ reply. (f : Session) → IsSession old f → (reply ≡ (step f cmd).1) × IsSession new (step f cmd).0)
  -- also where contents aren't known, it answers the last point
  pub answers : IfOk result (λ reply. reply ≡ reply_of_sync cmd new.books.point)
  pub kept : IsTrue tells → OnErr result ((f : Session) → IsSession old f → IsSession new f)
  pub refused : IfErr result (λ why. (why ≡ because.DiskFault) ⊎ (why ≡ because.NoMemory))
  -- out of memory, nothing was done, and there was something to commit
  pub unspent : result ≡ Err because.NoMemory → (new.books ≡ old.books) × (0 < old.books.running.weight)
  -- done, nothing is weighed or held any more where anything was weighed; and what might be taken still may
  pub ends : OnOk result (new.books.running ≡ if_changed old.books.running nothing_running old.books.running)
  pub takeable : (b : ℕ) → IsReusable old.books.geom old.books.reusable b → new.books.reusable b ≡ true
  -- done, what the transaction freed waits for the new point
  pub frees : IsTrue tells → OnOk result (EndsFrees old new)
  pub disk : UsesDisk (is_disk_fault result) old new
  pub geom : new.books.geom ≡ old.books.geom
  pub turns : new.books.turns ≤ old.books.turns + 2 ^ 18
  pub one : new.books.point ≤ old.books.point + 1
  -- unless out of memory, one point more where anything was weighed, also where the disk failed
  pub point : (result ≡ Err because.NoMemory → ⊥) → new.books.point ≡ old.books.point + if_changed old.books.running 1 0
  pub map : IsTrue tells → new.map ≡ old.map
  pub ticks : new.counts.ticks ≡ old.counts.ticks
  pub order : IsTrue orders → OrdersAtOnce old.books → new.counts.waits ≡ old.counts.waits
  pub alone : IsTrue tells → IsTrue orders → OrdersAtOnce old.books → GrowsByWrites old.crash.log new.crash.log
  pub waits : IsTrue tells → old.counts.ticks.manner.waits_alone ≡ true → OrdersAtOnce old.books → HearsRecords old new
  -- done, it wrote its record; and out of memory, nothing
  pub written : IsTrue tells → OnOk result (WritesItsRecord old new)
  pub unwritten : IsTrue tells → result ≡ Err because.NoMemory → new.crash.log ≡ old.crash.log
  pub free_places : OnOk result (old.books.free_places ≤ new.books.free_places + if_changed old.books.running (commit_places old.books) 0)
  pub crash : IsTrue tells → Advances old new
  pub made : IsTrue tells → MakesPoint old new
  pub writes : IsTrue tells → WritesAtMost (commit_writes old.books) old new

-- the reply to a wait for point n, by the last point
abbrev pub reply_of_wait : ℕ → ℕ → Reply
reply_of_wait n point = if nat_le n point then DurableAt n else Refused (because.NoPoint point)

-- The wait is done as the session does it, or the disk failed, and the session before it is one of the blocks in either case. The pipeline moves on, and no write comes: each notice was there, or is of a ticket for which one of the points 1 to n waited.
-- Where the point is durable already, or isn't there, nothing happens.
pub record WaitsSession (tells : Bool) (n : ℕ) (result : Result Reply Refusal) (old new : State) : Type 0 where
  pub done : IsTrue tells → IfOk result (λ reply. (f : Session) → IsSession old f → (reply ≡ (step f (Dwait n)).1) × IsSession new (step f (Dwait n)).0)
  -- also where contents aren't known, it goes by the last point
  pub answers : IfOk result (λ reply. reply ≡ reply_of_wait n old.books.point)
  pub kept : IsTrue tells → (f : Session) → IsSession old f → IsSession new f
  pub refused : IfErr result (λ why. why ≡ because.DiskFault)
  pub durable : OnOk result (n ≤ old.books.point → n ≤ new.books.floor)
  pub runs : RunsPipeline tells (is_disk_fault result) old new
  pub frees : SameFreed old.books new.books
  pub ticks : new.counts.ticks ≡ old.counts.ticks
  pub still : IsTrue tells → writes_in new.crash.log ≡ writes_in old.crash.log
  pub waits : IsTrue tells → old.counts.ticks.manner.waits_alone ≡ true → HearsUpTo n old new
  pub idles : n ≤ old.books.floor → ChangesNothing tells old new
  pub none : old.books.point < n → ChangesNothing tells old new
