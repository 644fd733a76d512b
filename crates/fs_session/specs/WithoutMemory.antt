-- Commands where no memory is found: which ones take none, what a sync that is refused so keeps, and what it makes when it is given again. It is described in docs/FILE-SYSTEM.md.
use Rattle.std.specs.Prelude.{◌≡◌, ◌≢◌, ◌+◌, ◌<◌, ◌≤◌, ⊤, Bool, false, IsTrue}
use Rattle.base_types.specs.Counts.{Rose}
use Rattle.disk_contract.specs.Disk.{PollsThenWrites}
use Rattle.lang_tree.specs.declared.command.Cmd.{Cmd}
use Rattle.lang_tree.specs.declared.command.Cmd.TheVariants as cmds
use Rattle.lang_tree.specs.declared.command.Refusal.TheVariants.{NoMemory}
use Rattle.lang_tree.specs.declared.command.Reply.{Reply}
use Rattle.lang_tree.specs.declared.command.Reply.TheVariants.{Refused}
use Rattle.lang_tree.specs.Step.{Session, step}
use Rattle.engine_blocks.specs.Calls.{MovesPipeline, UsesDisk}
use Rattle.engine_blocks.specs.Crashes.{HasMapOfPoint, WritesAtMost}
use Rattle.engine_blocks.specs.Effects.{TellsNone}
use Rattle.engine_blocks.specs.Running.{nothing_running}
use Rattle.engine_blocks.specs.State.{State}
use Rattle.fs_session.specs.Applying.{is_spent}
use Rattle.fs_session.specs.Sessions.{IsSession}
use Rattle.fs_session.specs.Syncs.{reply_of_sync}

-- The command takes no memory: a bad line, one that asks for points or for nothing, one that waits for a point, or a sync with nothing to commit.
abbrev pub TakesNoMemory : State → Cmd → Type 0
TakesNoMemory s cmds.Bad = ⊤
TakesNoMemory s cmds.Poll = ⊤
TakesNoMemory s cmds.Durable = ⊤
TakesNoMemory s (cmds.Dwait n) = ⊤
TakesNoMemory s cmds.Osync = s.books.running.weight ≡ 0
TakesNoMemory s cmds.Dsync = s.books.running.weight ≡ 0
TakesNoMemory s _ = ⊥

-- The point that a command waits for was made; any other command waits for none.
abbrev pub HasItsPoint : State → Cmd → Type 0
HasItsPoint s (cmds.Dwait n) = n ≤ s.books.point
HasItsPoint s _ = ⊤

-- Nothing of the disk stands against a command: no call failed before, the journal's numbers aren't used up, and the count of failed calls, reads apart, neither rises nor is at its last value.
pub record IsUnhindered (old new : State) : Type 0 where
  pub going : old.books.stopped ≡ false
  pub unspent : is_spent old.books ≡ false
  pub calm : Rose old.counts.faults new.counts.faults → ⊥

-- So it is, and the command isn't out of memory.
pub record FindsMemory (reply : Reply) (old new : State) : Type 0 where
  pub disk : IsUnhindered old new
  pub memory : reply ≢ Refused NoMemory

-- A sync was out of memory where something was weighed. Its tick polled and moved the pipeline, which wrote what was owed. Behind that no event came, so none of its record; and the transaction is as it was, with its weight, its blocks and what it holds, as are map and session.
pub record KeepsTransaction (tells : Bool) (old new : State) : Type 0 where
  pub weighed : 0 < old.books.running.weight
  pub moves : MovesPipeline old.books new.books
  pub disk : UsesDisk false old new
  pub map : IsTrue tells → new.map ≡ old.map
  pub session : IsTrue tells → (f : Session) → IsSession old f → IsSession new f
  pub told : IsTrue tells → TellsNone old new
  pub writes : IsTrue tells → WritesAtMost 0 old new
  pub events : IsTrue tells → PollsThenWrites old.counts.ticks.manner 64 old.counts.ticks.polls old.crash.log new.counts.ticks.polls new.crash.log

-- A sync made the next point: it answers its number, and as each session of these blocks does, and the blocks are one of the session behind it. The point has the map as it is, and the transaction is empty.
pub record MakesNextPoint (tells : Bool) (cmd : Cmd) (reply : Reply) (old new : State) : Type 0 where
  pub answer : reply ≡ reply_of_sync cmd (old.books.point + 1)
  pub session : IsTrue tells → (f : Session) → IsSession old f → (reply ≡ (step f cmd).1) × IsSession new (step f cmd).0
  pub point : new.books.point ≡ old.books.point + 1
  pub map : IsTrue tells → new.map ≡ old.map
  pub tree : IsTrue tells → HasMapOfPoint new (old.books.point + 1)
  pub running : new.books.running ≡ nothing_running
