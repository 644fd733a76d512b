-- How a file system answers a command of a script: whether it begins, with a tick, and what is done then. It is described in docs/FILE-SYSTEM.md.
use Rattle.std.specs.Prelude.{◌≡◌, ◌≢◌, ◌⊎◌, ◌+◌, ◌^◌, ◌-◌, ◌≤◌, ◌<◌, nat_le, ⊤, Bool, true, false, IsTrue, length, Result, Ok, Err}
use Rattle.lang_tree.specs.declared.command.Cmd.{Cmd}
use Rattle.lang_tree.specs.declared.command.Cmd.TheVariants.{Osync, Dsync, Durable, Dwait, Poll, Bad}
use Rattle.lang_tree.specs.declared.command.Refusal.{Refusal}
use Rattle.lang_tree.specs.declared.command.Refusal.TheVariants.{DiskFault, Stopped, Spent}
use Rattle.lang_tree.specs.declared.command.Reply.{Reply}
use Rattle.lang_tree.specs.declared.command.Reply.TheVariants.{Ok as Done, Known, Bad as NotUnderstood, Refused}
use Rattle.disk_contract.specs.Disk.{PollsThenWrites}
use Rattle.engine_blocks.specs.State.{Bookkeeping, State, reusable_blocks}
use Rattle.lang_tree.specs.Run.{Answers, is_of_disk}
use Rattle.lang_tree.specs.Step.{Session}
use Rattle.engine_blocks.specs.Crashes.{Advances, MakesPoint}
use Rattle.engine_blocks.specs.Effects.{OrdersAtOnce, RingIsTold, RunsPipeline, Ticked}
use Rattle.engine_blocks.specs.Serving.{ServesSure}
use Rattle.fs_session.specs.Commands.{Carries, figures_on}
use Rattle.fs_session.specs.Sessions.{IsSession}
use Rattle.fs_session.specs.Syncs.{SyncsSession, WaitsSession}

-- the journal's numbers are used up
abbrev pub is_spent : Bookkeeping → Bool
is_spent k = nat_le (2 ^ 63 - 8) k.turns

-- The notifications that came were taken, and the pipeline moved by a step; the disk failed, or not.
pub record Ticks (tells failed : Bool) (old new : State) : Type 0 where
  pub moves : RunsPipeline tells failed old new
  pub waits : new.counts.waits ≡ old.counts.waits
  pub ticks : Ticked tells old new
  pub writes : IsTrue tells → PollsThenWrites old.counts.ticks.manner 64 old.counts.ticks.polls old.crash.log new.counts.ticks.polls new.crash.log
  pub serves : IsTrue tells → old.counts.ticks.manner.waits_alone ≡ true → failed ≡ false → ServesSure old new
  pub ring : IsTrue tells → old.counts.ticks.manner.waits_alone ≡ true → failed ≡ false → RingIsTold new

-- The command needn't wait for the disk: one that only orders has nothing to commit, or ring places for its record, one on the tree finds as many blocks as it needs, one that waits for a point finds that it is durable or isn't there, and any other asks for none. A dsync may always wait.
abbrev pub NeedsNoWait : State → Session → Cmd → Type 0
NeedsNoWait s f Osync = OrdersAtOnce s.books
NeedsNoWait s f Dsync = ⊥
NeedsNoWait s f Durable = ⊤
NeedsNoWait s f (Dwait n) = (n ≤ s.books.floor) ⊎ (s.books.point < n)
NeedsNoWait s f Poll = ⊤
NeedsNoWait s f Bad = ⊤
NeedsNoWait s f cmd = (figures_on s f cmd).need ≤ length (reusable_blocks s.books)

-- Time goes on over a command: a crash leaves points, one more came at most, and the map now is that one's.
pub record PassesTime (old new : State) : Type 0 where
  pub advances : Advances old new
  pub made : MakesPoint old new
  pub one : new.books.point ≤ old.books.point + 1
  pub geom : new.books.geom ≡ old.books.geom

-- the reply to a command that ended so
abbrev pub reply_for : Result Reply Refusal → Reply
reply_for (Ok reply) = reply
reply_for (Err why) = Refused why

-- the states of blocks that a command may change
module _ {S : Type 0} (tells : Bool) (state : S → State) where
  -- What a command does once it began: a sync; one that asks for points, or for nothing; one that waits for a point; or one on the tree.
  abbrev pub Runs : Cmd → Result Reply Refusal → S → S → Type 0
  Runs Osync result old new = SyncsSession tells true Osync result (state old) (state new)
  Runs Dsync result old new = SyncsSession tells false Dsync result (state old) (state new)
  Runs Durable result old new = (result ≡ Ok (Known (state old).books.floor)) × (new ≡ old)
  Runs (Dwait n) result old new = WaitsSession tells n result (state old) (state new)
  Runs Poll result old new = (result ≡ Ok Done) × (new ≡ old)
  Runs cmd result old new = Carries tells cmd result (state old) (state new)

  -- It began with a tick. The disk failed in it; or the command ran, and this is what it came to.
  pub record Began (cmd : Cmd) (reply : Reply) (old new : S) : Type 0 where
    pub mid : S
    pub result : Result Reply Refusal
    pub is : reply ≡ reply_for result
    pub ran : (Ticks tells true (state old) (state new) × (result ≡ Err DiskFault)) ⊎ (Ticks tells false (state old) (state mid) × Runs cmd result mid new)

  -- How a command is answered: a line that is none, at once; each one where a call of the disk failed before, or else where the journal's numbers are used up; and any other once it began.
  pub record Applies (cmd : Cmd) (reply : Reply) (old new : S) : Type 0 where
    pub bad : cmd ≡ Bad → (reply ≡ NotUnderstood) × (new ≡ old)
    pub stopped : cmd ≢ Bad → (state old).books.stopped ≡ true → (reply ≡ Refused Stopped) × (new ≡ old)
    pub spent : cmd ≢ Bad → (state old).books.stopped ≡ false → is_spent (state old).books ≡ true → (reply ≡ Refused Spent) × (new ≡ old)
    pub began : cmd ≢ Bad → (state old).books.stopped ≡ false → is_spent (state old).books ≡ false → Began cmd reply old new

  -- One is answered as the session's tree answers it, or refused for a reason of the disk, and the blocks are one of the session after that.
  pub record AnswersSession (f : Session) (cmd : Cmd) (reply : Reply) (new : S) : Type 0 where
    pub next : Session
    pub answers : Answers is_of_disk f cmd reply next
    pub session : IsSession (state new) next
