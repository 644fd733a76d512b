-- What one command does on its disk, by what the file system says of any blocks.
use Rattle.std.proofs.Common.{◌≡◌, ◌≢◌, ◌⊎◌, inl, inr, ℕ, ◌+◌, ◌<◌, ◌≤◌, Bool, true, false, IsTrue, Result, ap, ◌∙◌, subst, arith}
use Rattle.std.proofs.lemmas.Bool.{cases_Bool, false≢true}
use Rattle.base_types.specs.Counts.{after_call}
use Rattle.disk_contract.specs.Cell.{has_lost}
use Rattle.disk_contract.specs.Disk.{PollsFirst, PollsThenWrites}
use Rattle.disk_contract.specs.Manner.{HasFailedBy}
use Rattle.lang_tree.specs.declared.command.Cmd.{Cmd}
use Rattle.lang_tree.specs.declared.command.Cmd.TheVariants.{Durable, Bad}
use Rattle.lang_tree.specs.declared.command.Refusal.{Refusal}
use Rattle.lang_tree.specs.declared.command.Refusal.TheVariants.{DiskFault as FaultOfDisk, ReadFault, Spent, Stopped}
use Rattle.lang_tree.specs.declared.command.Reply.{Reply}
use Rattle.lang_tree.specs.declared.command.Reply.TheVariants.{Known, Refused}
use Rattle.lang_tree.specs.Step.{Session}
use Rattle.engine_blocks.specs.Calls.{commit_places, commit_writes}
use Rattle.engine_blocks.specs.Crashes.{Advances, IsTold, StillAwaits, WritesAtMost}
use Rattle.engine_blocks.specs.Effects.{Ticked}
use Rattle.engine_blocks.specs.State.{State}
use Rattle.cmd_session.specs.Budget.{sync_budget, sync_places, writes_of}
use Rattle.fs_session.specs.Applying.{Applies, Began, NeedsNoWait, Runs, is_spent}
use Rattle.fs_session.specs.Commands.{Carries, is_disk_fault}
use Rattle.fs_session.specs.DiskRoom.{IsRoomOf}
use Rattle.fs_session.specs.Memory.{room_of}
use Rattle.fs_session.specs.Sessions.{IsSession}
use Rattle.fs_session.specs.Syncs.{SyncsSession, WaitsSession}
use Rattle.cmd_session.specs.Answered.{StepsOn, WaitsOn}

-- a line that is none is told apart
none_or_one : (cmd : Cmd) → (cmd ≡ Bad) ⊎ (cmd ≢ Bad)
none_or_one cmd = grind (arith, false≢true)

module _ {S : Type 0} (tells : Bool) (state : S → State) (told : IsTrue tells) (cmd : Cmd) (reply : Reply) (old new : S) (applies : Applies tells state cmd reply old new)
    (ticked : cmd ≢ Bad → (state old).books.stopped ≡ false → is_spent (state old).books ≡ false → Ticked tells (state old) (state new)) where
  -- the blocks are as they were, or the command began with its tick
  still_or_ticked : (new ≡ old) ⊎ Ticked tells (state old) (state new)
  still_or_ticked = grind (arith, cases_Bool (is_spent (state old).books), cases_Bool (state old).books.stopped, none_or_one cmd, none_or_one, applies.spent, applies.stopped, applies.bad)

  pub manner_stays : (state new).counts.ticks.manner ≡ (state old).counts.ticks.manner
  manner_stays = grind (arith, still_or_ticked)

  still : (cmd ≡ Bad) ⊎ ((state old).books.stopped ≡ true) → new ≡ old
  still h1 = grind (arith, none_or_one cmd, applies.bad, none_or_one, applies.stopped)

  -- a command is refused for a failed call only where none had failed before
  first : reply ≡ Refused FaultOfDisk → (state old).books.stopped ≡ false
  first fault = grind (arith, cases_Bool (state old).books.stopped, none_or_one cmd, none_or_one, false≢true, applies.stopped, applies.bad)

  -- and where none has failed since, none was counted
  uncounted : (state new).books.stopped ≡ false → (state new).counts.faults ≡ (state old).counts.faults
  uncounted calm = by (none_or_one cmd)
    where
      same : (mid now : S) → now ≡ mid → (state now).counts.faults ≡ (state mid).counts.faults
      same mid now is = ap (λ (s : S). (state s).counts.faults) is

      -- where a call failed the blocks have stopped
      unless : (failed : Bool) (mid now : State) → now.books.stopped ≡ false → now.books.stopped ≡ failed → now.counts.faults ≡ after_call failed mid.counts.faults → now.counts.faults ≡ mid.counts.faults
      unless failed mid now h1 h2 h3 = grind (arith, false≢true)

      carried : (c : Cmd) (result : Result Reply Refusal) (mid : S) → Carries tells c result (state mid) (state new) → (state new).counts.faults ≡ (state mid).counts.faults
      carried c result mid x = unless (is_disk_fault result) (state mid) (state new) calm x.runs.stopped x.runs.faults

      synced : (orders : Bool) (c : Cmd) (result : Result Reply Refusal) (mid : S) → SyncsSession tells orders c result (state mid) (state new) → (state new).counts.faults ≡ (state mid).counts.faults
      synced orders c result mid x = unless (is_disk_fault result) (state mid) (state new) calm x.disk.stopped x.disk.faults

      waited : (n : ℕ) (result : Result Reply Refusal) (mid : S) → WaitsSession tells n result (state mid) (state new) → (state new).counts.faults ≡ (state mid).counts.faults
      waited n result mid x = unless (is_disk_fault result) (state mid) (state new) calm x.runs.disk.stopped x.runs.disk.faults

      ran : (c : Cmd) (result : Result Reply Refusal) (mid : S) → Runs tells state c result mid new → (state new).counts.faults ≡ (state mid).counts.faults
      ran c result mid h1 = grind (arith, synced, waited, same, carried)

      begun : Began tells state cmd reply old new → (state new).counts.faults ≡ (state old).counts.faults
      begun b = grind (arith, state old, state new, b.ran, b.result, b.mid, unless, ran)

      by_spent : cmd ≢ Bad → (state old).books.stopped ≡ false → (is_spent (state old).books ≡ true) ⊎ (is_spent (state old).books ≡ false) → (state new).counts.faults ≡ (state old).counts.faults
      by_spent meant run (inl used) = same old new (applies.spent meant run used).1
      by_spent meant run (inr left) = begun (applies.began meant run left)

      by_stopped : cmd ≢ Bad → ((state old).books.stopped ≡ true) ⊎ ((state old).books.stopped ≡ false) → (state new).counts.faults ≡ (state old).counts.faults
      by_stopped h1 h2 = grind (arith, cases_Bool (is_spent (state old).books), same, applies.stopped, by_spent)

      by : (cmd ≡ Bad) ⊎ (cmd ≢ Bad) → (state new).counts.faults ≡ (state old).counts.faults
      by h1 = grind (arith, cases_Bool (state old).books.stopped, same, applies.bad, by_stopped)

  -- one that is refused as spent leaves the blocks as they are
  idles : (reply ≡ Refused Spent → is_spent (state old).books ≡ true) → reply ≡ Refused Spent → new ≡ old
  idles used spent = grind (arith, cases_Bool (state old).books.stopped, none_or_one cmd, none_or_one, applies.stopped, applies.spent, applies.bad)

  pub steps_on : ((f : Session) → IsSession (state old) f → reply ≡ Refused Spent → is_spent (state old).books ≡ true) → ((f : Session) → IsSession (state old) f → reply ≡ Refused Stopped → (state old).books.stopped ≡ true) → ((f : Session) → IsSession (state old) f → reply ≡ Refused ReadFault → 0 < (state new).counts.read_faults) → (0 < (state new).counts.read_faults → (state new).counts.ticks.manner.reads_fail ≡ true)
      → ((state new).books.stopped ≡ true → ∥ HasFailedBy (state new).counts.ticks.manner (state new).crash.log ∥₁)
      → ((state new).counts.ticks.manner.waits_alone ≡ true → (state new).counts.faults ≡ 0 → has_lost (state new).crash.log ≡ false) → StepsOn cmd reply (state old) (state new)
  steps_on spent stopped counted reads fails unlost = record {
    manner = manner_stays;
    rests = λ quiet. let same = still quiet in (ap (λ (s : S). (state s).counts.ticks.polls) same, (ap (λ (s : S). (state s).crash.log) same, ap (λ (s : S). (state s).books.stopped) same));
    ticks = λ meant run unspent. by meant run unspent (cases_Bool (is_spent (state old).books));
    idles = λ f session used. let same = idles (spent f session) used in (ap (λ (s : S). (state s).counts.ticks.polls) same, ap (λ (s : S). (state s).crash.log) same);
    stops = stopped;
    halts = λ meant over. (applies.stopped meant over).0;
    reads = λ f session unread. reads (counted f session unread);
    fails = fails;
    first = first;
    uncounted = uncounted;
    unlost = unlost;
  }
    where
      by : cmd ≢ Bad → (state old).books.stopped ≡ false → reply ≢ Refused Spent → (is_spent (state old).books ≡ true) ⊎ (is_spent (state old).books ≡ false) → PollsFirst (state old).counts.ticks.manner 64 (state old).counts.ticks.polls (state old).crash.log (state new).counts.ticks.polls (state new).crash.log
      by meant run unspent (inl used) = absurd (unspent (applies.spent meant run used).0)
      by meant run unspent (inr left) = (ticked meant run left).polled told

  -- a command that isn't answered as spent isn't one for which the numbers are used up
  pub left_over : cmd ≢ Bad → (state old).books.stopped ≡ false → reply ≢ Refused Spent → is_spent (state old).books ≡ false
  left_over meant run unspent = grind (arith, cases_Bool (is_spent (state old).books), applies.spent)

  pub waits_on : ((f : Session) → is_spent (state old).books ≡ false → cmd ≢ Bad → (state old).books.stopped ≡ false → IsSession (state old) f → NeedsNoWait (state old) f cmd
      → PollsThenWrites (state old).counts.ticks.manner 64 (state old).counts.ticks.polls (state old).crash.log (state new).counts.ticks.polls (state new).crash.log)
      → commit_places (state old).books ≤ sync_places (state old).books.running.weight → commit_writes (state old).books ≤ sync_budget (state old).books.running.weight → WritesAtMost (writes_of cmd reply (state old).books) (state old) (state new)
      → ((f : Session) → IsSession (state old) f → IsRoomOf (state old).books.geom f (room_of (state old))) → Advances (state old) (state new) → IsTold (state new)
      → ((state new).books.stopped ≡ false → (state new).books.floor < (state new).books.point → ∥ StillAwaits (state new) ((state new).books.floor + 1) ∥₁) → WaitsOn cmd reply (state old) (state new)
  waits_on calm fits few writes room advances told_new still_awaits = record {
    calm = λ meant run unspent f session needs. calm f (left_over meant run unspent) meant run session needs;
    fits = fits;
    few = few;
    writes = writes;
    floor = advances.floor;
    rests = λ over. ap (λ (s : S). (state s).books.owed) (still (inr over));
    room = room;
    awaits = advances.awaits;
    may = told_new.awaits;
    known = λ n is said. known_now n said (subst (λ (c : Cmd). Applies tells state c reply old new) is applies);
    still = still_awaits;
  }
    where
      number_of : Reply → ℕ
      number_of (Known n) = n
      number_of _ = 0

      is_known : Reply → Bool
      is_known (Known n) = true
      is_known _ = false

      known_now : (n : ℕ) → reply ≡ Known n → Applies tells state Durable reply old new → (n ≡ (state new).books.floor) × ((state new).books.stopped ≡ false) × ((state new).books.point ≡ (state old).books.point)
      known_now n said durable = grind (arith, cases_Bool (is_spent (state old).books), cases_Bool (state old).books.stopped, false≢true, is_known, number_of, durable.spent, durable.began, durable.stopped)
