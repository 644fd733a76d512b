-- What one command comes to over a disk of which no call failed, by what the file system says of any blocks.
use Rattle.std.proofs.Common.{◌≡◌, ◌≢◌, ◌⊎◌, inl, inr, Bool, true, false, Result, Err, refl, sym, ap, ◌∙◌}
use Rattle.std.proofs.lemmas.Bool.{cases_Bool, false≢true}
use Rattle.lang_tree.specs.declared.command.Cmd.{Cmd}
use Rattle.lang_tree.specs.declared.command.Cmd.TheVariants.{Osync, Dsync, Durable, Dwait, Poll, Bad}
use Rattle.lang_tree.specs.declared.command.Refusal.{Refusal}
use Rattle.lang_tree.specs.declared.command.Refusal.TheVariants as because
use Rattle.lang_tree.specs.declared.command.Reply.{Reply}
use Rattle.engine_blocks.specs.Effects.{Ticked}
use Rattle.engine_blocks.specs.State.{State}
use Rattle.fs_session.specs.Applying.{Applies, Began, Runs, Ticks, is_spent, reply_for}
use Rattle.fs_session.specs.Commands.{is_disk_fault}
use Rattle.cmd_load.specs.Serving.{has_run_out}

-- a line that is none
is_none : Cmd → Bool
is_none Bad = true
is_none _ = false

none_or_one : (cmd : Cmd) → (cmd ≡ Bad) ⊎ (cmd ≢ Bad)
unfolding is_none
none_or_one Bad = inl refl
none_or_one other = inr (λ e. false≢true (ap is_none e))

-- a command that wasn't answered so wasn't refused by a call of the disk that failed
no_fault : (result : Result Reply Refusal) → has_run_out (reply_for result) ≡ false → is_disk_fault result ≡ false
no_fault (Err because.DiskFault) calm = absurd (false≢true (sym calm))
no_fault other calm = refl

module _ {S : Type 0} (tells : Bool) (state : S → State) (cmd : Cmd) (reply : Reply) (old new : S) (applies : Applies tells state cmd reply old new) where
  -- the disk stays what it is
  pub manner_stays : (cmd ≢ Bad → (state old).books.stopped ≡ false → is_spent (state old).books ≡ false → Ticked tells (state old) (state new)) → (state new).counts.ticks.manner ≡ (state old).counts.ticks.manner
  manner_stays ticked = by (none_or_one cmd)
    where
      still : new ≡ old → (state new).counts.ticks.manner ≡ (state old).counts.ticks.manner
      still same = ap (λ (s : S). (state s).counts.ticks.manner) same

      by_spent : cmd ≢ Bad → (state old).books.stopped ≡ false → (is_spent (state old).books ≡ true) ⊎ (is_spent (state old).books ≡ false) → (state new).counts.ticks.manner ≡ (state old).counts.ticks.manner
      by_spent meant run (inl used) = still (applies.spent meant run used).1
      by_spent meant run (inr left) = (ticked meant run left).manner

      by_stopped : cmd ≢ Bad → ((state old).books.stopped ≡ true) ⊎ ((state old).books.stopped ≡ false) → (state new).counts.ticks.manner ≡ (state old).counts.ticks.manner
      by_stopped meant (inl over) = still (applies.stopped meant over).1
      by_stopped meant (inr run) = by_spent meant run (cases_Bool (is_spent (state old).books))

      by : (cmd ≡ Bad) ⊎ (cmd ≢ Bad) → (state new).counts.ticks.manner ≡ (state old).counts.ticks.manner
      by (inl none) = still (applies.bad none).1
      by (inr meant) = by_stopped meant (cases_Bool (state old).books.stopped)

  abbrev Goes : S → Type 0
  Goes s = (state s).books.stopped ≡ false

  goes_after : (c : Cmd) (result : Result Reply Refusal) (mid : S) → has_run_out (reply_for result) ≡ false → Goes mid → Runs tells state c result mid new → Goes new
  goes_after Osync result mid calm run runs = runs.disk.stopped ∙ no_fault result calm
  goes_after Dsync result mid calm run runs = runs.disk.stopped ∙ no_fault result calm
  goes_after Durable result mid calm run runs = ap (λ (s : S). (state s).books.stopped) runs.1 ∙ run
  goes_after (Dwait n) result mid calm run runs = runs.runs.disk.stopped ∙ no_fault result calm
  goes_after Poll result mid calm run runs = ap (λ (s : S). (state s).books.stopped) runs.1 ∙ run
  goes_after other result mid calm run runs = runs.runs.stopped ∙ no_fault result calm

  -- no call of the disk failed where the command wasn't answered so
  pub goes_on : (state old).books.stopped ≡ false → has_run_out reply ≡ false → (state new).books.stopped ≡ false
  goes_on run calm = elim (none_or_one cmd) as (λ _. Goes new) [ inl none ↦ ap (λ (s : S). (state s).books.stopped) (applies.bad none).1 ∙ run | inr meant ↦ by_spent meant (cases_Bool (is_spent (state old).books)) ]
    where
      began : Began tells state cmd reply old new → Goes new
      began b = ran b.ran
        where
          calm_result : has_run_out (reply_for b.result) ≡ false
          calm_result = ap has_run_out (sym b.is) ∙ calm

          ran : (Ticks tells true (state old) (state new) × (b.result ≡ Err because.DiskFault)) ⊎ (Ticks tells false (state old) (state b.mid) × Runs tells state cmd b.result b.mid new) → Goes new
          ran (inl failed) = absurd (false≢true (sym calm_result ∙ ap (λ (r : Result Reply Refusal). has_run_out (reply_for r)) failed.1))
          ran (inr (ticks, done)) = goes_after cmd b.result b.mid calm_result ticks.moves.disk.stopped done

      by_spent : cmd ≢ Bad → (is_spent (state old).books ≡ true) ⊎ (is_spent (state old).books ≡ false) → Goes new
      by_spent meant (inl used) = ap (λ (s : S). (state s).books.stopped) (applies.spent meant run used).1 ∙ run
      by_spent meant (inr left) = began (applies.began meant run left)
