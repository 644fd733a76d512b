-- The disk under the blocks is the same one, whatever is asked of the file system.
use Rattle.std.proofs.Common.{◌≡◌, ◌≢◌, ◌⊎◌, inl, inr, ℕ, Bool, true, false, IsTrue, Result, Err, refl, sym, ap, ◌∙◌, subst}
use Rattle.std.proofs.lemmas.Bool.{false≢true}
use Rattle.lang_tree.specs.declared.command.Cmd.{Cmd}
use Rattle.lang_tree.specs.declared.command.Cmd.TheVariants.{Bad, Durable, Dwait, Dsync, Osync, Poll}
use Rattle.lang_tree.specs.declared.command.Refusal.{Refusal}
use Rattle.lang_tree.specs.declared.command.Refusal.TheVariants.{DiskFault}
use Rattle.lang_tree.specs.declared.command.Reply.{Reply}
use Rattle.engine_blocks.specs.State.{State, Ticking}
use Rattle.fs_session.specs.Applying.{Applies, Began, PassesTime, Runs, Ticks, is_spent}
use Rattle.fs_session.specs.Commands.{Carries}
use Rattle.fs_session.specs.Syncs.{SyncsSession, WaitsSession}
use Rattle.cmd_session.specs.Ending.{is_none}
use Rattle.cmd_upgrade.specs.Looked.{StaysOnDisk}

pub stays_here : (tells : Bool) (s : State) → StaysOnDisk tells s s
stays_here tells s = record { geom = refl; manner = refl; base = λ told. refl }

pub stays_on : (tells : Bool) (old mid new : State) → StaysOnDisk tells old mid → StaysOnDisk tells mid new → StaysOnDisk tells old new
stays_on tells old mid new a b = record { geom = b.geom ∙ a.geom; manner = b.manner ∙ a.manner; base = λ told. b.base told ∙ a.base told }

-- the geometry is the same, and the disk's manner
record Same (old new : State) : Type 0 where
  geom : new.books.geom ≡ old.books.geom
  manner : new.counts.ticks.manner ≡ old.counts.ticks.manner

module _ {S : Type 0} (tells : Bool) (state : S → State) where
  still : (old new : S) → new ≡ old → Same (state old) (state new)
  still old new same = subst (λ (s : S). Same (state old) (state s)) (sym same) (record { geom = refl; manner = refl })

  ticked : (failed : Bool) (old new : S) → Ticks tells failed (state old) (state new) → Same (state old) (state new)
  ticked failed old new ticks = record { geom = ticks.moves.pipeline.geom; manner = ticks.ticks.manner }

  carried : (cmd : Cmd) (result : Result Reply Refusal) (old new : S) → Carries tells cmd result (state old) (state new) → Same (state old) (state new)
  carried cmd result old new carries = record { geom = carries.runs.geom; manner = ap (λ (k : Ticking). k.manner) carries.runs.ticks }

  synced : (orders : Bool) (cmd : Cmd) (result : Result Reply Refusal) (old new : S) → SyncsSession tells orders cmd result (state old) (state new) → Same (state old) (state new)
  synced orders cmd result old new syncs = record { geom = syncs.geom; manner = ap (λ (k : Ticking). k.manner) syncs.ticks }

  waited : (n : ℕ) (result : Result Reply Refusal) (old new : S) → WaitsSession tells n result (state old) (state new) → Same (state old) (state new)
  waited n result old new waits = record { geom = waits.runs.pipeline.geom; manner = ap (λ (k : Ticking). k.manner) waits.ticks }

  ran : (cmd : Cmd) (result : Result Reply Refusal) (old new : S) → Runs tells state cmd result old new → Same (state old) (state new)
  ran Osync result old new runs = synced true Osync result old new runs
  ran Dsync result old new runs = synced false Dsync result old new runs
  ran Durable result old new runs = still old new runs.1
  ran (Dwait n) result old new runs = waited n result old new runs
  ran Poll result old new runs = still old new runs.1
  ran other result old new runs = carried other result old new runs

  began : (cmd : Cmd) (reply : Reply) (old new : S) → Began tells state cmd reply old new → Same (state old) (state new)
  began cmd reply old new b = by b.ran
    where
      by : (Ticks tells true (state old) (state new) × (b.result ≡ Err DiskFault)) ⊎ (Ticks tells false (state old) (state b.mid) × Runs tells state cmd b.result b.mid new) → Same (state old) (state new)
      by (inl failed) = ticked true old new failed.0
      by (inr went) =
          let first = ticked false old b.mid went.0 in
          let then_on = ran cmd b.result b.mid new went.1 in
          record { geom = then_on.geom ∙ first.geom; manner = then_on.manner ∙ first.manner }

  -- a line that is none is told apart
  none_is : (cmd : Cmd) → is_none cmd ≡ true → cmd ≡ Bad
  none_is Bad is = refl
  none_is other is = absurd (false≢true is)

  applied : (cmd : Cmd) (reply : Reply) (old new : S) → Applies tells state cmd reply old new → Same (state old) (state new)
  applied cmd reply old new a = by (is_none cmd) refl (state old).books.stopped refl (is_spent (state old).books) refl
    where
      no_none : is_none cmd ≡ false → cmd ≢ Bad
      no_none other is = false≢true (sym other ∙ ap is_none is)

      by : (none : Bool) → is_none cmd ≡ none → (stopped : Bool) → (state old).books.stopped ≡ stopped → (spent : Bool) → is_spent (state old).books ≡ spent → Same (state old) (state new)
      by true none stopped halts spent ends = still old new (a.bad (none_is cmd none)).1
      by false none true halts spent ends = still old new (a.stopped (no_none none) halts).1
      by false none false halts true ends = still old new (a.spent (no_none none) halts ends).1
      by false none false halts false ends = began cmd reply old new (a.began (no_none none) halts ends)

  -- whatever is asked
  pub stays_asked : (cmd : Cmd) (reply : Reply) (old new : S) → Applies tells state cmd reply old new → (IsTrue tells → PassesTime (state old) (state new)) → StaysOnDisk tells (state old) (state new)
  stays_asked cmd reply old new a time = let same = applied cmd reply old new a in record { geom = same.geom; manner = same.manner; base = λ told. (time told).advances.base }
