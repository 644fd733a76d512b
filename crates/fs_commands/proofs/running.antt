-- What a command on the tree is: no sync, and none about points.
use Rattle.std.proofs.Common.{◌≡◌, Bool, true, false, Result, refl}
use Rattle.std.proofs.lemmas.Bool.{false≢true}
use Rattle.lang_tree.specs.declared.command.Cmd.{Cmd}
use Rattle.lang_tree.specs.declared.command.Cmd.TheVariants.{Osync, Dsync, Durable, Dwait, Poll, Bad}
use Rattle.lang_tree.specs.declared.command.Refusal.{Refusal}
use Rattle.lang_tree.specs.declared.command.Reply.{Reply}
use Rattle.lang_tree.specs.Points.{is_sync}
use Rattle.engine_blocks.specs.State.{State}
use Rattle.fs_session.specs.Applying.{Runs}
use Rattle.fs_session.specs.Commands.{Carries, is_on_tree}

pub on_tree_is_no_sync : (cmd : Cmd) → is_on_tree cmd ≡ true → is_sync cmd ≡ false
on_tree_is_no_sync Osync e = absurd (false≢true e)
on_tree_is_no_sync Dsync e = absurd (false≢true e)
on_tree_is_no_sync Durable e = absurd (false≢true e)
on_tree_is_no_sync (Dwait n) e = absurd (false≢true e)
on_tree_is_no_sync Poll e = absurd (false≢true e)
on_tree_is_no_sync Bad e = absurd (false≢true e)
on_tree_is_no_sync cmd e = refl

-- one that was carried out ran
pub runs_on_tree : {S : Type 0} (tells : Bool) (state : S → State) (cmd : Cmd) (result : Result Reply Refusal) (old new : S) → is_on_tree cmd ≡ true → Carries tells cmd result (state old) (state new) → Runs tells state cmd result old new
runs_on_tree tells state Osync result old new e h = absurd (false≢true e)
runs_on_tree tells state Dsync result old new e h = absurd (false≢true e)
runs_on_tree tells state Durable result old new e h = absurd (false≢true e)
runs_on_tree tells state (Dwait n) result old new e h = absurd (false≢true e)
runs_on_tree tells state Poll result old new e h = absurd (false≢true e)
runs_on_tree tells state Bad result old new e h = absurd (false≢true e)
runs_on_tree tells state cmd result old new e h = h
