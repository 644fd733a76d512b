-- The plan of a command by which a name would go, and the tree refuses it.
use Rattle.std.proofs.Common.{◌≡◌, ℕ, Bool, false, IsTrue, List, Some, Ok, ◌∙◌}
use Rattle.lang_tree.specs.declared.command.Kind.{Kind}
use Rattle.lang_tree.specs.declared.command.Refusal.{Refusal}
use Rattle.lang_tree.specs.declared.command.Reply.TheVariants.{Refused}
use Rattle.lang_tree.specs.Tree.{Tree}
use Rattle.crash_stands.specs.Stands.{IsTreeOf}
use Rattle.engine_blocks.specs.Calls.{IsSound}
use Rattle.engine_blocks.specs.State.{State}
use Rattle.fs_files.specs.Effects.{LooksOnly}
use Rattle.fs_session.specs.declared.plan.Plan.TheVariants.{Answer}
use Rattle.fs_session.specs.Plans.{Plans}
use Rattle.fs_commands.specs.Removing.{lose_cmd, lose_reason}
use Rattle.fs_session.specs.Sessions.{inodes}
use Rattle.fs_commands.proofs.planning.Looking.{reason_plan}
use Rattle.fs_commands.proofs.removed.Accepted.{reason_is}
use Rattle.fs_commands.proofs.Given.{MapLaw, RefusalLaw, Rests}

pub refused_loss : {S : Type 0} (tells : Bool) (state : S → State) → Rests tells state → ((s : S) → IsSound (state s).books) → MapLaw → RefusalLaw → (kind : Kind) (path : List (List ℕ)) (old new : S) (why : Refusal) → (state old).books.stopped ≡ false
    → (IsTrue tells → (u : Tree) → IsTreeOf (state old).books.geom (state old).map u → lose_reason kind (inodes (state old)) path ≡ Some why) → LooksOnly tells false (state old) (state new) → Plans tells (lose_cmd kind path) (Ok (Answer (Refused why))) (state old) (state new)
refused_loss tells state rests sound map law kind path old new why going refuses =
    reason_plan tells state rests sound map law (lose_cmd kind path) old new why going (λ told u h least kept. reason_is _ kind least kept (inodes (state old)) path ∙ refuses told u h)
