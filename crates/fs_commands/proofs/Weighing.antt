-- A command that was accepted and has room is weighed.
use Rattle.std.proofs.Common.{◌≡◌, None, sym, subst, ap, ◌∙◌, ℕ}
use Rattle.base_types.specs.declared.layout.Layout.{Layout}
use Rattle.lang_tree.specs.declared.command.Cmd.{Cmd}
use Rattle.lang_tree.specs.Conditions.{refusal}
use Rattle.lang_tree.specs.Figures.{Figures}
use Rattle.lang_tree.specs.Step.{Session}
use Rattle.engine_blocks.specs.State.{State}
use Rattle.fs_session.specs.Commands.{alone_on, figures_on, shared_on}
use Rattle.fs_session.specs.Space.{HasRoom}
use Rattle.fs_commands.specs.Writing.{IsWeighed}
use Rattle.layout_geometry.specs.Geometry.{bitmap_blocks}
use Rattle.fs_commands.specs.Figures.{AreFiguresOf}
use Rattle.crash_stands.specs.Maps.{IsMapOf}
use Rattle.crash_stands.specs.Inodes.{Inodes}
use Rattle.lang_tree.specs.Sharing.{figures_over}

-- its cost is that of its figures
pub is_weighed : (s : State) (f : Session) (cmd : Cmd) (n : Figures) → refusal f.limit f.tree cmd ≡ None → figures_on s f cmd ≡ n → HasRoom s.books n → IsWeighed s f cmd n.cost
is_weighed s f cmd n accepted are room = record {
  accepted = accepted;
  costs = ap (λ (n : Figures). n.cost) are;
  room = subst (λ (n : Figures). HasRoom s.books n) (sym are) room;
}

-- figures that are those of the command are those that it is weighed by
pub figures_as : (s : State) (f : Session) (cmd : Cmd) (bitmap : ℕ) (m : Inodes) (n : Figures) (l : Layout) → f.limit.layout ≡ l → bitmap ≡ bitmap_blocks s.books.geom → AreFiguresOf l bitmap (shared_on s f) m cmd n → IsMapOf f.limit.nodes m f.tree → refusal f.limit f.tree cmd ≡ None → figures_on s f cmd ≡ n
figures_as s f cmd bitmap m n l same is are map accepted = ap (λ b. figures_over b (shared_on s f) (alone_on s f) f cmd) (sym is) ∙ are (alone_on s f) f same map accepted
