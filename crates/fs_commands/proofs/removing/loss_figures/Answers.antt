use Rattle.std.proofs.Common.{sym, subst, ◌∙◌}
use Rattle.lang_tree.specs.declared.command.Kind.{Kind}
use Rattle.lang_tree.specs.Values.{value_of}
use Rattle.fs_commands.specs.Figures.{AreFiguresOf}
use Rattle.fs_commands.specs.Removing.{lose_cmd}
use Rattle.fs_commands.proofs.removing.loss_figures.Goals as goal

pub returns-in-File : goal.returns-in-File
returns-in-File c = λ shared m path above gone.
    subst (λ (k : Kind). AreFiguresOf c.args.layout c.args.bitmap shared m (lose_cmd k path) (value_of c.unlink_figures.result)) (sym c.in-File.is) (c.unlink_figures.ensures shared m path (c.from.ensures ∙ above) gone)

pub returns-in-Dir : goal.returns-in-Dir
returns-in-Dir c = λ shared m path above gone.
    subst (λ (k : Kind). AreFiguresOf c.args.layout c.args.bitmap shared m (lose_cmd k path) (value_of c.rmdir_figures.result)) (sym c.in-Dir.is) (c.rmdir_figures.ensures shared m path (c.from-in-Dir.ensures ∙ above))
