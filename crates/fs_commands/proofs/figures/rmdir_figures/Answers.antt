use Rattle.std.proofs.Common.{◌∙◌, sym, ap, ap₂}
use Rattle.lang_tree.specs.declared.command.Cmd.TheVariants.{Rmdir}
use Rattle.lang_tree.specs.Figures.{removing, release}
use Rattle.lang_tree.specs.Values.{value_of}
use Rattle.fs_commands.proofs.figures.rmdir_figures.Goals as goal

pub returns : goal.returns
returns c = λ shared m path above.
    c.figures_come_from_inodes.ensures c.args.layout c.args.bitmap shared m (Rmdir path) (value_of c.removing.result) (λ alone limit kept same. c.removing.ensures ∙ ap (removing c.args.bitmap) (c.release.ensures.value ∙ ap₂ (λ l n. release l n) (sym same) above))
