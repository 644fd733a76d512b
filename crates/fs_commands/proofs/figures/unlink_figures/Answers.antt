use Rattle.std.proofs.Common.{◌∙◌, ◌+◌, sym, ap₂}
use Rattle.lang_tree.specs.declared.command.Cmd.TheVariants.{Unlink}
use Rattle.lang_tree.specs.Figures.{removing, release}
use Rattle.lang_tree.specs.Values.{value_of}
use Rattle.fs_commands.proofs.figures.unlink_figures.Goals as goal

pub returns : goal.returns
returns c = λ shared m path above gone.
    c.figures_come_from_inodes.ensures c.args.layout c.args.bitmap shared m (Unlink path) (value_of c.removing.result)
    (λ alone limit kept same. c.removing.ensures ∙ ap₂ (λ a b. removing c.args.bitmap (a + b)) (c.release.ensures.value ∙ ap₂ (λ l n. release l n) (sym same) above) gone)
