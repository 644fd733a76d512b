use Rattle.std.proofs.Common.{◌∙◌, sym, ap, ap₂}
use Rattle.lang_tree.specs.declared.command.Cmd.TheVariants.{Mkdir, Create, Link}
use Rattle.lang_tree.specs.Figures.{adding, growth}
use Rattle.lang_tree.specs.Values.{value_of}
use Rattle.fs_commands.proofs.figures.new_name_figures.Goals as goal

pub returns-clause-mkdir : goal.returns-clause-mkdir
returns-clause-mkdir c = λ bitmap shared m path above.
    c.figures_come_from_inodes.ensures c.args.layout bitmap shared m (Mkdir path) (value_of c.adding.result) (λ alone limit kept same. c.adding.ensures ∙ ap adding (c.growth.ensures.value ∙ ap₂ (λ l n. growth l n) (sym same) above))

pub returns-clause-create : goal.returns-clause-create
returns-clause-create c = λ bitmap shared m path above.
    c.figures_come_from_inodes.ensures c.args.layout bitmap shared m (Create path) (value_of c.adding.result) (λ alone limit kept same. c.adding.ensures ∙ ap adding (c.growth.ensures.value ∙ ap₂ (λ l n. growth l n) (sym same) above))

pub returns-clause-link : goal.returns-clause-link
returns-clause-link c = λ bitmap shared m path other above.
    c.figures_come_from_inodes.ensures c.args.layout bitmap shared m (Link path other) (value_of c.adding.result) (λ alone limit kept same. c.adding.ensures ∙ ap adding (c.growth.ensures.value ∙ ap₂ (λ l n. growth l n) (sym same) above))
