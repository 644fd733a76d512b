use Rattle.std.proofs.Common.{◌≡◌, ◌∙◌, ◌-◌, sym, ap, ap₂, arith}
use Rattle.lang_tree.specs.declared.command.Cmd.TheVariants.{Truncate}
use Rattle.lang_tree.specs.Figures.{nothing}
use Rattle.lang_tree.specs.Sharing.{shared_at, shared_met, truncate_over_figures}
use Rattle.lang_tree.specs.Values.{value_of}
use Rattle.fs_inodes.specs.Lookups.{number_at}
use Rattle.fs_commands.proofs.counting.Costs.{grown_costs, cut_costs, same_costs}
use Rattle.fs_commands.proofs.figures.resize_figures.Goals as goal

pub returns-then-old-new : goal.returns-then-old-new
returns-then-old-new c = λ l shared m path old grows cuts.
    let at = shared_at shared (number_at m path) in
    c.figures_come_from_inodes.ensures l c.args.bitmap shared m (Truncate path c.args.new) (value_of c.writing_over.result)
    (λ alone limit kept same. c.writing_over.ensures at (grows c.if-old-new.true ∙ ap (λ n. shared_met at n c.args.old c.args.new) (sym old)) ∙ sym (grown_costs c.args.bitmap at c.args.old c.args.new c.if-old-new.true)
    ∙ ap (λ n. truncate_over_figures c.args.bitmap at n c.args.new) old)

pub returns-then-new-old : goal.returns-then-new-old
returns-then-new-old c = λ l shared m path old grows cuts.
    let at = shared_at shared (number_at m path) in
    c.figures_come_from_inodes.ensures l c.args.bitmap shared m (Truncate path c.args.new) (value_of c.cutting.result)
    (λ alone limit kept same. c.cutting.ensures
    ∙ cut_costs c.args.bitmap at c.args.old c.args.new c.saturating_sub.result c.if-new-old.true
    (c.saturating_sub.ensures ∙ ap (λ n. n - c.args.kept) (c.saturating_sub-gone.ensures ∙ ap₂ (λ a b. a - b) c.blocks_for.ensures c.blocks_for-then-new-old.ensures) ∙ cuts c.if-new-old.true)
    ∙ ap (λ n. truncate_over_figures c.args.bitmap at n c.args.new) old)

pub returns : goal.returns
returns c = λ l shared m path old grows cuts.
    let at = shared_at shared (number_at m path) in
    let same : c.args.new ≡ c.args.old = omega (arith, c.if-old-new.false, c.if-new-old.false) in
    c.figures_come_from_inodes.ensures l c.args.bitmap shared m (Truncate path c.args.new) nothing
    (λ alone limit kept of. sym (ap (λ n. truncate_over_figures c.args.bitmap at n c.args.new) (sym old) ∙ ap (truncate_over_figures c.args.bitmap at c.args.old) same ∙ same_costs c.args.bitmap at c.args.old))
