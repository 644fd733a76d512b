use Rattle.std.proofs.Common.{◌∙◌, sym, ap}
use Rattle.fs_inodes.specs.Figures.{cost_over_by}
use Rattle.fs_commands.proofs.figures.figures_come_from_inodes.Goals as goal

pub returns : goal.returns
returns c = λ l bitmap shared m cmd f is alone s same has none.
    c.the_map_gives_the_figures.ensures.over bitmap shared alone s m cmd has
    ∙ (ap (cost_over_by bitmap shared alone s.limit s.tree.snapshots m cmd) (sym (c.the_map_gives_the_refusal.ensures.refusal s.limit m s.tree cmd has) ∙ none) ∙ sym (is alone s.limit s.tree.snapshots same))
