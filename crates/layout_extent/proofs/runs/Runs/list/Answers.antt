use Rattle.std.proofs.Common.{sym, ap, ◌∙◌}
use Rattle.layout_extent.specs.Runs.{runs_of}
use Rattle.layout_extent.specs.TidyLaws.{runs_of_places}
use Rattle.layout_extent.proofs.runs.Runs.list.Goals as goal

pub returns-clause-value : goal.returns-clause-value
returns-clause-value c = sym (runs_of_places c.self.inside.list c.self.invariant.0) ∙ ap runs_of c.self.view_is
