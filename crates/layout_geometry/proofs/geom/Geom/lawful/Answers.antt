use Rattle.std.proofs.Common.{sym, ap, ◌∙◌}
use Rattle.layout_geometry.specs.Geometry.{geometry_fits}
use Rattle.layout_geometry.proofs.Limits.{within_limits}
use Rattle.layout_geometry.proofs.geom.Geom.lawful.Goals as goal

pub returns-clause-fits : goal.returns-clause-fits
returns-clause-fits c = sym (ap geometry_fits c.self.view_is) ∙ c.self.invariant

pub returns-clause-limits : goal.returns-clause-limits
returns-clause-limits c = within_limits _ (sym (ap geometry_fits c.self.view_is) ∙ c.self.invariant)
