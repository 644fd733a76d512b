use Rattle.layout_geometry.proofs.Limits.{within_limits, limits_fit}
use Rattle.layout_geometry.proofs.laws.geometries_are_within_limits.Goals as goal

pub returns : goal.returns
returns c = λ g. (within_limits g, limits_fit g)
