-- The numbers of the disk are a geometry's.
use Rattle.std.proofs.Common.{◌≡◌, true, refl}
use Rattle.layout_geometry.specs.Geometry.{geometry_fits}
use Rattle.cmd_load.specs.Summary.{shape}

pub shape_fits : geometry_fits shape ≡ true
unfolding geometry_fits
shape_fits = refl
