use Rattle.cmd_load.proofs.Shape.{shape_fits}
use Rattle.cmd_load.proofs.disk.geom.Goals as goal

pub unwrap-requires : goal.unwrap-requires
unwrap-requires c = c.new.ensures.exact.1 shape_fits
