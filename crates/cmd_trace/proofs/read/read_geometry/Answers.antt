use Rattle.cmd_trace.proofs.ReadPromises.{geometry_reads}
use Rattle.cmd_trace.proofs.read.read_geometry.Goals as goal

pub returns : goal.returns
returns c = rw c.geometry_in.ensures (geometry_reads record { read = c.a_number_has_one_text.ensures.read; text = c.a_number_has_one_text.ensures.text; small = c.a_number_has_one_text.ensures.small } c.geometries_are_within_limits.ensures c.args.line.now)
