use Rattle.layout_journal.specs.Formatted.{formatted}
use Rattle.cmd_host.proofs.Images.{HasFirst}
use Rattle.cmd_host.proofs.image.formatted_image.Given as goal

abbrev pub invariant-loop-b : goal.invariant-loop-b
invariant-loop-b l = HasFirst (formatted l.geom) l.geom.n l.image l.b
