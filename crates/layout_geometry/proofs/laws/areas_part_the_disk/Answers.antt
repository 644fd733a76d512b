use Rattle.layout_geometry.proofs.Areas.{lies, alone, within}
use Rattle.layout_geometry.proofs.laws.areas_part_the_disk.Goals as goal

pub returns : goal.returns
returns c = record { lies = lies; alone = alone; within = within }
