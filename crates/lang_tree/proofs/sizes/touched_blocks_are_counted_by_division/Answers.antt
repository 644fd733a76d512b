use Rattle.lang_tree.proofs.blocks.Touching.{met_by_division}
use Rattle.lang_tree.proofs.sizes.touched_blocks_are_counted_by_division.Goals as goal

pub returns : goal.returns
returns c = met_by_division
