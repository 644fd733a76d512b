use Rattle.crash_stands.proofs.OneTree.{one_of_blocks, one_of_image}
use Rattle.crash_stands.proofs.laws.an_image_stands_for_one_tree.Goals as goal

pub returns-clause-blocks : goal.returns-clause-blocks
returns-clause-blocks c = one_of_blocks

pub returns-clause-image : goal.returns-clause-image
returns-clause-image c = one_of_image c.an_image_holds_one_map.ensures.newest c.an_image_holds_one_map.ensures.maps
