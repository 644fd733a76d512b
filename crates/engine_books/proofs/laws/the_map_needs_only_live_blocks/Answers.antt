use Rattle.engine_books.proofs.LiveBlocks.{same_live, same_map, same_began, unput_live}
use Rattle.engine_books.proofs.laws.the_map_needs_only_live_blocks.Goals as goal

pub returns : goal.returns
returns c = record { live = same_live; map = same_map; began = same_began; unput = unput_live }
