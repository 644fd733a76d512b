use Rattle.engine_blocks.proofs.Fronts.{reusable_front}
use Rattle.engine_blocks.proofs.laws.the_lowest_may_be_taken.Goals as goal

pub returns : goal.returns
returns c = reusable_front
