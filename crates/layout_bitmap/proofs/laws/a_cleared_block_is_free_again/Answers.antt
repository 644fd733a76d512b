use Rattle.layout_bitmap.proofs.Counts.{one_again}
use Rattle.layout_bitmap.proofs.laws.a_cleared_block_is_free_again.Goals as goal

pub returns : goal.returns
returns c = one_again
