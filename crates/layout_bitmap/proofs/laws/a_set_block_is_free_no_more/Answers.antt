use Rattle.layout_bitmap.proofs.Counts.{one_less}
use Rattle.layout_bitmap.proofs.laws.a_set_block_is_free_no_more.Goals as goal

pub returns : goal.returns
returns c = one_less
