use Rattle.fs_session.proofs.standing.Marks.{low_live}
use Rattle.fs_session.proofs.live.bitmap_and_node_table_are_live.Goals as goal

pub returns : goal.returns
returns c = λ g m b limits from below. low_live g limits m b from below
