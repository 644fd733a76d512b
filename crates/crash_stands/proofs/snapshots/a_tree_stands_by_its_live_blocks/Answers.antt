use Rattle.crash_stands.proofs.Living.{tree_alive}
use Rattle.crash_stands.proofs.snapshots.a_tree_stands_by_its_live_blocks.Goals as goal

pub returns : goal.returns
returns c = λ g m n t fits same is. tree_alive g fits m n t same is
