use Rattle.crash_stands.proofs.Holding.{keeps_one}
use Rattle.crash_stands.proofs.snapshots.a_snapshot_keeps_one_tree.Goals as goal

pub returns : goal.returns
returns c = keeps_one
