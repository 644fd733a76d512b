use Rattle.crash_snapshots.proofs.Making.{makes_one}
use Rattle.crash_snapshots.proofs.laws.a_snapshot_can_be_made.Goals as goal

pub returns : goal.returns
returns c = makes_one
