use Rattle.crash_snapshots.proofs.Adding.{stands}
use Rattle.crash_snapshots.proofs.laws.a_snapshot_stands.Goals as goal

pub returns : goal.returns
returns c =
    let nodes = c.a_node_in_use_has_data_blocks.ensures in
    let kept = c.a_snapshot_stays_with_its_blocks.ensures in
    λ g old new t n name places fits is fresh adds. stands (record { number = nodes.number; kind = nodes.kind; within = nodes.within; count = nodes.count })
    (record { tree = kept.tree; sound = kept.sound; blocks = kept.blocks; marked = kept.marked }) g fits old new t n name places is fresh adds
