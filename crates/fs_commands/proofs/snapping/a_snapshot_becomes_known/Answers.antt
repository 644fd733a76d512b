use Rattle.fs_commands.proofs.snapped.Counted.{counted_more, live_data, live_few, new_named}
use Rattle.fs_commands.proofs.unsnapped.Once.{live_once}
use Rattle.fs_commands.proofs.snapping.a_snapshot_becomes_known.Goals as goal

pub returns-clause-counts : goal.returns-clause-counts
returns-clause-counts c = λ g old new n name places counts more fits sound adds known more_in.
    counted_more c.what_is_known_of_snapshots_is_so.ensures.each c.a_snapshot_stays_with_its_blocks.ensures.marked c.a_snapshot_stays_with_its_blocks.ensures.blocks g old new n name places fits sound adds counts more known more_in

pub returns-clause-few : goal.returns-clause-few
returns-clause-few c = λ g m n counts fits number free known. live_few g m n counts fits number free known

pub returns-clause-within : goal.returns-clause-within
returns-clause-within c = λ g m. live_data g m c.a_node_in_use_has_data_blocks.ensures.within

pub returns-clause-once : goal.returns-clause-once
returns-clause-once c = λ g m sound. live_once g m sound

pub returns-clause-named : goal.returns-clause-named
returns-clause-named c = λ g old new t n name places fits stands none adds.
    new_named c.what_is_known_of_snapshots_is_so.ensures.named c.a_snapshot_stands.ensures g old new t n name places fits stands none adds
