use Rattle.fs_session.proofs.points.live_blocks_are_enough.Goals as goal

pub returns : goal.returns
returns c = record { tree = λ g map m t fits same h. c.a_tree_stands_by_its_live_blocks.ensures g map m t fits same h }
