use Rattle.lang_tree.specs.Step.{start}
use Rattle.cmd_replay.proofs.lawful.Points.{IsTold, point_is}
use Rattle.cmd_replay.proofs.laws.points_of_a_trace_have_lawful_names.Goals as goal

pub returns-clause-names : goal.returns-clause-names
returns-clause-names c = λ contents is number p at.
    let told : IsTold contents.geometry.i p.tree = point_is c.commands_keep_a_tree_sound.ensures.start c.commands_keep_a_tree_sound.ensures.step c.commands_keep_a_tree_sound.ensures.limit
    (λ limit. c.without_snapshots_there_are_paths_and_nodes.ensures.sound limit.nodes (start limit).tree (c.commands_keep_snapshots.ensures.start limit)) c.commands_keep_snapshots.ensures.sound
    (λ g. (c.geometries_are_within_limits.ensures g).0) contents is number p at in
    record { sound = told.sound; names = told.named.0; snapshots = told.snapshots; kept = told.named.1 }

pub returns-clause-bytes : goal.returns-clause-bytes
returns-clause-bytes c = λ contents is number p at.
    let told : IsTold contents.geometry.i p.tree = point_is c.commands_keep_a_tree_sound.ensures.start c.commands_keep_a_tree_sound.ensures.step c.commands_keep_a_tree_sound.ensures.limit
    (λ limit. c.without_snapshots_there_are_paths_and_nodes.ensures.sound limit.nodes (start limit).tree (c.commands_keep_snapshots.ensures.start limit)) c.commands_keep_snapshots.ensures.sound
    (λ g. (c.geometries_are_within_limits.ensures g).0) contents is number p at in
    record { bytes = told.bytes.0; kept = told.bytes.1 }
