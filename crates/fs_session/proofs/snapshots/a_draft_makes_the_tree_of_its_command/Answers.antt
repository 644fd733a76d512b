use Rattle.std.proofs.Common.{subst}
use Rattle.layout_geometry.specs.Geometry.{IsGeometry}
use Rattle.fs_session.proofs.leaving.Made.{MadeLaws, lists_made, tree_made}
use Rattle.fs_session.proofs.leaving.Stays.{StayLaws}
use Rattle.fs_session.proofs.snapshots.a_draft_makes_the_tree_of_its_command.Goals as goal

pub returns-clause-tree : goal.returns-clause-tree
returns-clause-tree g c = λ tells start cmd d cost f m session draft made drafted.
    let s = g.S.Blocks.state c.args.blocks.now in
    let stays : StayLaws = record {
      tree = c.a_snapshot_stays_with_its_blocks.ensures.tree;
      sound = c.a_snapshot_stays_with_its_blocks.ensures.sound;
      blocks = c.a_snapshot_stays_with_its_blocks.ensures.blocks;
      marked = c.a_snapshot_stays_with_its_blocks.ensures.marked;
      kinds = c.a_node_in_use_has_data_blocks.ensures.kind;
      to = c.sound_beside_what_is_kept.ensures.to;
      from = c.sound_beside_what_is_kept.ensures.from;
    } in
    let laws : MadeLaws = record {
      stays = stays;
      named = c.what_is_known_of_snapshots_is_so.ensures.named;
      comes = c.a_snapshot_stands.ensures;
      goes = c.a_snapshot_goes.ensures;
      ok = c.a_tree_that_stands_is_sound.ensures.snapshots;
      same = c.commands_keep_snapshots.ensures.same;
    } in
    tree_made laws s (subst IsGeometry c.geom.ensures c.lawful.ensures.limits) m d f (g.met.S.Blocks.is_told c.args.blocks.now tells) session.tree session.limit (draft.sound tells) drafted cmd made.accepted made.snapshots made.reads made.map

pub returns-clause-keeps : goal.returns-clause-keeps
returns-clause-keeps g c = λ tells start cmd d cost f m session draft made drafted.
    let s = g.S.Blocks.state c.args.blocks.now in
    let stays : StayLaws = record {
      tree = c.a_snapshot_stays_with_its_blocks.ensures.tree;
      sound = c.a_snapshot_stays_with_its_blocks.ensures.sound;
      blocks = c.a_snapshot_stays_with_its_blocks.ensures.blocks;
      marked = c.a_snapshot_stays_with_its_blocks.ensures.marked;
      kinds = c.a_node_in_use_has_data_blocks.ensures.kind;
      to = c.sound_beside_what_is_kept.ensures.to;
      from = c.sound_beside_what_is_kept.ensures.from;
    } in
    let laws : MadeLaws = record {
      stays = stays;
      named = c.what_is_known_of_snapshots_is_so.ensures.named;
      comes = c.a_snapshot_stands.ensures;
      goes = c.a_snapshot_goes.ensures;
      ok = c.a_tree_that_stands_is_sound.ensures.snapshots;
      same = c.commands_keep_snapshots.ensures.same;
    } in
    let told = g.met.S.Blocks.is_told c.args.blocks.now tells in
    let fits = subst IsGeometry c.geom.ensures c.lawful.ensures.limits in
    lists_made laws s fits m d f told session.tree session.limit (draft.sound tells) drafted cmd made.accepted made.snapshots
    (tree_made laws s fits m d f told session.tree session.limit (draft.sound tells) drafted cmd made.accepted made.snapshots made.reads made.map)
