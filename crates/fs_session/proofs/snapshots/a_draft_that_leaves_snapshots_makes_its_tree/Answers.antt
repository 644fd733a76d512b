use Rattle.std.proofs.Common.{subst}
use Rattle.layout_geometry.specs.Geometry.{IsGeometry}
use Rattle.fs_session.proofs.leaving.Gone.{FileLaws, gone_still}
use Rattle.fs_session.proofs.leaving.Known.{known_still}
use Rattle.fs_session.proofs.leaving.Stays.{StayLaws, sound_still, stands_still}
use Rattle.fs_session.proofs.snapshots.a_draft_that_leaves_snapshots_makes_its_tree.Goals as goal

pub returns-clause-sound : goal.returns-clause-sound
returns-clause-sound g c = λ tells d m t stands draft stays drafted.
    let s = g.S.Blocks.state c.args.blocks.now in
    let laws : StayLaws = record {
      tree = c.a_snapshot_stays_with_its_blocks.ensures.tree;
      sound = c.a_snapshot_stays_with_its_blocks.ensures.sound;
      blocks = c.a_snapshot_stays_with_its_blocks.ensures.blocks;
      marked = c.a_snapshot_stays_with_its_blocks.ensures.marked;
      kinds = c.a_node_in_use_has_data_blocks.ensures.kind;
      to = c.sound_beside_what_is_kept.ensures.to;
      from = c.sound_beside_what_is_kept.ensures.from;
    } in
    sound_still laws s (subst IsGeometry c.geom.ensures c.lawful.ensures.limits) m d t (g.met.S.Blocks.is_told c.args.blocks.now tells) stands (draft.sound tells) stays drafted

pub returns-clause-tree : goal.returns-clause-tree
returns-clause-tree g c = λ tells d m t u inodes stands draft stays drafted same reads map.
    let s = g.S.Blocks.state c.args.blocks.now in
    let laws : StayLaws = record {
      tree = c.a_snapshot_stays_with_its_blocks.ensures.tree;
      sound = c.a_snapshot_stays_with_its_blocks.ensures.sound;
      blocks = c.a_snapshot_stays_with_its_blocks.ensures.blocks;
      marked = c.a_snapshot_stays_with_its_blocks.ensures.marked;
      kinds = c.a_node_in_use_has_data_blocks.ensures.kind;
      to = c.sound_beside_what_is_kept.ensures.to;
      from = c.sound_beside_what_is_kept.ensures.from;
    } in
    stands_still laws s (subst IsGeometry c.geom.ensures c.lawful.ensures.limits) m d t (g.met.S.Blocks.is_told c.args.blocks.now tells) stands (draft.sound tells) stays drafted u inodes same reads map

pub returns-clause-known : goal.returns-clause-known
returns-clause-known g c = λ tells d m t counts numbers stands draft stays drafted knows.
    let s = g.S.Blocks.state c.args.blocks.now in
    let laws : StayLaws = record {
      tree = c.a_snapshot_stays_with_its_blocks.ensures.tree;
      sound = c.a_snapshot_stays_with_its_blocks.ensures.sound;
      blocks = c.a_snapshot_stays_with_its_blocks.ensures.blocks;
      marked = c.a_snapshot_stays_with_its_blocks.ensures.marked;
      kinds = c.a_node_in_use_has_data_blocks.ensures.kind;
      to = c.sound_beside_what_is_kept.ensures.to;
      from = c.sound_beside_what_is_kept.ensures.from;
    } in
    known_still laws s (subst IsGeometry c.geom.ensures c.lawful.ensures.limits) m d t (g.met.S.Blocks.is_told c.args.blocks.now tells) stands (draft.sound tells) stays drafted counts numbers knows

pub returns-clause-gone : goal.returns-clause-gone
returns-clause-gone g c = λ tells d m t k v stands draft stays drafted at right.
    let s = g.S.Blocks.state c.args.blocks.now in
    let laws : StayLaws = record {
      tree = c.a_snapshot_stays_with_its_blocks.ensures.tree;
      sound = c.a_snapshot_stays_with_its_blocks.ensures.sound;
      blocks = c.a_snapshot_stays_with_its_blocks.ensures.blocks;
      marked = c.a_snapshot_stays_with_its_blocks.ensures.marked;
      kinds = c.a_node_in_use_has_data_blocks.ensures.kind;
      to = c.sound_beside_what_is_kept.ensures.to;
      from = c.sound_beside_what_is_kept.ensures.from;
    } in
    let of_files : FileLaws = record { files = c.a_snapshot_stays_with_its_blocks.ensures.files; bytes = c.a_sound_snapshot_is_whole.ensures.bytes } in
    gone_still laws of_files s (subst IsGeometry c.geom.ensures c.lawful.ensures.limits) m d t (g.met.S.Blocks.is_told c.args.blocks.now tells) stands (draft.sound tells) stays drafted k v at right
