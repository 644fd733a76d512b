use Rattle.std.proofs.Common.{subst}
use Rattle.layout_geometry.specs.Geometry.{IsGeometry}
use Rattle.fs_session.proofs.standing.Known.{known_at_first, known_anew, known_after, known_synced}
use Rattle.fs_session.proofs.points.points_stay_known.Goals as goal

pub returns-clause-begins : goal.returns-clause-begins
returns-clause-begins g c = λ trees first has tree.
    known_at_first c.a_tree_stands_by_its_live_blocks.ensures (g.S.Blocks.state c.args.blocks.now) trees (subst IsGeometry c.geom.ensures c.lawful.ensures.limits) first has tree

pub returns-clause-comes : goal.returns-clause-comes
returns-clause-comes g c = λ old trees t on made geom more tree known.
    known_anew c.a_tree_stands_by_its_live_blocks.ensures (g.S.Blocks.state old) (g.S.Blocks.state c.args.blocks.now) trees t (subst IsGeometry c.geom.ensures c.lawful.ensures.limits) on made geom more tree known

pub returns-clause-after : goal.returns-clause-after
returns-clause-after g c = λ old trees t on made geom most tree known.
    known_after c.a_tree_stands_by_its_live_blocks.ensures (g.S.Blocks.state old) (g.S.Blocks.state c.args.blocks.now) trees t (subst IsGeometry c.geom.ensures c.lawful.ensures.limits) on made geom most tree known

pub returns-clause-sync : goal.returns-clause-sync
returns-clause-sync g c = λ old result trees t tells syncs tree known.
    known_synced c.a_tree_stands_by_its_live_blocks.ensures g.S.Blocks.tells result (g.S.Blocks.state old) (g.S.Blocks.state c.args.blocks.now) trees t (subst IsGeometry c.geom.ensures c.lawful.ensures.limits) tells syncs tree known
