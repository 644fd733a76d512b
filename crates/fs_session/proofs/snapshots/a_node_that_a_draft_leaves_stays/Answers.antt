use Rattle.std.proofs.Common.{subst}
use Rattle.layout_geometry.specs.Geometry.{IsGeometry}
use Rattle.fs_session.proofs.leaving.Nodes.{bare_zeros, node_stays}
use Rattle.fs_session.proofs.snapshots.a_node_that_a_draft_leaves_stays.Goals as goal

pub returns-clause-same : goal.returns-clause-same
returns-clause-same g c = λ tells d m k ok draft drafted file places.
    node_stays (g.S.Blocks.state c.args.blocks.now) (subst IsGeometry c.geom.ensures c.lawful.ensures.limits) m d (draft.sound tells) drafted k (g.met.S.Blocks.is_told c.args.blocks.now tells) ok file places

pub returns-clause-bare : goal.returns-clause-bare
returns-clause-bare g c = λ tells d m k draft drafted from upto none.
    bare_zeros (g.S.Blocks.state c.args.blocks.now) (subst IsGeometry c.geom.ensures c.lawful.ensures.limits) m d (draft.sound tells) drafted k from upto none
