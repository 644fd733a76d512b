use Rattle.std.proofs.Common.{sym, subst}
use Rattle.base_types.specs.Seal.{Blocks}
use Rattle.layout_geometry.specs.Geometry.{Geometry}
use Rattle.lang_tree.specs.Step.{session_on}
use Rattle.crash_stands.specs.Bounds.{bounds_of}
use Rattle.cmd_session.specs.Accepted.{AcceptsLast}
use Rattle.cmd_session.specs.Issued.{IssuesLast}
use Rattle.cmd_image.specs.Serves.{pace_at_mount}
use Rattle.cmd_image.proofs.image_laws.a_run_stands_where_accepted_writes_do.Goals as goal

pub returns : goal.returns
returns c = λ first last marks cmds replies r alone.
    let f = session_on (bounds_of r.geom) r.tree in
    let issues : IssuesLast r.mount.geom.n first.base f last.log r.mounted cmds replies r.moments =
    subst (λ (g : Geometry). IssuesLast g.n first.base f last.log r.mounted cmds replies r.moments) (sym r.is_mount.geom)
    (subst (λ (base : Blocks). IssuesLast r.geom.n base f last.log r.mounted cmds replies r.moments) r.base r.run.issued) in
    subst (λ (base : Blocks). AcceptsLast r.geom.n base f last.log r.mounted cmds replies r.moments) (sym r.base)
    (subst (λ (g : Geometry). AcceptsLast g.n first.base f last.log r.mounted cmds replies r.moments) r.is_mount.geom
    (c.what_was_issued_was_accepted.ensures r.mount first.base first.manner last.log f (pace_at_mount first r.mounted f r.first_room) r.end cmds replies r.moments alone (r.mounts alone) r.serves issues))
