use Rattle.std.proofs.Common.{◌+◌, drop, false, IfOk, subst, ap, arith, rules}
use Rattle.crash_stands.specs.Inodes.{inodes_of}
use Rattle.layout_geometry.specs.Geometry.{Geometry}
use Rattle.fs_dirs.specs.Directories.{IsNumber}
use Rattle.fs_dirs.specs.Reading.{EntersOn, HasWalked}
use Rattle.fs_dirs.proofs.reading.Looks.{same_read}
use Rattle.fs_dirs.proofs.reading.Walks.{walked_none, walked_more, walk_refused, walk_ended, next_name}
use Rattle.fs_dirs.proofs.walks.walk_names.Goals as goal

pub loop-name-init : goal.loop-name-init
loop-name-init g c =
    walked_none g.S.Blocks.tells (g.S.Blocks.state c.args.blocks.now) _ c.args.names.now (omega (arith, c.lawful.ensures.limits.least_nodes, ap (λ (h : Geometry). h.i) c.geom.ensures))

pub enter-requires : goal.enter-requires
enter-requires g c = record {
  going = search rules;
  from = search rules;
  upto = search rules;
  may = c.laws.ensures.stays false c.args.blocks.now c.loop-name.blocks c.loop-name.invariant.looks c.requires.read.may;
}

pub returns-in-Err-clause-end : goal.returns-in-Err-clause-end
returns-in-Err-clause-end g c =
    let start = g.S.Blocks.state c.args.blocks.now in
    let now = g.S.Blocks.state c.loop-name.blocks in
    let m = inodes_of start.books.geom.layout (g.N.Nodes.nodes start c.args.files.now).files in
    let n = inodes_of now.books.geom.layout (g.N.Nodes.nodes now c.args.files.now).files in
    let rest = drop (c.loop-name.name-index + 1) c.args.names.now in
    walk_refused g.S.Blocks.tells start now now m n c.args.names.now c.name-item.result rest c.loop-name.number
    (subst (λ l. HasWalked g.S.Blocks.tells start now m c.args.names.now l c.loop-name.number) (next_name c.args.names.now c.loop-name.name-index c.name-item.result c.loop-name-test.true c.name-item.is) c.loop-name.invariant)
    (λ told. same_read g.S.Blocks.tells false start now c.loop-name.invariant.looks _ _ (c.laws.ensures.same false c.args.blocks.now c.loop-name.blocks c.loop-name.invariant.looks told)) c.in-Err.why
    (λ told t x map is. subst (λ r. EntersOn n c.loop-name.number c.name-item.result r) c.in-Err.is (c.in_ok-next.ensures.step told t x map is))

pub loop-name-preserved : goal.loop-name-preserved
loop-name-preserved g c =
    let start = g.S.Blocks.state c.args.blocks.now in
    let now = g.S.Blocks.state c.loop-name.blocks in
    let m = inodes_of start.books.geom.layout (g.N.Nodes.nodes start c.args.files.now).files in
    let n = inodes_of now.books.geom.layout (g.N.Nodes.nodes now c.args.files.now).files in
    let rest = drop (c.loop-name.name-index + 1) c.args.names.now in
    walked_more g.S.Blocks.tells start now (g.S.Blocks.state c.enter.new.blocks) m n c.args.names.now c.name-item.result rest c.loop-name.number
    (subst (λ l. HasWalked g.S.Blocks.tells start now m c.args.names.now l c.loop-name.number) (next_name c.args.names.now c.loop-name.name-index c.name-item.result c.loop-name-test.true c.name-item.is) c.loop-name.invariant)
    (λ told. same_read g.S.Blocks.tells false start now c.loop-name.invariant.looks _ _ (c.laws.ensures.same false c.args.blocks.now c.loop-name.blocks c.loop-name.invariant.looks told)) c.in-Ok.next
    c.in_ok-next.ensures.looks (subst (λ r. IfOk r (IsNumber now.books.geom.i)) c.in-Ok.is c.in_ok-next.ensures.number)
    (λ told t x map is. subst (λ r. EntersOn n c.loop-name.number c.name-item.result r) c.in-Ok.is (c.in_ok-next.ensures.step told t x map is))

pub returns-clause-end : goal.returns-clause-end
returns-clause-end g c =
    walk_ended g.S.Blocks.tells (g.S.Blocks.state c.args.blocks.now) (g.S.Blocks.state c.loop-name.blocks) _ c.args.names.now c.loop-name.name-index c.loop-name.number c.loop-name.invariant c.loop-name-test.false
