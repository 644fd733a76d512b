use Rattle.std.proofs.Common.{refl, ◌∙◌}
use Rattle.fs_session.proofs.Weighing.{carried_out, weighed}
use Rattle.fs_session.proofs.change.carry_out.Goals as goal

pub returns-clause-goes_on : goal.returns-clause-goes_on
returns-clause-goes_on g c =
    let old = g.S.Blocks.state c.args.blocks.now in
    let mid = g.S.Blocks.state c.finish.new.blocks in
    let new = g.S.Blocks.state c.weigh.new.self in
    weighed c.geom.result c.args.draft c.args.cost old.books mid.books new.books c.geom.ensures (c.if-not-is_within.ensures.0 refl) c.in-Ok.ensures.books c.requires.goes_on c.weigh.ensures.books

pub returns-clause-made : goal.returns-clause-made
returns-clause-made g c =
    carried_out g.S.Blocks.tells c.args.draft c.args.cost (g.S.Blocks.state c.args.blocks.now) (g.S.Blocks.state c.finish.new.blocks) (g.S.Blocks.state c.weigh.new.self)
    c.in-Ok.ensures.books c.weigh.ensures.books c.in-Ok.ensures.map c.weigh.ensures.map

pub returns-clause-disk : goal.returns-clause-disk
returns-clause-disk g c = record {
  counts = c.weigh.ensures.disk.counts ∙ c.finish.ensures.disk.counts;
  crash = λ told. c.calls_compose.ensures.issues_nothing c.args.blocks.now c.finish.new.blocks c.weigh.new.self (c.finish.ensures.disk.crash told) (c.weigh.ensures.disk.crash told);
}
