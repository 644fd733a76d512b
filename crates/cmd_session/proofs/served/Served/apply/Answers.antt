use Rattle.std.proofs.Common.{subst, sym}
use Rattle.lang_tree.specs.Run.{is_of_disk}
use Rattle.engine_blocks.specs.Crashes.{WritesAtMost}
use Rattle.fs_commands.specs.Opened.{blocks_in}
use Rattle.cmd_session.specs.Budget.{KeepsBudget, writes_of}
use Rattle.cmd_session.specs.Serving.{HasServed}
use Rattle.cmd_session.proofs.Serving.{KeepsKnown, serves_more}
use Rattle.cmd_session.proofs.Spending.{keeps_more, writes_more}
use Rattle.cmd_session.proofs.served.Served.apply.Goals as goal

pub returns-clause-serves : goal.returns-clause-serves
returns-clause-serves g c = λ told drawn k t mounted cmds replies marks served.
    let old = blocks_in c.self.inside.fs in
    serves_more g.S.Blocks.tells g.S.Blocks.state told
    (record {
      points = c.a_reply_tells_the_points.ensures told;
      session = λ before after cmd reply. c.a_reply_tells_the_session.ensures is_of_disk before after cmd reply;
      stops = c.a_fault_ends_the_session.ensures.more;
      now = c.a_crash_leaves_the_tree_of_a_point.ensures.now;
      call = c.a_crash_leaves_the_tree_of_a_point.ensures.call;
      issued = c.a_crash_leaves_the_tree_of_a_point.ensures.issued;
    })
    k t mounted cmds replies marks old (blocks_in c.apply-reply.new.self) c.args.cmd.now c.apply-reply.result
    (subst (λ fs. HasServed k t mounted cmds replies marks (g.S.Blocks.state (blocks_in fs))) (sym c.self.view_is) served) drawn
    c.apply-reply.ensures.applies (c.apply-reply.ensures.answers told) (c.apply-reply.ensures.time told)
    (subst (KeepsKnown g.S.Blocks.state old) c.blocks-2.ensures (c.points_stay_known.ensures.after old))

pub returns-clause-budget : goal.returns-clause-budget
returns-clause-budget g c = λ told k t mounted begun cmds replies marks served keeps.
    keeps_more g.S.Blocks.tells g.S.Blocks.state told c.nothing_shared_costs_nothing.ensures.commands k t mounted begun cmds replies marks (blocks_in c.self.inside.fs) (blocks_in c.apply-reply.new.self) c.args.cmd.now c.apply-reply.result
    (subst (λ fs. HasServed k t mounted cmds replies marks (g.S.Blocks.state (blocks_in fs))) (sym c.self.view_is) served)
    (subst (λ fs. KeepsBudget k t begun cmds replies (g.S.Blocks.state (blocks_in fs))) (sym c.self.view_is) keeps)
    c.apply-reply.ensures.applies (c.self.invariant.stands told) c.self.invariant.ready.between.goes_on.may

pub returns-clause-writes : goal.returns-clause-writes
returns-clause-writes g c = λ told.
    subst (λ fs. WritesAtMost (writes_of c.args.cmd.now c.apply-reply.result (g.S.Blocks.state (blocks_in fs)).books) (g.S.Blocks.state (blocks_in fs)) (g.S.Blocks.state (blocks_in c.apply-reply.new.self)))
    c.self.view_is
    (writes_more g.S.Blocks.tells g.S.Blocks.state told c.args.cmd.now c.apply-reply.result (blocks_in c.self.inside.fs) (blocks_in c.apply-reply.new.self) (c.self.invariant.stands told)
    c.apply-reply.ensures.applies)
