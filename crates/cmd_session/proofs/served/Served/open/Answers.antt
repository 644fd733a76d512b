use Rattle.std.proofs.Common.{subst}
use Rattle.fs_commands.specs.Opened.{blocks_in}
use Rattle.cmd_session.proofs.Opening.{BeginsKnown, begins, begins_budget, stood}
use Rattle.cmd_session.proofs.served.Served.open.Goals as goal

pub returns-in-Ok-clause-serves : goal.returns-in-Ok-clause-serves
returns-in-Ok-clause-serves g c = λ told drawn k m t mounted is.
    let new = blocks_in c.in-Ok.fs in
    begins g.S.Blocks.tells g.S.Blocks.state told c.args.blocks new
    (record {
      one = c.an_image_stands_for_one_tree.ensures.blocks;
      issued = c.a_crash_leaves_the_tree_of_a_point.ensures.issued;
      begins = subst (BeginsKnown g.S.Blocks.state) c.blocks-in-Ok.ensures c.points_stay_known.ensures.begins;
    })
    (drawn new) c.requires.begun c.in-Ok.ensures.looks k m t mounted is (c.in-Ok.ensures.session told)

pub returns-in-Ok-clause-budget : goal.returns-in-Ok-clause-budget
returns-in-Ok-clause-budget g c = λ told t.
    begins_budget g.S.Blocks.tells told (g.S.Blocks.state c.args.blocks) (g.S.Blocks.state (blocks_in c.in-Ok.fs)) (g.S.Blocks.state c.args.blocks).books.geom t c.requires.begun
    c.in-Ok.ensures.looks

pub returns-in-Ok-clause-stands : goal.returns-in-Ok-clause-stands
returns-in-Ok-clause-stands g c = λ told. stood g.S.Blocks.tells told (g.S.Blocks.state c.args.blocks) (g.S.Blocks.state (blocks_in c.in-Ok.fs)) c.in-Ok.ensures.looks (c.in-Ok.ensures.stands told)
