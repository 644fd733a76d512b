use Rattle.std.proofs.Common.{subst}
use Rattle.fs_commands.specs.Opened.{blocks_in}
use Rattle.fs_log.proofs.Going.{KeepsKnown, asked}
use Rattle.fs_log.proofs.asking.ask.Goals as goal

pub returns-clause-asked : goal.returns-clause-asked
returns-clause-asked g c = λ told f session.
    let old = blocks_in c.args.fs.now in
    asked g.S.Blocks.tells g.S.Blocks.state told
    (record {
      points = c.a_reply_tells_the_points.ensures told;
      one = c.an_image_stands_for_one_tree.ensures.blocks;
      sound = c.a_tree_that_stands_is_sound.ensures.sound;
      earlier = c.a_crash_leaves_the_tree_of_a_point.ensures.earlier;
      call = c.a_crash_leaves_the_tree_of_a_point.ensures.call;
      ticks = c.a_command_begins_with_a_tick.ensures;
    })
    old (blocks_in c.apply-reply.new.self) c.args.cmd.now c.apply-reply.result f session
    c.apply-reply.ensures.applies (c.apply-reply.ensures.answers told) (c.apply-reply.ensures.time told)
    (subst (KeepsKnown g.S.Blocks.state old) c.blocks-2.ensures (c.points_stay_known.ensures.after old))
