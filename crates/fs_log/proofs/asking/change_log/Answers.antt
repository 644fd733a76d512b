use Rattle.std.proofs.Common.{subst}
use Rattle.layout_geometry.specs.Geometry.{IsGeometry}
use Rattle.fs_commands.specs.Opened.{blocks_in}
use Rattle.fs_log.proofs.Causes.{changed_time, changed_was}
use Rattle.fs_log.proofs.Writing.{gone_in_the_end, made_in_the_end, no_time, written_in_the_end}
use Rattle.fs_log.proofs.asking.change_log.Goals as goal

pub returns-clause-written : goal.returns-clause-written
returns-clause-written g c = λ told before s l bytes holds may.
    written_in_the_end g.S.Blocks.tells g.S.Blocks.state told
    (record {
      sound = c.a_tree_that_stands_is_sound.ensures.sound;
      directory = c.a_segment_lies_in_the_directory.ensures;
      one = c.a_tree_has_one_log.ensures;
      both = c.calls_compose.ensures.advances;
      rooms = c.a_command_is_answered_in_a_room_that_came_back.ensures.answers told;
      alone = c.a_tree_in_memory_refuses_for_no_disk.ensures.alone;
      division = c.touched_blocks_are_counted_by_division.ensures;
    })
    c.a_segment_grows_by_an_append.ensures c.segments_make_a_log.ensures.grown
    before s l bytes c.args.cmd.now c.change-reply.result (blocks_in c.args.fs.now) (blocks_in c.change-reply.new.fs)
    (subst (λ b. IsGeometry (g.S.Blocks.state b).books.geom) c.blocks-2.ensures (subst IsGeometry c.geom.ensures c.lawful.ensures.limits)) c.change-reply.ensures.changed holds may

pub returns-clause-made : goal.returns-clause-made
returns-clause-made g c = λ told segments l holds may.
    made_in_the_end g.S.Blocks.tells g.S.Blocks.state told
    (record {
      sound = c.a_tree_that_stands_is_sound.ensures.sound;
      directory = c.a_segment_lies_in_the_directory.ensures;
      one = c.a_tree_has_one_log.ensures;
      both = c.calls_compose.ensures.advances;
      rooms = c.a_command_is_answered_in_a_room_that_came_back.ensures.answers told;
      alone = c.a_tree_in_memory_refuses_for_no_disk.ensures.alone;
      division = c.touched_blocks_are_counted_by_division.ensures;
    })
    c.a_new_segment_is_empty.ensures c.segments_make_a_log.ensures.new
    segments l c.args.cmd.now c.change-reply.result (blocks_in c.args.fs.now) (blocks_in c.change-reply.new.fs)
    (subst (λ b. IsGeometry (g.S.Blocks.state b).books.geom) c.blocks-2.ensures (subst IsGeometry c.geom.ensures c.lawful.ensures.limits)) c.change-reply.ensures.changed holds may

pub returns-clause-gone : goal.returns-clause-gone
returns-clause-gone g c = λ told s r rest l holds is.
    gone_in_the_end g.S.Blocks.tells g.S.Blocks.state told
    (record {
      sound = c.a_tree_that_stands_is_sound.ensures.sound;
      directory = c.a_segment_lies_in_the_directory.ensures;
      one = c.a_tree_has_one_log.ensures;
      both = c.calls_compose.ensures.advances;
      rooms = c.a_command_is_answered_in_a_room_that_came_back.ensures.answers told;
      alone = c.a_tree_in_memory_refuses_for_no_disk.ensures.alone;
      division = c.touched_blocks_are_counted_by_division.ensures;
    })
    c.the_first_segment_goes.ensures c.segments_make_a_log.ensures.trimmed
    s r rest l c.args.cmd.now c.change-reply.result (blocks_in c.args.fs.now) (blocks_in c.change-reply.new.fs)
    (subst (λ b. IsGeometry (g.S.Blocks.state b).books.geom) c.blocks-2.ensures (subst IsGeometry c.geom.ensures c.lawful.ensures.limits)) c.change-reply.ensures.changed holds is

pub returns-clause-was : goal.returns-clause-was
returns-clause-was g c =
    changed_was g.S.Blocks.tells g.S.Blocks.state c.calls_compose.ensures.advances (λ told s. no_time g.S.Blocks.state (c.calls_compose.ensures.rests told) s)
    c.args.cmd.now c.change-reply.result (blocks_in c.args.fs.now) (blocks_in c.change-reply.new.fs) c.change-reply.ensures.changed

pub returns-clause-time : goal.returns-clause-time
returns-clause-time g c = λ told.
    changed_time g.S.Blocks.tells g.S.Blocks.state c.calls_compose.ensures.advances (λ told s. no_time g.S.Blocks.state (c.calls_compose.ensures.rests told) s)
    c.args.cmd.now c.change-reply.result (blocks_in c.args.fs.now) (blocks_in c.change-reply.new.fs) c.change-reply.ensures.changed told
