-- What the file system says of one command, and the laws of images and trees, gathered.
use Rattle.cmd_session.proofs.Stepping.{goes_more}
use Rattle.cmd_session.proofs.laws.a_command_goes_by_the_log.Goals as goal

pub returns : goal.returns
returns g c = λ told mount base m first t cmds replies marks cmd reply old new x h.
    goes_more g.S.Blocks.tells g.S.Blocks.state told mount base m first t cmds replies marks cmd reply old new
    (record {
      limits = h.limits;
      sound = c.a_tree_that_stands_is_sound.ensures.sound;
      alike = c.images_alike_below_n_hold_the_same.ensures;
      newest = c.an_image_holds_one_map.ensures.newest;
      replies = c.a_reply_tells_the_session.ensures;
      numbers = c.numbers_of_snapshots_are_in_the_map.ensures.name;
      changes = c.a_command_changes_where_it_costs.ensures;
      shared = c.sharing_costs_where_all_costs.ensures;
    })
    (record {
      serves = λ f session. c.a_command_serves_what_is_sure.ensures told old new f cmd reply session x.applies;
      answers = λ f session. c.a_command_is_answered_in_a_room_that_came_back.ensures.answers told old new f cmd reply session x.applies;
      room = λ f session. c.a_command_is_answered_in_a_room_that_came_back.ensures.room told old f session;
      ticked = λ meant run left. c.a_command_begins_with_a_tick.ensures cmd reply old new meant run left x.applies;
      calm = λ f left meant run session needs. c.a_command_that_needs_no_wait_makes_none.ensures told old new f cmd reply meant run left session needs x.applies;
      spent = λ f session late. c.a_refusal_for_the_disk_has_its_cause.ensures.spent told old new f cmd reply session x.applies late;
      stopped = λ f session late. c.a_refusal_for_the_disk_has_its_cause.ensures.stopped told old new f cmd reply session x.applies late;
      read = λ f session unread. c.a_refusal_for_the_disk_has_its_cause.ensures.read told old new f cmd reply session x.applies unread;
      told = g.met.S.Blocks.is_told new told;
    }) x h
