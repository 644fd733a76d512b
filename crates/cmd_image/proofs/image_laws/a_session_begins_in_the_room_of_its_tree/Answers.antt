use Rattle.cmd_image.proofs.Beginning.{begins_room}
use Rattle.cmd_image.proofs.image_laws.a_session_begins_in_the_room_of_its_tree.Goals as goal

pub returns : goal.returns
returns g c = λ told first old new t mounted begun looks session.
    begins_room g.S.Blocks.tells told first (g.S.Blocks.state old) mounted (g.S.Blocks.state new) t begun looks session
    (λ f is. c.a_command_is_answered_in_a_room_that_came_back.ensures.room told new f is)
    (λ f is. c.as_many_blocks_are_marked_as_the_tree_has.ensures.room new f told is)
    (c.as_many_blocks_are_marked_as_the_tree_has.ensures.takeable new)
