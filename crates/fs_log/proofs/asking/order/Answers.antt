use Rattle.std.proofs.Common.{refl}
use Rattle.lang_tree.specs.declared.command.Cmd.TheVariants.{Osync}
use Rattle.fs_commands.specs.Opened.{blocks_in}
use Rattle.fs_session.specs.Memory.{room_of}
use Rattle.fs_log.specs.Causes.{AsksToOrder}
use Rattle.fs_log.specs.Refusals.{is_of_none}
use Rattle.fs_log.proofs.Causes.{caused, was_asked}
use Rattle.fs_log.proofs.Holding.{session_of}
use Rattle.fs_log.proofs.Rooms.{order_late}
use Rattle.fs_log.proofs.Syncing.{ordered}
use Rattle.fs_log.proofs.Writing.{no_time}
use Rattle.fs_log.proofs.asking.order.Goals as goal

pub returns-clause-rests : goal.returns-clause-rests
returns-clause-rests g c = λ told.
    ordered g.S.Blocks.tells g.S.Blocks.state (blocks_in c.args.fs.now) (blocks_in c.ask-reply.new.fs) c.ask-reply.result (c.requires.follows.stands told) (c.ask-reply.ensures.asked told)

pub returns-clause-was : goal.returns-clause-was
returns-clause-was g c =
    let old = blocks_in c.args.fs.now in
    let new = blocks_in c.ask-reply.new.fs in
    was_asked g.S.Blocks.tells g.S.Blocks.state c.calls_compose.ensures.advances (λ told s. no_time g.S.Blocks.state (c.calls_compose.ensures.rests told) s) AsksToOrder Osync c.ask-reply.result old new refl
    (record {
      applies = c.ask-reply.ensures.applies;
      asked = c.ask-reply.ensures.asked;
      session = λ told. session_of (g.S.Blocks.state old) (c.requires.follows.stands told);
    })

pub returns-clause-cause : goal.returns-clause-cause
returns-clause-cause g c = λ none.
    let old = blocks_in c.args.fs.now in
    let new = blocks_in c.ask-reply.new.fs in
    caused g.S.Blocks.tells g.S.Blocks.state is_of_none AsksToOrder old new c.ask-reply.result
    (returns-clause-was g c)
    (λ told.
    let f = session_of (g.S.Blocks.state old) (c.requires.follows.stands told) in
    let x = c.a_command_is_answered_in_a_room_that_came_back.ensures.answers told old new f.0 Osync c.ask-reply.result f.1 c.ask-reply.ensures.applies in
    order_late (g.S.Blocks.state old).books.geom f.0 x.0 (room_of (g.S.Blocks.state old)) (room_of (g.S.Blocks.state new)) c.ask-reply.result x.3 none)
