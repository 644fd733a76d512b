use Rattle.std.proofs.Common.{◌≡◌, refl}
use Rattle.fs_commands.specs.Opened.{blocks_in}
use Rattle.fs_log.proofs.Causes.{was_asked}
use Rattle.fs_log.proofs.Holding.{session_of}
use Rattle.fs_log.proofs.OpenCauses.{question_calm}
use Rattle.fs_log.proofs.Questioning.{answers_question, question_asks}
use Rattle.fs_log.proofs.Writing.{no_time}
use Rattle.fs_log.proofs.finding.question.Goals as goal

pub returns-clause-asks : goal.returns-clause-asks
returns-clause-asks g c = λ told.
    let old = blocks_in c.args.fs.now in
    let new = blocks_in c.ask-reply.new.fs in
    question_asks g.S.Blocks.tells g.S.Blocks.state c.args.cmd.now c.ask-reply.result old new c.requires.question (c.requires.follows.stands told) (c.ask-reply.ensures.asked told) c.ask-reply.ensures.applies
    (c.a_command_answers_its_session.ensures.time told old new c.args.cmd.now c.ask-reply.result c.ask-reply.ensures.applies)
    (λ some going left. c.a_command_begins_with_a_tick.ensures c.args.cmd.now c.ask-reply.result old new some going left c.ask-reply.ensures.applies)
    (let f = session_of (g.S.Blocks.state old) (c.requires.follows.stands told) in
    question_calm g.S.Blocks.tells g.S.Blocks.state (c.a_command_is_answered_in_a_room_that_came_back.ensures.answers told) (c.a_command_is_answered_in_a_room_that_came_back.ensures.room told) c.a_tree_in_memory_refuses_for_no_disk.ensures.alone
    c.ask-reply.result old new f.0 f.1 c.args.cmd.now c.requires.question c.ask-reply.ensures.applies).1

pub returns-clause-answers : goal.returns-clause-answers
returns-clause-answers g c = λ told.
    answers_question g.S.Blocks.tells g.S.Blocks.state c.args.cmd.now c.ask-reply.result (blocks_in c.args.fs.now) (blocks_in c.ask-reply.new.fs) c.requires.question (c.requires.follows.stands told) (c.ask-reply.ensures.asked told)

pub returns-clause-was : goal.returns-clause-was
returns-clause-was g c =
    was_asked g.S.Blocks.tells g.S.Blocks.state c.calls_compose.ensures.advances (λ told s. no_time g.S.Blocks.state (c.calls_compose.ensures.rests told) s) (λ cmd. cmd ≡ c.args.cmd.now) c.args.cmd.now c.ask-reply.result
    (blocks_in c.args.fs.now) (blocks_in c.ask-reply.new.fs) refl
    (record {
      applies = c.ask-reply.ensures.applies;
      asked = c.ask-reply.ensures.asked;
      session = λ told. session_of (g.S.Blocks.state (blocks_in c.args.fs.now)) (c.requires.follows.stands told);
    })

pub returns-clause-calm : goal.returns-clause-calm
returns-clause-calm g c = λ told.
    let old = blocks_in c.args.fs.now in
    let f = session_of (g.S.Blocks.state old) (c.requires.follows.stands told) in
    (question_calm g.S.Blocks.tells g.S.Blocks.state (c.a_command_is_answered_in_a_room_that_came_back.ensures.answers told) (c.a_command_is_answered_in_a_room_that_came_back.ensures.room told) c.a_tree_in_memory_refuses_for_no_disk.ensures.alone
    c.ask-reply.result old (blocks_in c.ask-reply.new.fs) f.0 f.1 c.args.cmd.now c.requires.question c.ask-reply.ensures.applies).0
