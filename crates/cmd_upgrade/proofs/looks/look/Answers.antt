-- A look is answered by what is there, or refused, and changes nothing.
use Rattle.std.proofs.Common.{arith}
use Rattle.fs_commands.specs.Opened.{blocks_in}
use Rattle.engine_store.specs.StoreOf.{state_of}
use Rattle.cmd_session.specs.Shared.{drawn}
use Rattle.cmd_upgrade.proofs.Sessions.{look_answered, look_more}
use Rattle.cmd_upgrade.proofs.Asked.{asked}
use Rattle.cmd_upgrade.proofs.Keeping.{stays_asked}
use Rattle.cmd_upgrade.proofs.looks.look.Goals as goal

pub returns-clause-stays : goal.returns-clause-stays
returns-clause-stays g c = λ told first t h.
    let known = g.D.Disk.state in
    look_more first t (state_of known (blocks_in c.args.served.now)) (state_of known (blocks_in c.apply.new.self)) c.args.cmd.now c.apply.result c.requires h
    (c.apply.ensures.serves told (λ s. drawn known s) h.geom t h.mounted h.cmds h.replies h.marks h.served) (c.apply.ensures.time told).advances.base (c.apply.ensures.writes told)
    (asked g.D.Disk.tells (λ s. state_of g.D.Disk.state s) (record {
      answers = c.a_command_is_answered_in_a_room_that_came_back.ensures.answers;
      counts = c.a_reply_tells_which_call_failed.ensures;
      read = c.a_refusal_for_the_disk_has_its_cause.ensures.read;
      stopped = c.a_refusal_for_the_disk_has_its_cause.ensures.stopped;
      spent = c.a_refusal_for_the_disk_has_its_cause.ensures.spent;
      rises = c.a_command_raises_the_numbers_little.ensures;
    }) told c.args.cmd.now c.apply.result (blocks_in c.args.served.now) (blocks_in c.apply.new.self) c.apply.ensures.applies)

pub returns-clause-answers : goal.returns-clause-answers
returns-clause-answers g c = λ told first t h.
    let known = g.D.Disk.state in
    let old = blocks_in c.args.served.now in
    let new = blocks_in c.apply.new.self in
    look_answered first t (state_of known old) (state_of known new) c.args.cmd.now c.apply.result c.requires h
    (λ f session. let a = c.a_command_answers_its_session.ensures.answers told old new f c.args.cmd.now c.apply.result session c.apply.ensures.applies in (a.next, a.answers))
    (asked g.D.Disk.tells (λ s. state_of g.D.Disk.state s) (record {
      answers = c.a_command_is_answered_in_a_room_that_came_back.ensures.answers;
      counts = c.a_reply_tells_which_call_failed.ensures;
      read = c.a_refusal_for_the_disk_has_its_cause.ensures.read;
      stopped = c.a_refusal_for_the_disk_has_its_cause.ensures.stopped;
      spent = c.a_refusal_for_the_disk_has_its_cause.ensures.spent;
      rises = c.a_command_raises_the_numbers_little.ensures;
    }) told c.args.cmd.now c.apply.result old new c.apply.ensures.applies)

pub returns-clause-raises : goal.returns-clause-raises
returns-clause-raises g c = omega (arith, c.a_command_raises_the_numbers_little.ensures (blocks_in c.args.served.now) (blocks_in c.apply.new.self) c.args.cmd.now c.apply.result c.apply.ensures.applies)

pub returns-clause-keeps : goal.returns-clause-keeps
returns-clause-keeps g c =
    stays_asked g.D.Disk.tells (λ s. state_of g.D.Disk.state s) c.args.cmd.now c.apply.result (blocks_in c.args.served.now) (blocks_in c.apply.new.self) c.apply.ensures.applies c.apply.ensures.time
