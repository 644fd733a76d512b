-- How a command is answered, by what the file system, the store and the disk say.
use Rattle.std.proofs.Common.{◌≡◌, ◌<◌, true, refl, ap, ◌∙◌, subst}
use Rattle.disk_memory.specs.MemDisk.{MemDiskState, state_of as disk_state}
use Rattle.engine_store.specs.StoreOf.{disk_in, state_of}
use Rattle.fs_commands.specs.Opened.{blocks_in}
use Rattle.cmd_load.proofs.Commands.{goes_on, manner_stays}
use Rattle.cmd_load.proofs.answering.answer.Goals as goal

pub returns-clause-answered : goal.returns-clause-answered
returns-clause-answered c =
    let old = blocks_in c.args.fs.now in
    let new = blocks_in c.apply-reply.new.self in
    let cmd = c.args.cmd.now in
    let reply = c.apply-reply.result in
    let applies = c.apply-reply.ensures.applies in
    let is : c.disk.result.now ≡ disk_in new = c.disk.ensures.value ∙ ap (λ x. disk_in x) c.blocks-2.ensures in
    let reads : 0 < (disk_state (disk_in new)).read_faults → (disk_state (disk_in new)).manner.reads_fail ≡ true = subst (λ (d : MemDiskState). 0 < (disk_state d).read_faults → (disk_state d).manner.reads_fail ≡ true) is (c.lawful.ensures refl).reads in
    record {
      room = λ f session. c.a_command_is_answered_in_a_room_that_came_back.ensures.room refl old f session;
      answers = λ f session. c.a_command_is_answered_in_a_room_that_came_back.ensures.answers refl old new f cmd reply session applies;
      turns = c.a_command_raises_the_numbers_little.ensures old new cmd reply applies;
      manner = manner_stays true (λ s. state_of disk_state s) cmd reply old new applies (λ meant run left. c.a_command_begins_with_a_tick.ensures cmd reply old new meant run left applies);
      going = goes_on true (λ s. state_of disk_state s) cmd reply old new applies;
      spent = λ f session late. c.a_refusal_for_the_disk_has_its_cause.ensures.spent refl old new f cmd reply session applies late;
      stops = λ f session late. c.a_refusal_for_the_disk_has_its_cause.ensures.stopped refl old new f cmd reply session applies late;
      reads = λ f session unread. reads (c.a_refusal_for_the_disk_has_its_cause.ensures.read refl old new f cmd reply session applies unread);
    }

pub returns-clause-stands : goal.returns-clause-stands
returns-clause-stands c = c.apply-reply.ensures.stands refl
