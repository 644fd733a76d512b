-- How a command is answered, by what the file system, the store and the disk say.
use Rattle.std.proofs.Common.{refl}
use Rattle.disk_memory.specs.MemDisk.{state_of as disk_state}
use Rattle.fs_commands.specs.Opened.{blocks_in}
use Rattle.cmd_session.specs.Shared.{drawn}
use Rattle.cmd_record.proofs.running.answer.Goals as goal

pub returns : goal.returns
returns c =
    let old = blocks_in c.args.system.now in
    let new = blocks_in c.apply-reply.new.self in
    let cmd = c.args.cmd.now in
    let reply = c.apply-reply.result in
    let applies = c.apply-reply.ensures.applies in
    let time = c.apply-reply.ensures.time refl in
    let disk = c.the_disk_keeps_to_its_manner.ensures in
    record {
      serves = c.apply-reply.ensures.serves refl (λ s. drawn disk_state s);
      budget = c.apply-reply.ensures.budget refl;
      spends = λ g t mounted cmds replies marks served budget before. c.the_writes_keep_within_the_budget_at_each_mark.ensures.more old new g t mounted cmds replies marks cmd reply served time.advances.grows budget before;
      room = λ f is. c.a_command_is_answered_in_a_room_that_came_back.ensures.answers refl old new f cmd reply is applies;
      base = time.advances.base;
      grows = time.advances.grows;
      lawful = disk.log;
      events = disk.events;
      writes = disk.writes;
      turns = c.a_command_raises_the_numbers_little.ensures old new cmd reply applies;
      spent = λ f session late. c.a_refusal_for_the_disk_has_its_cause.ensures.spent refl old new f cmd reply session applies late;
      goes = λ mount base m first t cmds replies marks served h. c.a_command_goes_by_the_log.ensures refl mount base m first t cmds replies marks cmd reply old new (record {
        applies = applies;
        time = time;
        drawn = drawn disk_state new;
        before = served;
        after = c.apply-reply.ensures.serves refl (λ s. drawn disk_state s) mount.geom t mount.mounted cmds replies marks served;
        places = c.lawful.ensures.places;
        few = c.lawful.ensures.writes;
        writes = c.apply-reply.ensures.writes refl;
        disk = record { lawful = disk.log.lawful; reads = disk.reads; fails = disk.fails; unlost = disk.unlost; still = disk.waits };
      }) h;
    }
