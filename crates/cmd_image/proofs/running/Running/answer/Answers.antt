-- How a command is answered, by what the file system, the store and the disk say.
use Rattle.std.proofs.Common.{[], ◌∷◌, ◌++◌, List, length, subst, sym, ap, ◌∙◌}
use Rattle.disk_contract.specs.declared.bay.Mark.{Mark}
use Rattle.fs_commands.specs.Opened.{blocks_in}
use Rattle.engine_store.specs.StoreOf.{disk_in, state_of}
use Rattle.cmd_session.specs.Shared.{drawn}
use Rattle.cmd_image.specs.Steps.{SoFar}
use Rattle.cmd_image.proofs.Counting.{counts_by_reply, moved}
use Rattle.cmd_image.specs.Shared.{is_mark_in}
use Rattle.cmd_image.proofs.Going.{more_so_far}
use Rattle.cmd_image.proofs.running.Running.answer.Goals as goal

pub returns-clause-answers : goal.returns-clause-answers
returns-clause-answers g c = λ first cmds replies h.
    let known = g.D.Disk.state in
    let tells = g.D.Disk.tells in
    let old = blocks_in c.args.self.now.served in
    let new = blocks_in c.apply-reply.new.self in
    let cmd = c.args.cmd.now in
    let reply = c.apply-reply.result in
    let applies = c.apply-reply.ensures.applies in
    let on = c.disk.ensures.value ∙ ap disk_in c.blocks-2.ensures in
    let move = moved tells (λ s. state_of known s) cmd reply old new applies in
    subst (λ (ms : List Mark). SoFar tells first (cmds ++ cmd ∷ []) (replies ++ reply ∷ []) ms (state_of known new)) (sym c.push_reserved.ensures.items)
    (more_so_far tells first cmd reply c.mark_of-mark.result (state_of known old) (state_of known new) cmds replies c.args.self.now.marks.items move.unread move.failed move.counted (λ t. record {
      serves = c.apply-reply.ensures.serves t (λ s. drawn known s);
      budget = c.apply-reply.ensures.budget t;
      spends = λ k u mounted asked given moments served budget before. c.the_writes_keep_within_the_budget_at_each_mark.ensures.more old new k u mounted asked given moments cmd reply served (c.apply-reply.ensures.time t).advances.grows budget before;
      goes = λ mount base m pace u asked given moments served h. c.a_command_goes_by_the_log.ensures t mount base m pace u asked given moments cmd reply old new (record {
        applies = applies;
        time = c.apply-reply.ensures.time t;
        drawn = drawn known new;
        before = served;
        after = c.apply-reply.ensures.serves t (λ s. drawn known s) mount.geom u mount.mounted asked given moments served;
        places = c.lawful.ensures.places;
        few = c.lawful.ensures.writes;
        writes = c.apply-reply.ensures.writes t;
        disk = record {
          lawful = c.the_disk_keeps_to_its_manner.ensures.lawful t;
          reads = c.the_disk_keeps_to_its_manner.ensures.reads t;
          fails = c.the_disk_keeps_to_its_manner.ensures.fails t;
          unlost = c.the_disk_keeps_to_its_manner.ensures.unlost t;
          still = c.the_disk_keeps_to_its_manner.ensures.still t;
        };
      }) h;
      advances = (c.apply-reply.ensures.time t).advances;
      turns = c.a_command_raises_the_numbers_little.ensures old new cmd reply applies;
      counted = λ f session. counts_by_reply tells (λ s. state_of known s) cmd reply old new applies t c.a_tree_in_memory_refuses_for_no_disk.ensures.alone f session;
      stopped = λ f session late. c.a_refusal_for_the_disk_has_its_cause.ensures.stopped t old new f cmd reply session applies late;
      spent = λ f session late. c.a_refusal_for_the_disk_has_its_cause.ensures.spent t old new f cmd reply session applies late;
      reads = c.the_disk_keeps_to_its_manner.ensures.reads t;
      fails = c.the_disk_keeps_to_its_manner.ensures.fails t;
      is_mark = is_mark_in c.mark_of-mark.result (state_of known new)
          (c.mark_of-mark.ensures.moment t ∙ ap (λ d. length (known d).log) on)
          (c.mark_of-mark.ensures.read_faults ∙ ap (λ d. (known d).read_faults) on)
          (c.mark_of-mark.ensures.faults ∙ ap (λ d. (known d).faults) on);
    }) h)
