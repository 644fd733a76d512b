-- How a call is answered, by what the log, the store and the disk say.
use Rattle.std.proofs.Common.{IsTrue, [], ◌∷◌, ◌++◌, List, length, subst, sym, ap, ◌∙◌}
use Rattle.disk_contract.specs.declared.bay.Mark.{Mark}
use Rattle.fs_commands.specs.Opened.{blocks_in}
use Rattle.engine_store.specs.StoreOf.{disk_in, state_of}
use Rattle.cmd_session.specs.Shared.{drawn}
use Rattle.cmd_image.specs.Shared.{is_mark_in}
use Rattle.cmd_log.specs.Answering.{Asks}
use Rattle.cmd_log.specs.Steps.{KeepsToManner, SoFar}
use Rattle.cmd_log.proofs.Causes.{ReplyLaws, leads_call}
use Rattle.cmd_log.proofs.Going.{counted_by, more_so_far}
use Rattle.cmd_log.proofs.running.Running.answer.Goals as goal

pub returns-clause-answers : goal.returns-clause-answers
returns-clause-answers g c = λ first calls replies h.
    let known = g.D.Disk.state in
    let tells = g.D.Disk.tells in
    let old = blocks_in c.args.self.now.logged.fs in
    let new = blocks_in c.answer-reply.new.self.fs in
    let call = c.args.call.now in
    let reply = c.answer-reply.result in
    let answered = c.answer-reply.ensures.answered in
    let on = c.disk.ensures.value ∙ ap disk_in c.blocks-3.ensures in
    let laws : IsTrue tells → ReplyLaws tells (state_of known) = λ t. record {
      read = c.a_refusal_for_the_disk_has_its_cause.ensures.read t;
      stopped = c.a_refusal_for_the_disk_has_its_cause.ensures.stopped t;
      spent = c.a_refusal_for_the_disk_has_its_cause.ensures.spent t;
      counts = c.a_reply_tells_which_call_failed.ensures t;
      points = c.a_reply_tells_the_points.ensures t;
      rooms = c.a_command_is_answered_in_a_room_that_came_back.ensures.answers t;
      turns = c.a_command_raises_the_numbers_little.ensures;
    } in
    subst (λ (ms : List Mark). SoFar tells first (calls ++ call ∷ []) (replies ++ reply ∷ []) ms (state_of known new)) (sym c.push_reserved.ensures.items)
    (more_so_far tells first call reply c.mark_of-mark.result (state_of known old) (state_of known new) calls replies c.args.self.now.marks.items (λ t. record {
      logs = c.answer-reply.ensures.logs t (λ s. drawn known s);
      takes = answered.takes t;
      counted = counted_by tells (λ s. state_of known s) t
          (laws t)
          (Asks c.args.self.now.logged call) old new (subst (λ x. KeepsToManner (state_of known x)) c.blocks-2.ensures (c.the_disk_keeps_to_its_manner.ensures t)) reply answered.cause;
      leads = λ at is over. leads_call tells (state_of known) t (laws t) call c.args.self.now.logged c.answer-reply.new.self (c.answer-reply.ensures.mirrors t) c.requires.most at is over reply answered;
      is_mark = is_mark_in c.mark_of-mark.result (state_of known new)
          (c.mark_of-mark.ensures.moment t ∙ ap (λ d. length (known d).log) on)
          (c.mark_of-mark.ensures.read_faults ∙ ap (λ d. (known d).read_faults) on)
          (c.mark_of-mark.ensures.faults ∙ ap (λ d. (known d).faults) on);
    }) h)
