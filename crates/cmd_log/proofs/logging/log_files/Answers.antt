use Rattle.std.proofs.Common.{◌≡◌, IsTrue, [], Err, List, length, subst, sym, ap, ◌∙◌, refl, arith}
use Rattle.disk_contract.specs.Bay.{has_faults}
use Rattle.disk_contract.specs.declared.bay.Mark.{Mark}
use Rattle.fs_commands.specs.Opened.{blocks_in}
use Rattle.engine_blocks.specs.Crashes.{Advances}
use Rattle.fs_session.specs.Points.{KnowsPoints}
use Rattle.engine_store.specs.StoreOf.{disk_in, state_of}
use Rattle.cmd_session.specs.Shared.{drawn}
use Rattle.cmd_log.specs.Logs.{log_fails_pushing}
use Rattle.cmd_log.specs.Steps.{KeepsToManner, Said, SoFar}
use Rattle.cmd_image.specs.Shared.{is_mark_in}
use Rattle.cmd_log.proofs.Opening.{known_first, stands_in}
use Rattle.cmd_log.proofs.Causes.{ReplyLaws, leads_open}
use Rattle.cmd_log.proofs.Finishing.{has_room_cause, says, silent_open, stands_back, unlogged_back}
use Rattle.cmd_log.proofs.logging.log_files.Goals as goal

pub returns-in-Ok-clause-comes : goal.returns-in-Ok-clause-comes
returns-in-Ok-clause-comes g c = λ first is.
    let known = g.D.Disk.state in
    let tells = g.D.Disk.tells in
    let s = state_of known (blocks_in c.args.fs) in
    let opened = blocks_in c.in-Ok.logged.fs in
    let u = state_of known opened in
    let on = c.disk.ensures.value ∙ ap disk_in c.blocks-in-Ok.ensures in
    let laws : IsTrue tells → ReplyLaws tells (state_of known) = λ t. record {
      read = c.a_refusal_for_the_disk_has_its_cause.ensures.read t;
      stopped = c.a_refusal_for_the_disk_has_its_cause.ensures.stopped t;
      spent = c.a_refusal_for_the_disk_has_its_cause.ensures.spent t;
      counts = c.a_reply_tells_which_call_failed.ensures t;
      points = c.a_reply_tells_the_points.ensures t;
      rooms = c.a_command_is_answered_in_a_room_that_came_back.ensures.answers t;
      turns = c.a_command_raises_the_numbers_little.ensures;
    } in
    c.log_opened.ensures.comes first
    (subst (λ (x : _). SoFar tells first [] [] c.begin.result.marks.items (state_of known (blocks_in x.fs))) (sym c.begin.ensures.logged)
    (subst (λ (ms : List Mark). SoFar tells first [] [] ms u) (sym c.begin.ensures.marks) (λ t.
    let h = is t in
    let range = c.in-Ok.ensures.range t h.tree (stands_in first s h) in
    known_first first s h u range.log c.mark_of-mark.result range.is (c.in-Ok.ensures.time t)
    (c.in-Ok.ensures.logs t (λ x. drawn known x) s.books.geom h.tree (length s.crash.log) range.log h.served range.is)
    (is_mark_in c.mark_of-mark.result u
    (c.mark_of-mark.ensures.moment t ∙ ap (λ d. length (known d).log) on)
    (c.mark_of-mark.ensures.read_faults ∙ ap (λ d. (known d).read_faults) on)
    (c.mark_of-mark.ensures.faults ∙ ap (λ d. (known d).faults) on))
    (leads_open tells (state_of known) (laws t) (blocks_in c.args.fs) opened h.mounted h.at h.over (c.in-Ok.ensures.asked t)))))

-- what is known of the disk where no log was opened
pub returns-in-Err-clause-comes : goal.returns-in-Err-clause-comes
returns-in-Err-clause-comes g c = λ first is.
    let known = g.D.Disk.state in
    let tells = g.D.Disk.tells in
    let old = blocks_in c.args.fs in
    let new = blocks_in c.in-Err.fs in
    let e = c.in-Err.why in
    let laws : IsTrue tells → ReplyLaws tells (state_of known) = λ t. record {
      read = c.a_refusal_for_the_disk_has_its_cause.ensures.read t;
      stopped = c.a_refusal_for_the_disk_has_its_cause.ensures.stopped t;
      spent = c.a_refusal_for_the_disk_has_its_cause.ensures.spent t;
      counts = c.a_reply_tells_which_call_failed.ensures t;
      points = c.a_reply_tells_the_points.ensures t;
      rooms = c.a_command_is_answered_in_a_room_that_came_back.ensures.answers t;
      turns = c.a_command_raises_the_numbers_little.ensures;
    } in
    unlogged_back known tells first c.disk_back.result c.args.marks.items c.has_faults-counted.result e c.say_no_room-why.result _ _ c.requires.empty refl refl
    (λ t.
    let h = is t in
    let time = (c.in-Err.ensures.same t).time in
    stands_back known tells t first old new c.into_blocks.result c.disk_back.result c.has_faults-counted.result e h time
    (record {
      stays = subst (λ x. (trees : _) → Advances (state_of known old) (state_of known x) → (state_of known x).books.geom ≡ (state_of known old).books.geom → (state_of known x).books.point ≡ (state_of known old).books.point → KnowsPoints (state_of known old) trees → KnowsPoints (state_of known x) trees) c.blocks-in-Err-2.ensures (c.points_stay_known.ensures.stays old);
      call = λ trees img. c.a_crash_leaves_the_tree_of_a_point.ensures.call old new trees img;
    })
    c.disk_back.ensures.size c.disk_back.ensures.disk c.into_blocks.ensures
    (says known tells t first old new h
    (laws t)
    (subst (λ x. KeepsToManner (state_of known x)) c.blocks-in-Err.ensures (c.the_disk_keeps_to_its_manner.ensures t)) c.has_faults-counted.result (c.has_faults-counted.ensures ∙ ap (λ d. has_faults (known d)) (c.disk-in-Err.ensures.value ∙ ap disk_in c.blocks-in-Err-3.ensures)) e (c.in-Err.ensures.cause h.weight) (c.in-Err.ensures.bad t))
    (has_room_cause known tells t first old new h
    (laws t)
    (subst (λ x. KeepsToManner (state_of known x)) c.blocks-in-Err.ensures (c.the_disk_keeps_to_its_manner.ensures t)) c.has_faults-counted.result (c.has_faults-counted.ensures ∙ ap (λ d. has_faults (known d)) (c.disk-in-Err.ensures.value ∙ ap disk_in c.blocks-in-Err-3.ensures)) e (c.in-Err.ensures.cause h.weight)))
    (subst (λ w. Said w c.say_no_room-why.result (g.K.Sink.taken c.args.out.now) (g.K.Sink.taken c.say_no_room-why.new.out)) c.log_refusal_of.ensures c.say_no_room-why.ensures.says)

pub returns-in-Err-clause-counts : goal.returns-in-Err-clause-counts
returns-in-Err-clause-counts g c = record { source = omega arith; rises = c.say_no_room-why.ensures.rises; sink = c.say_no_room-why.ensures.pushes }

pub say_no_room-why-requires : goal.say_no_room-why-requires
say_no_room-why-requires g c = record { kind = ap (λ w. log_fails_pushing (Err w)) c.log_refusal_of.ensures ∙ silent_open c.has_faults-counted.result c.in-Err.why }
