-- A sync is done and then the command; or one of them is refused.
use Rattle.std.proofs.Common.{◌≡◌, inr, List, arith, length-append, ℕ, [], ◌∷◌, ◌++◌, length, sym, subst, ap, ◌∙◌}
use Rattle.lang_tree.specs.declared.command.Cmd.{Cmd}
use Rattle.lang_tree.specs.declared.command.Cmd.TheVariants.{Osync, Dsync}
use Rattle.lang_tree.specs.declared.command.Reply.{Reply}
use Rattle.lang_tree.specs.Step.{Session, start}
use Rattle.crash_stands.specs.Bounds.{bounds_of}
use Rattle.engine_store.specs.StoreOf.{state_of}
use Rattle.fs_commands.specs.Opened.{blocks_in}
use Rattle.cmd_session.specs.Serving.{HasServed}
use Rattle.cmd_session.specs.Shared.{drawn}
use Rattle.cmd_upgrade.specs.Looked.{IsStop}
use Rattle.cmd_upgrade.proofs.Sessions.{stop_of}
use Rattle.cmd_upgrade.proofs.Asking.{made_done, made_synced, nothing_weighed, stopped, sync_stopped}
use Rattle.cmd_upgrade.proofs.Asked.{IsAsked, asked}
use Rattle.cmd_upgrade.proofs.Keeping.{stays_asked, stays_on}
use Rattle.cmd_upgrade.proofs.asks.ask_behind_sync.Goals as goal

pub returns-in_default-clause-which : goal.returns-in_default-clause-which
returns-in_default-clause-which g c = subst IsStop (sym c.of_reply.ensures) (stop_of _)

pub returns-in_default-clause-makes : goal.returns-in_default-clause-makes
returns-in_default-clause-makes g c = λ told k t front back can is h.
    let known = g.D.Disk.state in
    let old = blocks_in c.args.served.now in
    let new = blocks_in c.apply.new.self in (
      tt,
      (λ fault. sync_stopped 1 k front (state_of known old) h t (state_of known new) c.apply.result (omega (arith, ap (λ (cs : List Cmd). length cs) is, length-append front (c.args.cmd.now ∷ back)))
          (λ f session. let a = c.a_command_answers_its_session.ensures.answers told old new f Osync c.apply.result session c.apply.ensures.applies in (a.next, a.answers))
          (asked g.D.Disk.tells (λ s. state_of known s) (record {
            answers = c.a_command_is_answered_in_a_room_that_came_back.ensures.answers;
            counts = c.a_reply_tells_which_call_failed.ensures;
            read = c.a_refusal_for_the_disk_has_its_cause.ensures.read;
            stopped = c.a_refusal_for_the_disk_has_its_cause.ensures.stopped;
            spent = c.a_refusal_for_the_disk_has_its_cause.ensures.spent;
            rises = c.a_command_raises_the_numbers_little.ensures;
          }) told Osync c.apply.result old new c.apply.ensures.applies) (λ n e. c.in_default.not-Synced n e) (sym c.of_reply.ensures ∙ fault)),
    )

pub returns-then-is_done-clause-makes : goal.returns-then-is_done-clause-makes
returns-then-is_done-clause-makes g c = λ told k t front back can is h.
    let known = g.D.Disk.state in
    let old = blocks_in c.args.served.now in
    let mid = blocks_in c.apply.new.self in
    let new = blocks_in c.apply-reply.new.self in
    let first = c.apply.ensures.serves told (λ s. drawn known s) k (start (bounds_of k)).tree h.mounted h.cmds h.replies h.marks h.served in
    let sync = subst (λ (x : Reply). IsAsked Osync x (state_of known old) (state_of known mid)) c.in-Synced.is (asked g.D.Disk.tells (λ s. state_of known s) (record {
      answers = c.a_command_is_answered_in_a_room_that_came_back.ensures.answers;
      counts = c.a_reply_tells_which_call_failed.ensures;
      read = c.a_refusal_for_the_disk_has_its_cause.ensures.read;
      stopped = c.a_refusal_for_the_disk_has_its_cause.ensures.stopped;
      spent = c.a_refusal_for_the_disk_has_its_cause.ensures.spent;
      rises = c.a_command_raises_the_numbers_little.ensures;
    }) told Osync c.apply.result old mid c.apply.ensures.applies) in
    let m = made_synced 1 k front (state_of known old) h (state_of known mid) c.in-Synced.field-0 (length (state_of known mid).crash.log)
    (subst (λ (x : Reply). HasServed k (start (bounds_of k)).tree h.mounted (h.cmds ++ Osync ∷ []) (h.replies ++ x ∷ []) (h.marks ++ length (state_of known mid).crash.log ∷ []) (state_of known mid)) c.in-Synced.is first) sync in
    let served = c.apply-reply.ensures.serves told (λ s. drawn known s) k (start (bounds_of k)).tree m.mounted m.cmds m.replies m.marks m.served in (
      made_done c.an_image_stands_for_one_tree.ensures.blocks c.the_next_command_is_done.ensures.next 2 (omega arith) k t front back can c.args.cmd.now is (state_of known mid) m (state_of known new) (length (state_of known new).crash.log)
          (subst (λ (x : Reply). HasServed k (start (bounds_of k)).tree m.mounted (m.cmds ++ c.args.cmd.now ∷ []) (m.replies ++ x ∷ []) (m.marks ++ length (state_of known new).crash.log ∷ []) (state_of known new)) (c.is_done.ensures.done c.if-is_done.true) served)
          (subst (λ (x : Reply). IsAsked c.args.cmd.now x (state_of known mid) (state_of known new)) (c.is_done.ensures.done c.if-is_done.true) (asked g.D.Disk.tells (λ s. state_of known s) (record {
            answers = c.a_command_is_answered_in_a_room_that_came_back.ensures.answers;
            counts = c.a_reply_tells_which_call_failed.ensures;
            read = c.a_refusal_for_the_disk_has_its_cause.ensures.read;
            stopped = c.a_refusal_for_the_disk_has_its_cause.ensures.stopped;
            spent = c.a_refusal_for_the_disk_has_its_cause.ensures.spent;
            rises = c.a_command_raises_the_numbers_little.ensures;
          }) told c.args.cmd.now c.apply-reply.result mid new c.apply-reply.ensures.applies)),
      tt,
    )

pub returns-clause-which : goal.returns-clause-which
returns-clause-which g c = subst IsStop (sym c.of_reply-2.ensures) (stop_of _)

pub returns-clause-makes : goal.returns-clause-makes
returns-clause-makes g c = λ told k t front back can is h.
    let known = g.D.Disk.state in
    let old = blocks_in c.args.served.now in
    let mid = blocks_in c.apply.new.self in
    let new = blocks_in c.apply-reply.new.self in
    let first = c.apply.ensures.serves told (λ s. drawn known s) k (start (bounds_of k)).tree h.mounted h.cmds h.replies h.marks h.served in
    let sync = subst (λ (x : Reply). IsAsked Osync x (state_of known old) (state_of known mid)) c.in-Synced.is (asked g.D.Disk.tells (λ s. state_of known s) (record {
      answers = c.a_command_is_answered_in_a_room_that_came_back.ensures.answers;
      counts = c.a_reply_tells_which_call_failed.ensures;
      read = c.a_refusal_for_the_disk_has_its_cause.ensures.read;
      stopped = c.a_refusal_for_the_disk_has_its_cause.ensures.stopped;
      spent = c.a_refusal_for_the_disk_has_its_cause.ensures.spent;
      rises = c.a_command_raises_the_numbers_little.ensures;
    }) told Osync c.apply.result old mid c.apply.ensures.applies) in
    let m = made_synced 1 k front (state_of known old) h (state_of known mid) c.in-Synced.field-0 (length (state_of known mid).crash.log)
    (subst (λ (x : Reply). HasServed k (start (bounds_of k)).tree h.mounted (h.cmds ++ Osync ∷ []) (h.replies ++ x ∷ []) (h.marks ++ length (state_of known mid).crash.log ∷ []) (state_of known mid)) c.in-Synced.is first) sync in (
      tt,
      (λ fault. stopped c.an_image_stands_for_one_tree.ensures.blocks c.the_next_command_is_done.ensures.next 2 (omega arith) k t front back can c.args.cmd.now is (state_of known mid) m (state_of known new) c.apply-reply.result
          (λ f session. let a = c.a_command_answers_its_session.ensures.answers told mid new f c.args.cmd.now c.apply-reply.result session c.apply-reply.ensures.applies in (a.next, a.answers))
          (asked g.D.Disk.tells (λ s. state_of known s) (record {
            answers = c.a_command_is_answered_in_a_room_that_came_back.ensures.answers;
            counts = c.a_reply_tells_which_call_failed.ensures;
            read = c.a_refusal_for_the_disk_has_its_cause.ensures.read;
            stopped = c.a_refusal_for_the_disk_has_its_cause.ensures.stopped;
            spent = c.a_refusal_for_the_disk_has_its_cause.ensures.spent;
            rises = c.a_command_raises_the_numbers_little.ensures;
          }) told c.args.cmd.now c.apply-reply.result mid new c.apply-reply.ensures.applies) (c.is_done.ensures.other c.if-is_done.false)
          (inr (nothing_weighed 1 k front (state_of known old) h (state_of known mid) c.in-Synced.field-0 sync)) (sym c.of_reply-2.ensures ∙ fault)),
    )

pub returns-in_default-clause-keeps : goal.returns-in_default-clause-keeps
returns-in_default-clause-keeps g c = stays_asked g.D.Disk.tells (λ s. state_of g.D.Disk.state s) Osync c.apply.result (blocks_in c.args.served.now) (blocks_in c.apply.new.self) c.apply.ensures.applies c.apply.ensures.time

pub returns-then-is_done-clause-keeps : goal.returns-then-is_done-clause-keeps
returns-then-is_done-clause-keeps g c =
    stays_on g.D.Disk.tells _ _ _ (stays_asked g.D.Disk.tells (λ s. state_of g.D.Disk.state s) Osync c.apply.result (blocks_in c.args.served.now) (blocks_in c.apply.new.self) c.apply.ensures.applies c.apply.ensures.time)
    (stays_asked g.D.Disk.tells (λ s. state_of g.D.Disk.state s) c.args.cmd.now c.apply-reply.result (blocks_in c.apply.new.self) (blocks_in c.apply-reply.new.self) c.apply-reply.ensures.applies c.apply-reply.ensures.time)

pub returns-clause-keeps : goal.returns-clause-keeps
returns-clause-keeps g c =
    stays_on g.D.Disk.tells _ _ _ (stays_asked g.D.Disk.tells (λ s. state_of g.D.Disk.state s) Osync c.apply.result (blocks_in c.args.served.now) (blocks_in c.apply.new.self) c.apply.ensures.applies c.apply.ensures.time)
    (stays_asked g.D.Disk.tells (λ s. state_of g.D.Disk.state s) c.args.cmd.now c.apply-reply.result (blocks_in c.apply.new.self) (blocks_in c.apply-reply.new.self) c.apply-reply.ensures.applies c.apply-reply.ensures.time)
