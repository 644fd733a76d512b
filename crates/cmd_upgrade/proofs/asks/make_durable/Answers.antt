-- A dsync is done, and then each honest image stands for the tree; or it is refused.
use Rattle.std.proofs.Common.{◌≡◌, arith, ℕ, [], ◌∷◌, ◌++◌, length, sym, subst, ap, ◌∙◌}
use Rattle.lang_tree.specs.declared.command.Cmd.{Cmd}
use Rattle.lang_tree.specs.declared.command.Cmd.TheVariants.{Osync, Dsync}
use Rattle.lang_tree.specs.declared.command.Reply.{Reply}
use Rattle.lang_tree.specs.Run.{Answers, is_of_disk}
use Rattle.lang_tree.specs.Step.{start}
use Rattle.crash_stands.specs.Bounds.{bounds_of}
use Rattle.engine_store.specs.StoreOf.{state_of}
use Rattle.fs_commands.specs.Opened.{blocks_in}
use Rattle.cmd_session.specs.Serving.{HasServed}
use Rattle.cmd_session.specs.Shared.{drawn}
use Rattle.cmd_upgrade.specs.Looked.{IsStop}
use Rattle.cmd_upgrade.proofs.Sessions.{stop_of}
use Rattle.cmd_upgrade.proofs.Asked.{asked, calm_more}
use Rattle.cmd_upgrade.proofs.Asking.{durable_is, dsync_stopped, holds_all, session_by}
use Rattle.cmd_upgrade.proofs.Keeping.{stays_asked}
use Rattle.cmd_upgrade.proofs.asks.make_durable.Goals as goal

pub returns-in-DurableAt-clause-holds : goal.returns-in-DurableAt-clause-holds
returns-in-DurableAt-clause-holds g c = λ told k t can h.
    let known = g.D.Disk.state in
    let old = blocks_in c.args.served.now in
    let new = blocks_in c.apply.new.self in
    let n = c.in-DurableAt.field-0 in
    let a = c.a_command_answers_its_session.ensures.answers told old new (session_by 0 k _ (state_of known old) h) Dsync c.apply.result h.served.goes_on.session c.apply.ensures.applies in
    let last = c.the_next_command_is_done.ensures.last (bounds_of k) can.most t can.sound can.small can.few can.short can.nodes in (
      holds_all c.a_reply_tells_the_session.ensures k t _ (state_of known new) h.mounted n h.cmds h.replies h.marks
          (subst (λ (x : Reply). HasServed k (start (bounds_of k)).tree h.mounted (h.cmds ++ Dsync ∷ []) (h.replies ++ x ∷ []) (h.marks ++ length (state_of known new).crash.log ∷ []) (state_of known new)) c.in-DurableAt.is
          (c.apply.ensures.serves told (λ s. drawn known s) k (start (bounds_of k)).tree h.mounted h.cmds h.replies h.marks h.served))
          h.served.marked h.served.answered (calm_more h.replies _ h.calm (λ e. absurd cc))
          (durable_is (session_by 0 k _ (state_of known old) h) a.next n (subst (λ (x : Reply). Answers is_of_disk (session_by 0 k _ (state_of known old) h) Dsync x a.next) c.in-DurableAt.is a.answers))
          h.tree last.0 last.1,
      tt,
    )

pub returns-in_default-clause-which : goal.returns-in_default-clause-which
returns-in_default-clause-which g c = subst IsStop (sym c.of_reply.ensures) (stop_of _)

pub returns-in_default-clause-holds : goal.returns-in_default-clause-holds
returns-in_default-clause-holds g c = λ told k t can h.
    let known = g.D.Disk.state in
    let old = blocks_in c.args.served.now in
    let new = blocks_in c.apply.new.self in (
      tt,
      (λ fault. dsync_stopped 0 k _ (state_of known old) h t (state_of known new) c.apply.result (omega arith)
          (λ f session. let a = c.a_command_answers_its_session.ensures.answers told old new f Dsync c.apply.result session c.apply.ensures.applies in (a.next, a.answers))
          (asked g.D.Disk.tells (λ s. state_of known s) (record {
            answers = c.a_command_is_answered_in_a_room_that_came_back.ensures.answers;
            counts = c.a_reply_tells_which_call_failed.ensures;
            read = c.a_refusal_for_the_disk_has_its_cause.ensures.read;
            stopped = c.a_refusal_for_the_disk_has_its_cause.ensures.stopped;
            spent = c.a_refusal_for_the_disk_has_its_cause.ensures.spent;
            rises = c.a_command_raises_the_numbers_little.ensures;
          }) told Dsync c.apply.result old new c.apply.ensures.applies) (λ n e. c.in_default.not-DurableAt n e) (sym c.of_reply.ensures ∙ fault)),
    )

pub returns-in-DurableAt-clause-keeps : goal.returns-in-DurableAt-clause-keeps
returns-in-DurableAt-clause-keeps g c = stays_asked g.D.Disk.tells (λ s. state_of g.D.Disk.state s) Dsync c.apply.result (blocks_in c.args.served.now) (blocks_in c.apply.new.self) c.apply.ensures.applies c.apply.ensures.time

pub returns-in_default-clause-keeps : goal.returns-in_default-clause-keeps
returns-in_default-clause-keeps g c = stays_asked g.D.Disk.tells (λ s. state_of g.D.Disk.state s) Dsync c.apply.result (blocks_in c.args.served.now) (blocks_in c.apply.new.self) c.apply.ensures.applies c.apply.ensures.time
