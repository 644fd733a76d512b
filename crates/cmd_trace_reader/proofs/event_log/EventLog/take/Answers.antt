use Rattle.std.proofs.Common.{◌∙◌, sym, ap, subst, ◌==◌, ◌||◌}
use Rattle.std.specs.Prelude.{◌&&◌}
use Rattle.disk_contract.specs.declared.event.Event.TheVariants.{Wrote, Noticed}
use Rattle.engine_notes.specs.Notes.{is_expected, is_noticed as is_marked}
use Rattle.cmd_trace_reader.specs.Events.{IsNext}
use Rattle.cmd_trace_reader.proofs.Tracking.{tracked_wrote, tracked_lost, tracked_notice}
use Rattle.cmd_trace_reader.proofs.event_log.EventLog.take.Goals as goal

pub invariant_of-self-in-Wrote : goal.invariant_of-self-in-Wrote
invariant_of-self-in-Wrote c =
    let next : IsNext c.args.blocks c.self.inside.events.items (Wrote c.in-Wrote.ticket c.in-Wrote.block c.in-Wrote.bytes) = subst (λ e. IsNext c.args.blocks c.self.inside.events.items e) c.in-Wrote.is (subst (λ l. IsNext c.args.blocks l c.args.event) (sym c.self.view_is) (c.may_come.ensures.0 c.if-not-may_come.false)) in
    rw c.in_ok-push-in-Wrote.ensures.items
    (tracked_wrote c.self.inside.events.items c.self.inside.greatest c.in-Wrote.ticket c.in-Wrote.block c.in-Wrote.bytes c.self.inside.notes.notes c.expect.new.self.notes c.self.invariant next.comes
    (λ u. c.expect.ensures.expected u ∙ ap (λ n. (c.in-Wrote.ticket == u) || is_expected u n) c.reserve.ensures.notes)
    (λ u. c.expect.ensures.noticed u ∙ ap (is_marked u) c.reserve.ensures.notes))

pub invariant_of-self-in-Continue-branch-3 : goal.invariant_of-self-in-Continue-branch-3
invariant_of-self-in-Continue-branch-3 c =
    rw c.in_ok-push-in-Lost.ensures.items (rw c.reserve.ensures.notes
    (tracked_lost c.self.inside.events.items c.self.inside.greatest c.in-Lost.block c.in-Lost.bytes c.self.inside.notes.notes c.self.invariant))

pub invariant_of-self-in-Noticed : goal.invariant_of-self-in-Noticed
invariant_of-self-in-Noticed c =
    let next : IsNext c.args.blocks c.self.inside.events.items (Noticed c.in-Noticed.ticket) = subst (λ e. IsNext c.args.blocks c.self.inside.events.items e) c.in-Noticed.is (subst (λ l. IsNext c.args.blocks l c.args.event) (sym c.self.view_is) (c.may_come.ensures.0 c.if-not-may_come.false)) in
    rw c.in_ok-push-in-Noticed.ensures.items
    (tracked_notice c.self.inside.events.items c.self.inside.greatest c.in-Noticed.ticket c.self.inside.notes.notes c.noticed.new.self.notes c.self.invariant next.comes
    (λ u. c.noticed.ensures.expected u ∙ ap (is_expected u) c.reserve.ensures.notes)
    (λ u. c.noticed.ensures.noticed u ∙ ap (λ n. is_marked u n || ((c.in-Noticed.ticket == u) && is_expected u n)) c.reserve.ensures.notes))
