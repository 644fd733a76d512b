use Rattle.std.proofs.Common.{◌<◌, length, ◌∙◌, sym, ap, subst, arith}
use Rattle.std.proofs.lemmas.Bool.{and_parts}
use Rattle.disk_mirror.specs.Order.{OrderState, log_of, has_failed}
use Rattle.disk_mirror.specs.Mirror.{AreGiven, IsMirror, KeepsRoom}
use Rattle.disk_mirror.proofs.Sound.{failed_report}
use Rattle.disk_mirror.proofs.Made.{keeps_report}
use Rattle.disk_mirror.proofs.Causes.{causes_stay}
use Rattle.disk_mirror.proofs.Calls.{ready_found, ready_parts, reports, report_open, report_log}
use Rattle.disk_mirror.proofs.mirror.Mirror.report_next.Goals as goal

pub report-requires-clause-fresh : goal.report-requires-clause-fresh
report-requires-clause-fresh g c =
    let m = c.args.self.now in
    let found = ready_found c.is_live.result c.is_live-2.result m.order.heard c.in-Some.ticket (sym c.first_ready.ensures ∙ c.in-Some.is) in
    (ready_parts c.is_live.result c.is_live-2.result _ found.2).0

pub invariant_of-self-2 : goal.invariant_of-self-2
invariant_of-self-2 g c =
    let m = c.args.self.now in
    let found = ready_found c.is_live.result c.is_live-2.result m.order.heard c.in-Some.ticket (sym c.first_ready.ensures ∙ c.in-Some.is) in
    let parts = ready_parts c.is_live.result c.is_live-2.result _ found.2 in
    record {
      size = m.size;
      causes = causes_stay _ _ _ _ _ _ _ _ _ _ (λ on_it. on_it) (λ on_it. on_it) (subst (λ (o : OrderState). length o.pairs < o.room) c.report.ensures) m.causes;
      roomed = subst (KeepsRoom m.most) (sym c.report.ensures) (keeps_report m.most m.order _ c.came-came.result m.roomed);
      counted = λ none. ap (λ (o : OrderState). has_failed o.events) c.report.ensures ∙ failed_report m.order.events c.in-Some.ticket ∙ m.counted none;
      given = subst (λ (o : OrderState). AreGiven o.pairs m.a.live m.b.live) (sym c.report.ensures) m.given;
      told = λ tells. let t = and_parts g.A.Disk.tells g.B.Disk.tells tells in subst (λ (o : OrderState). ∥ IsMirror (g.A.Disk.state m.a.disk) (g.B.Disk.state m.b.disk) m.a.live m.b.live m.a.end m.b.end o ∥₁) (sym c.report.ensures)
          (reports (g.A.Disk.state m.a.disk) (g.B.Disk.state m.b.disk) m.a.live m.b.live m.a.end m.b.end m.order c.in-Some.ticket c.came-came.result found.0 found.1 c.few.ensures.rows
          (omega (arith, found.1, c.few.ensures.rows, c.few.ensures.room, c.few.ensures.short)) (c.lawful.ensures t.0).log.lawful (c.lawful-2.ensures t.1).log.lawful (c.came-came.ensures.first t.0) (c.came-came.ensures.second t.1) parts.0 (λ live. parts.1 (c.is_live.ensures ∙ live)) (λ live. parts.2 (c.is_live-2.ensures ∙ live)) (m.told tells));
    }

pub returns-clause-log : goal.returns-clause-log
returns-clause-log g c = λ tells.
    let m = c.args.self.now in
    let found = ready_found c.is_live.result c.is_live-2.result m.order.heard c.in-Some.ticket (sym c.first_ready.ensures ∙ c.in-Some.is) in
    let parts = ready_parts c.is_live.result c.is_live-2.result _ found.2 in (
      report_open (g.A.Disk.state m.a.disk) (g.B.Disk.state m.b.disk) m.a.live m.b.live m.a.end m.b.end m.order c.in-Some.ticket found.0 (omega (arith, found.1, c.few.ensures.rows)) parts.0 (m.told tells),
      ap (λ (o : OrderState). log_of (g.A.Disk.state m.a.disk).log (g.B.Disk.state m.b.disk).log o.events) c.report.ensures ∙ report_log (g.A.Disk.state m.a.disk).log (g.B.Disk.state m.b.disk).log m.order c.in-Some.ticket c.came-came.result,
    )
