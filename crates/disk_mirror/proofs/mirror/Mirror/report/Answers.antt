use Rattle.std.proofs.Common.{◌<◌, length, ◌∙◌, sym, ap, subst, arith, [], ◌∷◌}
use Rattle.std.proofs.lemmas.Bool.{and_parts}
use Rattle.disk_contract.specs.Cell.{is_noticed}
use Rattle.disk_mirror.specs.Order.{OrderState, log_of, has_failed}
use Rattle.disk_mirror.specs.Mirror.{AreGiven, IsMirror, KeepsRoom}
use Rattle.disk_mirror.proofs.Sound.{failed_report}
use Rattle.disk_mirror.proofs.Made.{keeps_report}
use Rattle.disk_mirror.proofs.Causes.{causes_stay}
use Rattle.disk_mirror.proofs.Calls.{reports, report_open, report_log, report_noticed}
use Rattle.disk_mirror.proofs.mirror.Mirror.report.Goals as goal

pub invariant_of-self-2 : goal.invariant_of-self-2
invariant_of-self-2 g c =
    let m = c.args.self.now in
    record {
      size = m.size;
      causes = causes_stay _ _ _ _ _ _ _ _ _ _ (λ on_it. on_it) (λ on_it. on_it) (subst (λ (o : OrderState). length o.pairs < o.room) c.report.ensures) m.causes;
      roomed = subst (KeepsRoom m.most) (sym c.report.ensures) (keeps_report m.most m.order _ c.came-came.result m.roomed);
      counted = λ none. ap (λ (o : OrderState). has_failed o.events) c.report.ensures ∙ failed_report m.order.events c.args.ticket ∙ m.counted none;
      given = subst (λ (o : OrderState). AreGiven o.pairs m.a.live m.b.live) (sym c.report.ensures) m.given;
      told = λ tells. let t = and_parts g.A.Disk.tells g.B.Disk.tells tells in subst (λ (o : OrderState). ∥ IsMirror (g.A.Disk.state m.a.disk) (g.B.Disk.state m.b.disk) m.a.live m.b.live m.a.end m.b.end o ∥₁) (sym c.report.ensures)
          (reports (g.A.Disk.state m.a.disk) (g.B.Disk.state m.b.disk) m.a.live m.b.live m.a.end m.b.end m.order c.args.ticket c.came-came.result c.requires.positive (omega (arith, c.requires.given, c.few.ensures.rows)) c.few.ensures.rows
          (omega (arith, c.requires.given, c.few.ensures.room, c.few.ensures.short)) (c.lawful.ensures t.0).log.lawful (c.lawful-2.ensures t.1).log.lawful (c.came-came.ensures.first t.0) (c.came-came.ensures.second t.1) (sym c.is_reported.ensures ∙ c.if-is_reported.false) c.requires.first c.requires.second (m.told tells));
    }

pub returns-clause-fresh : goal.returns-clause-fresh
returns-clause-fresh g c = λ tells.
    let m = c.args.self.now in
    record {
      tickets = c.args.ticket ∷ [];
      open_before = (report_open (g.A.Disk.state m.a.disk) (g.B.Disk.state m.b.disk) m.a.live m.b.live m.a.end m.b.end m.order c.args.ticket c.requires.positive c.requires.given (sym c.is_reported.ensures ∙ c.if-is_reported.false) (m.told tells), tt);
      log = ap (λ (o : OrderState). log_of (g.A.Disk.state m.a.disk).log (g.B.Disk.state m.b.disk).log o.events) c.report.ensures ∙ report_log (g.A.Disk.state m.a.disk).log (g.B.Disk.state m.b.disk).log m.order c.args.ticket c.came-came.result;
    }

pub returns-clause-noticed : goal.returns-clause-noticed
returns-clause-noticed g c = λ tells.
    let m = c.args.self.now in
    ap (λ (o : OrderState). is_noticed c.args.ticket (log_of (g.A.Disk.state m.a.disk).log (g.B.Disk.state m.b.disk).log o.events)) c.report.ensures ∙ report_noticed (g.A.Disk.state m.a.disk).log (g.B.Disk.state m.b.disk).log m.order c.args.ticket c.came-came.result
