use Rattle.std.proofs.Common.{◌≡◌, ◌<◌, length, ◌∙◌, sym, ap, subst, arith, Bool, true, false}
use Rattle.std.proofs.lemmas.Bool.{and_parts}
use Rattle.disk_mirror.specs.Half.{HalfWaits}
use Rattle.disk_mirror.specs.Order.{OrderState, log_of, has_failed}
use Rattle.disk_mirror.specs.Mirror.{AreGiven, IsMirror, KeepsRoom}
use Rattle.disk_mirror.proofs.Causes.{causes_stay}
use Rattle.disk_mirror.proofs.Calls.{of_wait, wait_stays, wait_noticed, hears_second, second_told, second_log, still_given}
use Rattle.disk_mirror.proofs.mirror.Mirror.wait_second.Goals as goal

done : (v : Bool) → v ≡ true → v ≡ true
done v e = e

pub invariant_of-self : goal.invariant_of-self
invariant_of-self g c =
    let m = c.args.self.now in
    record {
      size = m.size ∙ sym c.wait.ensures.same.blocks;
      roomed = m.roomed;
      counted = m.counted;
      causes = causes_stay _ _ _ _ _ _ _ _ _ _ (λ on_it. on_it) (wait_stays g.B.Disk.tells _ _ _ _ _ _ _ _ _ c.wait.ensures.step) (λ more. more) m.causes;
      given = still_given m.order.pairs m.a.live m.b.live m.a.live c.wait.new.self.live (λ on_it. on_it) (wait_stays g.B.Disk.tells _ _ _ _ _ _ _ _ _ c.wait.ensures.step) m.given;
      told = λ tells. let t = and_parts g.A.Disk.tells g.B.Disk.tells tells in
          (second_told (g.A.Disk.state m.a.disk) (g.B.Disk.state m.b.disk) (g.B.Disk.state c.wait.new.self.disk) m.a.live m.b.live c.wait.new.self.live m.a.end m.b.end c.wait.new.self.end c.len-moment.result m.order c.wait.ensures.same c.len-moment.ensures (c.lawful-2.ensures t.1).log.lawful (of_wait _ _ _ _ _ _ _ _ _ (subst (λ v. HalfWaits v c.len-moment.result c.in-Some.own c.wait.result m.b.live c.wait.new.self.live m.b.end c.wait.new.self.end (g.B.Disk.state m.b.disk).log (g.B.Disk.state c.wait.new.self.disk).log) t.1 c.wait.ensures.step)) (m.told tells));
    }

pub returns-then-not-wait-clause-log : goal.returns-then-not-wait-clause-log
returns-then-not-wait-clause-log g c = λ tells.
    let m = c.args.self.now in
    let t = and_parts g.A.Disk.tells g.B.Disk.tells tells in
    (second_log (g.A.Disk.state m.a.disk) (g.B.Disk.state m.b.disk) (g.B.Disk.state c.wait.new.self.disk) m.a.live m.b.live c.wait.new.self.live m.a.end m.b.end c.wait.new.self.end c.len-moment.result m.order (of_wait _ _ _ _ _ _ _ _ _ (subst (λ v. HalfWaits v c.len-moment.result c.in-Some.own c.wait.result m.b.live c.wait.new.self.live m.b.end c.wait.new.self.end (g.B.Disk.state m.b.disk).log (g.B.Disk.state c.wait.new.self.disk).log) t.1 c.wait.ensures.step)) (m.told tells))

pub invariant_of-self-2 : goal.invariant_of-self-2
invariant_of-self-2 g c =
    let m = c.args.self.now in
    record {
      size = m.size ∙ sym c.wait.ensures.same.blocks;
      causes = causes_stay _ _ _ _ _ _ _ _ _ _ (λ on_it. on_it) (wait_stays g.B.Disk.tells _ _ _ _ _ _ _ _ _ c.wait.ensures.step) (subst (λ (o : OrderState). length o.pairs < o.room) c.hear.ensures) m.causes;
      roomed = subst (KeepsRoom m.most) (sym c.hear.ensures) m.roomed;
      counted = subst (λ (o : OrderState). m.faults ≡ 0 → has_failed o.events ≡ false) (sym c.hear.ensures) m.counted;
      given = subst (λ (o : OrderState). AreGiven o.pairs m.a.live c.wait.new.self.live) (sym c.hear.ensures) (still_given m.order.pairs m.a.live m.b.live m.a.live c.wait.new.self.live (λ on_it. on_it) (wait_stays g.B.Disk.tells _ _ _ _ _ _ _ _ _ c.wait.ensures.step) m.given);
      told = λ tells. let t = and_parts g.A.Disk.tells g.B.Disk.tells tells in
          subst (λ (o : OrderState). ∥ IsMirror (g.A.Disk.state m.a.disk) (g.B.Disk.state c.wait.new.self.disk) m.a.live c.wait.new.self.live m.a.end c.wait.new.self.end o ∥₁) (sym c.hear.ensures)
          (hears_second (g.A.Disk.state m.a.disk) (g.B.Disk.state c.wait.new.self.disk) m.a.live c.wait.new.self.live m.a.end c.wait.new.self.end m.order c.args.ticket c.in-Some.own c.requires.positive (omega (arith, c.requires.given, c.few.ensures.rows)) (sym c.ticket_on.ensures ∙ c.in-Some.is) (wait_noticed _ _ _ _ _ _ _ _ _ (subst (λ v. HalfWaits v c.len-moment.result c.in-Some.own c.wait.result m.b.live c.wait.new.self.live m.b.end c.wait.new.self.end (g.B.Disk.state m.b.disk).log (g.B.Disk.state c.wait.new.self.disk).log) t.1 c.wait.ensures.step) (done c.wait.result c.if-not-wait.false)) (second_told (g.A.Disk.state m.a.disk) (g.B.Disk.state m.b.disk) (g.B.Disk.state c.wait.new.self.disk) m.a.live m.b.live c.wait.new.self.live m.a.end m.b.end c.wait.new.self.end c.len-moment.result m.order c.wait.ensures.same c.len-moment.ensures (c.lawful-2.ensures t.1).log.lawful (of_wait _ _ _ _ _ _ _ _ _ (subst (λ v. HalfWaits v c.len-moment.result c.in-Some.own c.wait.result m.b.live c.wait.new.self.live m.b.end c.wait.new.self.end (g.B.Disk.state m.b.disk).log (g.B.Disk.state c.wait.new.self.disk).log) t.1 c.wait.ensures.step)) (m.told tells)));
    }

pub returns-clause-log : goal.returns-clause-log
returns-clause-log g c = λ tells.
    let m = c.args.self.now in
    let t = and_parts g.A.Disk.tells g.B.Disk.tells tells in
    ap (λ (o : OrderState). log_of (g.A.Disk.state m.a.disk).log (g.B.Disk.state c.wait.new.self.disk).log o.events) c.hear.ensures ∙ (second_log (g.A.Disk.state m.a.disk) (g.B.Disk.state m.b.disk) (g.B.Disk.state c.wait.new.self.disk) m.a.live m.b.live c.wait.new.self.live m.a.end m.b.end c.wait.new.self.end c.len-moment.result m.order (of_wait _ _ _ _ _ _ _ _ _ (subst (λ v. HalfWaits v c.len-moment.result c.in-Some.own c.wait.result m.b.live c.wait.new.self.live m.b.end c.wait.new.self.end (g.B.Disk.state m.b.disk).log (g.B.Disk.state c.wait.new.self.disk).log) t.1 c.wait.ensures.step)) (m.told tells))
