use Rattle.std.proofs.Common.{◌≡◌, ◌∙◌, ◌<◌, ◌≤◌, false, Some, length, sym, ap, subst, arith}
use Rattle.std.proofs.lemmas.Bool.{and_parts}
use Rattle.disk_mirror.specs.declared.entry.Side.TheVariants.{Second}
use Rattle.disk_mirror.specs.Half.{HalfPolls}
use Rattle.disk_mirror.specs.Twin.{ticket_on}
use Rattle.disk_mirror.specs.Order.{OrderState, log_of, has_failed}
use Rattle.disk_mirror.specs.Mirror.{AreGiven, IsMirror, KeepsRoom}
use Rattle.disk_mirror.proofs.Causes.{causes_stay}
use Rattle.disk_mirror.proofs.Calls.{of_poll, poll_stays, poll_noticed, poll_open, if_some, hears_none, hears_one, row_second, hears_second, second_told, second_log, still_given}
use Rattle.disk_mirror.proofs.mirror.Mirror.poll_second.Goals as goal

pub invariant_of-self : goal.invariant_of-self
invariant_of-self g c =
    let m = c.args.self.now in
    record {
      size = m.size ∙ sym c.poll.ensures.same.blocks;
      roomed = m.roomed;
      counted = m.counted;
      causes = causes_stay _ _ _ _ _ _ _ _ _ _ (λ on_it. on_it) (poll_stays g.B.Disk.tells _ _ _ _ _ _ _ _ c.poll.ensures.step) (λ more. more) m.causes;
      given = still_given m.order.pairs m.a.live m.b.live m.a.live c.poll.new.self.live (λ on_it. on_it) (poll_stays g.B.Disk.tells _ _ _ _ _ _ _ _ c.poll.ensures.step) m.given;
      told = λ tells. let t = and_parts g.A.Disk.tells g.B.Disk.tells tells in
          (second_told (g.A.Disk.state m.a.disk) (g.B.Disk.state m.b.disk) (g.B.Disk.state c.poll.new.self.disk) m.a.live m.b.live c.poll.new.self.live m.a.end m.b.end c.poll.new.self.end c.len-moment.result m.order c.poll.ensures.same c.len-moment.ensures (c.lawful-2.ensures t.1).log.lawful (of_poll _ _ _ _ _ _ _ _ (subst (λ v. HalfPolls v c.len-moment.result c.poll.result m.b.live c.poll.new.self.live m.b.end c.poll.new.self.end (g.B.Disk.state m.b.disk).log (g.B.Disk.state c.poll.new.self.disk).log) t.1 c.poll.ensures.step)) (m.told tells));
    }

pub invariant_of-self-in-None-ticket_with : goal.invariant_of-self-in-None-ticket_with
invariant_of-self-in-None-ticket_with g c =
    let m = c.args.self.now in
    record {
      size = m.size ∙ sym c.poll.ensures.same.blocks;
      roomed = m.roomed;
      counted = m.counted;
      causes = causes_stay _ _ _ _ _ _ _ _ _ _ (λ on_it. on_it) (poll_stays g.B.Disk.tells _ _ _ _ _ _ _ _ c.poll.ensures.step) (λ more. more) m.causes;
      given = still_given m.order.pairs m.a.live m.b.live m.a.live c.poll.new.self.live (λ on_it. on_it) (poll_stays g.B.Disk.tells _ _ _ _ _ _ _ _ c.poll.ensures.step) m.given;
      told = λ tells. let t = and_parts g.A.Disk.tells g.B.Disk.tells tells in
          (second_told (g.A.Disk.state m.a.disk) (g.B.Disk.state m.b.disk) (g.B.Disk.state c.poll.new.self.disk) m.a.live m.b.live c.poll.new.self.live m.a.end m.b.end c.poll.new.self.end c.len-moment.result m.order c.poll.ensures.same c.len-moment.ensures (c.lawful-2.ensures t.1).log.lawful (of_poll _ _ _ _ _ _ _ _ (subst (λ v. HalfPolls v c.len-moment.result c.poll.result m.b.live c.poll.new.self.live m.b.end c.poll.new.self.end (g.B.Disk.state m.b.disk).log (g.B.Disk.state c.poll.new.self.disk).log) t.1 c.poll.ensures.step)) (m.told tells));
    }

pub returns-in-None-ticket_with-clause-log : goal.returns-in-None-ticket_with-clause-log
returns-in-None-ticket_with-clause-log g c = λ tells.
    let m = c.args.self.now in
    let t = and_parts g.A.Disk.tells g.B.Disk.tells tells in
    (second_log (g.A.Disk.state m.a.disk) (g.B.Disk.state m.b.disk) (g.B.Disk.state c.poll.new.self.disk) m.a.live m.b.live c.poll.new.self.live m.a.end m.b.end c.poll.new.self.end c.len-moment.result m.order (of_poll _ _ _ _ _ _ _ _ (subst (λ v. HalfPolls v c.len-moment.result c.poll.result m.b.live c.poll.new.self.live m.b.end c.poll.new.self.end (g.B.Disk.state m.b.disk).log (g.B.Disk.state c.poll.new.self.disk).log) t.1 c.poll.ensures.step)) (m.told tells))

pub invariant_of-self-2 : goal.invariant_of-self-2
invariant_of-self-2 g c =
    let m = c.args.self.now in
    record {
      size = m.size ∙ sym c.poll.ensures.same.blocks;
      causes = causes_stay _ _ _ _ _ _ _ _ _ _ (λ on_it. on_it) (poll_stays g.B.Disk.tells _ _ _ _ _ _ _ _ c.poll.ensures.step) (subst (λ (o : OrderState). length o.pairs < o.room) c.hear.ensures) m.causes;
      roomed = subst (KeepsRoom m.most) (sym c.hear.ensures) m.roomed;
      counted = subst (λ (o : OrderState). m.faults ≡ 0 → has_failed o.events ≡ false) (sym c.hear.ensures) m.counted;
      given = subst (λ (o : OrderState). AreGiven o.pairs m.a.live c.poll.new.self.live) (sym c.hear.ensures) (still_given m.order.pairs m.a.live m.b.live m.a.live c.poll.new.self.live (λ on_it. on_it) (poll_stays g.B.Disk.tells _ _ _ _ _ _ _ _ c.poll.ensures.step) m.given);
      told = λ tells. let t = and_parts g.A.Disk.tells g.B.Disk.tells tells in
          let found = if_some (λ own. (0 < own) × (own ≤ length m.order.pairs) × (ticket_on Second m.order.pairs (Some own) ≡ Some c.in-Some.ticket)) c.ticket_with.result c.in-Some-ticket_with.own c.ticket_with.ensures.found c.in-Some-ticket_with.is in
          subst (λ (o : OrderState). ∥ IsMirror (g.A.Disk.state m.a.disk) (g.B.Disk.state c.poll.new.self.disk) m.a.live c.poll.new.self.live m.a.end c.poll.new.self.end o ∥₁) (sym c.hear.ensures)
          (hears_second (g.A.Disk.state m.a.disk) (g.B.Disk.state c.poll.new.self.disk) m.a.live c.poll.new.self.live m.a.end c.poll.new.self.end m.order c.in-Some-ticket_with.own c.in-Some.ticket found.0 (omega (arith, found.1, c.few.ensures.rows)) found.2 (poll_noticed _ _ _ _ _ _ _ _ _ (subst (λ v. HalfPolls v c.len-moment.result c.poll.result m.b.live c.poll.new.self.live m.b.end c.poll.new.self.end (g.B.Disk.state m.b.disk).log (g.B.Disk.state c.poll.new.self.disk).log) t.1 c.poll.ensures.step) c.in-Some.is) (second_told (g.A.Disk.state m.a.disk) (g.B.Disk.state m.b.disk) (g.B.Disk.state c.poll.new.self.disk) m.a.live m.b.live c.poll.new.self.live m.a.end m.b.end c.poll.new.self.end c.len-moment.result m.order c.poll.ensures.same c.len-moment.ensures (c.lawful-2.ensures t.1).log.lawful (of_poll _ _ _ _ _ _ _ _ (subst (λ v. HalfPolls v c.len-moment.result c.poll.result m.b.live c.poll.new.self.live m.b.end c.poll.new.self.end (g.B.Disk.state m.b.disk).log (g.B.Disk.state c.poll.new.self.disk).log) t.1 c.poll.ensures.step)) (m.told tells)));
    }

pub returns-clause-log : goal.returns-clause-log
returns-clause-log g c = λ tells.
    let m = c.args.self.now in
    let t = and_parts g.A.Disk.tells g.B.Disk.tells tells in
    ap (λ (o : OrderState). log_of (g.A.Disk.state m.a.disk).log (g.B.Disk.state c.poll.new.self.disk).log o.events) c.hear.ensures ∙ (second_log (g.A.Disk.state m.a.disk) (g.B.Disk.state m.b.disk) (g.B.Disk.state c.poll.new.self.disk) m.a.live m.b.live c.poll.new.self.live m.a.end m.b.end c.poll.new.self.end c.len-moment.result m.order (of_poll _ _ _ _ _ _ _ _ (subst (λ v. HalfPolls v c.len-moment.result c.poll.result m.b.live c.poll.new.self.live m.b.end c.poll.new.self.end (g.B.Disk.state m.b.disk).log (g.B.Disk.state c.poll.new.self.disk).log) t.1 c.poll.ensures.step)) (m.told tells))

pub returns-in-None-clause-hears : goal.returns-in-None-clause-hears
returns-in-None-clause-hears g c = λ tells.
    let m = c.args.self.now in
    let t = and_parts g.A.Disk.tells g.B.Disk.tells tells in
    hears_none Second m.order.pairs _ _ _ _ _ _ _ _ m.order.heard (subst (λ v. HalfPolls v c.len-moment.result c.poll.result m.b.live c.poll.new.self.live m.b.end c.poll.new.self.end (g.B.Disk.state m.b.disk).log (g.B.Disk.state c.poll.new.self.disk).log) t.1 c.poll.ensures.step) c.in-None.is

pub returns-in-None-ticket_with-clause-hears : goal.returns-in-None-ticket_with-clause-hears
returns-in-None-ticket_with-clause-hears g c = λ tells.
    let m = c.args.self.now in
    let t = and_parts g.A.Disk.tells g.B.Disk.tells tells in
    let was = poll_open _ _ _ _ _ _ _ _ _ (subst (λ v. HalfPolls v c.len-moment.result c.poll.result m.b.live c.poll.new.self.live m.b.end c.poll.new.self.end (g.B.Disk.state m.b.disk).log (g.B.Disk.state c.poll.new.self.disk).log) t.1 c.poll.ensures.step) c.in-Some.is in
    absurd (row_second (g.A.Disk.state m.a.disk) (g.B.Disk.state m.b.disk) m.a.live m.b.live m.a.end m.b.end m.order c.ticket_with.result c.in-Some.ticket was.0 was.1.0 c.ticket_with.ensures.all (m.told tells) c.in-None-ticket_with.is)

pub returns-clause-hears : goal.returns-clause-hears
returns-clause-hears g c = λ tells.
    let m = c.args.self.now in
    let t = and_parts g.A.Disk.tells g.B.Disk.tells tells in
    let found = if_some (λ own. (0 < own) × (own ≤ length m.order.pairs) × (ticket_on Second m.order.pairs (Some own) ≡ Some c.in-Some.ticket)) c.ticket_with.result c.in-Some-ticket_with.own c.ticket_with.ensures.found c.in-Some-ticket_with.is in
    hears_one Second m.order.pairs _ _ _ _ _ _ _ _ m.order.heard c.hear.new.self.heard c.in-Some.ticket c.in-Some-ticket_with.own (subst (λ v. HalfPolls v c.len-moment.result c.poll.result m.b.live c.poll.new.self.live m.b.end c.poll.new.self.end (g.B.Disk.state m.b.disk).log (g.B.Disk.state c.poll.new.self.disk).log) t.1 c.poll.ensures.step) c.in-Some.is found.2 (ap (λ (o : OrderState). o.heard) c.hear.ensures)
