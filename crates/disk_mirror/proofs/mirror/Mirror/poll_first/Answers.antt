use Rattle.std.proofs.Common.{◌≡◌, ◌∙◌, ◌<◌, ◌≤◌, false, Some, length, sym, ap, subst, arith}
use Rattle.std.proofs.lemmas.Bool.{and_parts}
use Rattle.disk_mirror.specs.declared.entry.Side.TheVariants.{First}
use Rattle.disk_mirror.specs.Half.{HalfPolls}
use Rattle.disk_mirror.specs.Twin.{ticket_on}
use Rattle.disk_mirror.specs.Order.{OrderState, log_of, has_failed}
use Rattle.disk_mirror.specs.Mirror.{AreGiven, IsMirror, KeepsRoom}
use Rattle.disk_mirror.proofs.Causes.{causes_stay}
use Rattle.disk_mirror.proofs.Calls.{of_poll, poll_stays, poll_noticed, poll_open, if_some, hears_none, hears_one, row_first, hears_first, first_told, first_log, still_given}
use Rattle.disk_mirror.proofs.mirror.Mirror.poll_first.Goals as goal

pub invariant_of-self : goal.invariant_of-self
invariant_of-self g c =
    let m = c.args.self.now in
    record {
      size = c.poll.ensures.same.blocks ∙ m.size;
      roomed = m.roomed;
      counted = m.counted;
      causes = causes_stay _ _ _ _ _ _ _ _ _ _ (poll_stays g.A.Disk.tells _ _ _ _ _ _ _ _ c.poll.ensures.step) (λ on_it. on_it) (λ more. more) m.causes;
      given = still_given m.order.pairs m.a.live m.b.live c.poll.new.self.live m.b.live (poll_stays g.A.Disk.tells _ _ _ _ _ _ _ _ c.poll.ensures.step) (λ on_it. on_it) m.given;
      told = λ tells. let t = and_parts g.A.Disk.tells g.B.Disk.tells tells in
          (first_told (g.A.Disk.state m.a.disk) (g.B.Disk.state m.b.disk) (g.A.Disk.state c.poll.new.self.disk) m.a.live m.b.live c.poll.new.self.live m.a.end m.b.end c.poll.new.self.end c.len-moment.result m.order c.poll.ensures.same c.len-moment.ensures (c.lawful.ensures t.0).log.lawful (of_poll _ _ _ _ _ _ _ _ (subst (λ v. HalfPolls v c.len-moment.result c.poll.result m.a.live c.poll.new.self.live m.a.end c.poll.new.self.end (g.A.Disk.state m.a.disk).log (g.A.Disk.state c.poll.new.self.disk).log) t.0 c.poll.ensures.step)) (m.told tells));
    }

pub invariant_of-self-in-None-ticket_with : goal.invariant_of-self-in-None-ticket_with
invariant_of-self-in-None-ticket_with g c =
    let m = c.args.self.now in
    record {
      size = c.poll.ensures.same.blocks ∙ m.size;
      roomed = m.roomed;
      counted = m.counted;
      causes = causes_stay _ _ _ _ _ _ _ _ _ _ (poll_stays g.A.Disk.tells _ _ _ _ _ _ _ _ c.poll.ensures.step) (λ on_it. on_it) (λ more. more) m.causes;
      given = still_given m.order.pairs m.a.live m.b.live c.poll.new.self.live m.b.live (poll_stays g.A.Disk.tells _ _ _ _ _ _ _ _ c.poll.ensures.step) (λ on_it. on_it) m.given;
      told = λ tells. let t = and_parts g.A.Disk.tells g.B.Disk.tells tells in
          (first_told (g.A.Disk.state m.a.disk) (g.B.Disk.state m.b.disk) (g.A.Disk.state c.poll.new.self.disk) m.a.live m.b.live c.poll.new.self.live m.a.end m.b.end c.poll.new.self.end c.len-moment.result m.order c.poll.ensures.same c.len-moment.ensures (c.lawful.ensures t.0).log.lawful (of_poll _ _ _ _ _ _ _ _ (subst (λ v. HalfPolls v c.len-moment.result c.poll.result m.a.live c.poll.new.self.live m.a.end c.poll.new.self.end (g.A.Disk.state m.a.disk).log (g.A.Disk.state c.poll.new.self.disk).log) t.0 c.poll.ensures.step)) (m.told tells));
    }

pub returns-in-None-ticket_with-clause-log : goal.returns-in-None-ticket_with-clause-log
returns-in-None-ticket_with-clause-log g c = λ tells.
    let m = c.args.self.now in
    let t = and_parts g.A.Disk.tells g.B.Disk.tells tells in
    (first_log (g.A.Disk.state m.a.disk) (g.B.Disk.state m.b.disk) (g.A.Disk.state c.poll.new.self.disk) m.a.live m.b.live c.poll.new.self.live m.a.end m.b.end c.poll.new.self.end c.len-moment.result m.order (of_poll _ _ _ _ _ _ _ _ (subst (λ v. HalfPolls v c.len-moment.result c.poll.result m.a.live c.poll.new.self.live m.a.end c.poll.new.self.end (g.A.Disk.state m.a.disk).log (g.A.Disk.state c.poll.new.self.disk).log) t.0 c.poll.ensures.step)) (m.told tells))

pub invariant_of-self-2 : goal.invariant_of-self-2
invariant_of-self-2 g c =
    let m = c.args.self.now in
    record {
      size = c.poll.ensures.same.blocks ∙ m.size;
      causes = causes_stay _ _ _ _ _ _ _ _ _ _ (poll_stays g.A.Disk.tells _ _ _ _ _ _ _ _ c.poll.ensures.step) (λ on_it. on_it) (subst (λ (o : OrderState). length o.pairs < o.room) c.hear.ensures) m.causes;
      roomed = subst (KeepsRoom m.most) (sym c.hear.ensures) m.roomed;
      counted = subst (λ (o : OrderState). m.faults ≡ 0 → has_failed o.events ≡ false) (sym c.hear.ensures) m.counted;
      given = subst (λ (o : OrderState). AreGiven o.pairs c.poll.new.self.live m.b.live) (sym c.hear.ensures) (still_given m.order.pairs m.a.live m.b.live c.poll.new.self.live m.b.live (poll_stays g.A.Disk.tells _ _ _ _ _ _ _ _ c.poll.ensures.step) (λ on_it. on_it) m.given);
      told = λ tells. let t = and_parts g.A.Disk.tells g.B.Disk.tells tells in
          let found = if_some (λ own. (0 < own) × (own ≤ length m.order.pairs) × (ticket_on First m.order.pairs (Some own) ≡ Some c.in-Some.ticket)) c.ticket_with.result c.in-Some-ticket_with.own c.ticket_with.ensures.found c.in-Some-ticket_with.is in
          subst (λ (o : OrderState). ∥ IsMirror (g.A.Disk.state c.poll.new.self.disk) (g.B.Disk.state m.b.disk) c.poll.new.self.live m.b.live c.poll.new.self.end m.b.end o ∥₁) (sym c.hear.ensures)
          (hears_first (g.A.Disk.state c.poll.new.self.disk) (g.B.Disk.state m.b.disk) c.poll.new.self.live m.b.live c.poll.new.self.end m.b.end m.order c.in-Some-ticket_with.own c.in-Some.ticket found.0 (omega (arith, found.1, c.few.ensures.rows)) found.2 (poll_noticed _ _ _ _ _ _ _ _ _ (subst (λ v. HalfPolls v c.len-moment.result c.poll.result m.a.live c.poll.new.self.live m.a.end c.poll.new.self.end (g.A.Disk.state m.a.disk).log (g.A.Disk.state c.poll.new.self.disk).log) t.0 c.poll.ensures.step) c.in-Some.is) (first_told (g.A.Disk.state m.a.disk) (g.B.Disk.state m.b.disk) (g.A.Disk.state c.poll.new.self.disk) m.a.live m.b.live c.poll.new.self.live m.a.end m.b.end c.poll.new.self.end c.len-moment.result m.order c.poll.ensures.same c.len-moment.ensures (c.lawful.ensures t.0).log.lawful (of_poll _ _ _ _ _ _ _ _ (subst (λ v. HalfPolls v c.len-moment.result c.poll.result m.a.live c.poll.new.self.live m.a.end c.poll.new.self.end (g.A.Disk.state m.a.disk).log (g.A.Disk.state c.poll.new.self.disk).log) t.0 c.poll.ensures.step)) (m.told tells)));
    }

pub returns-clause-log : goal.returns-clause-log
returns-clause-log g c = λ tells.
    let m = c.args.self.now in
    let t = and_parts g.A.Disk.tells g.B.Disk.tells tells in
    ap (λ (o : OrderState). log_of (g.A.Disk.state c.poll.new.self.disk).log (g.B.Disk.state m.b.disk).log o.events) c.hear.ensures ∙ (first_log (g.A.Disk.state m.a.disk) (g.B.Disk.state m.b.disk) (g.A.Disk.state c.poll.new.self.disk) m.a.live m.b.live c.poll.new.self.live m.a.end m.b.end c.poll.new.self.end c.len-moment.result m.order (of_poll _ _ _ _ _ _ _ _ (subst (λ v. HalfPolls v c.len-moment.result c.poll.result m.a.live c.poll.new.self.live m.a.end c.poll.new.self.end (g.A.Disk.state m.a.disk).log (g.A.Disk.state c.poll.new.self.disk).log) t.0 c.poll.ensures.step)) (m.told tells))

pub returns-in-None-clause-hears : goal.returns-in-None-clause-hears
returns-in-None-clause-hears g c = λ tells.
    let m = c.args.self.now in
    let t = and_parts g.A.Disk.tells g.B.Disk.tells tells in
    hears_none First m.order.pairs _ _ _ _ _ _ _ _ m.order.heard (subst (λ v. HalfPolls v c.len-moment.result c.poll.result m.a.live c.poll.new.self.live m.a.end c.poll.new.self.end (g.A.Disk.state m.a.disk).log (g.A.Disk.state c.poll.new.self.disk).log) t.0 c.poll.ensures.step) c.in-None.is

pub returns-in-None-ticket_with-clause-hears : goal.returns-in-None-ticket_with-clause-hears
returns-in-None-ticket_with-clause-hears g c = λ tells.
    let m = c.args.self.now in
    let t = and_parts g.A.Disk.tells g.B.Disk.tells tells in
    let was = poll_open _ _ _ _ _ _ _ _ _ (subst (λ v. HalfPolls v c.len-moment.result c.poll.result m.a.live c.poll.new.self.live m.a.end c.poll.new.self.end (g.A.Disk.state m.a.disk).log (g.A.Disk.state c.poll.new.self.disk).log) t.0 c.poll.ensures.step) c.in-Some.is in
    absurd (row_first (g.A.Disk.state m.a.disk) (g.B.Disk.state m.b.disk) m.a.live m.b.live m.a.end m.b.end m.order c.ticket_with.result c.in-Some.ticket was.0 was.1.0 c.ticket_with.ensures.all (m.told tells) c.in-None-ticket_with.is)

pub returns-clause-hears : goal.returns-clause-hears
returns-clause-hears g c = λ tells.
    let m = c.args.self.now in
    let t = and_parts g.A.Disk.tells g.B.Disk.tells tells in
    let found = if_some (λ own. (0 < own) × (own ≤ length m.order.pairs) × (ticket_on First m.order.pairs (Some own) ≡ Some c.in-Some.ticket)) c.ticket_with.result c.in-Some-ticket_with.own c.ticket_with.ensures.found c.in-Some-ticket_with.is in
    hears_one First m.order.pairs _ _ _ _ _ _ _ _ m.order.heard c.hear.new.self.heard c.in-Some.ticket c.in-Some-ticket_with.own (subst (λ v. HalfPolls v c.len-moment.result c.poll.result m.a.live c.poll.new.self.live m.a.end c.poll.new.self.end (g.A.Disk.state m.a.disk).log (g.A.Disk.state c.poll.new.self.disk).log) t.0 c.poll.ensures.step) c.in-Some.is found.2 (ap (λ (o : OrderState). o.heard) c.hear.ensures)
